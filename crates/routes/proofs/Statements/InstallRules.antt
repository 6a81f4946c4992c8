-- Install (specs/Rules/CallRules.antt, `InstallRule`).
use Prim.Native.Nat.{ℕ}
use mathlib.Core.Path.{◌≡◌, refl, sym, ap, subst, ◌∙◌}
use mathlib.Core.Bool.{true}
use mathlib.Core.Logic.{◌≢◌, ◌⊎◌, inl, inr, ⊎_elim}
use mathlib.Core.List.{List}
use native.Mathlib.Omega.{arith}
use borrow.Author.Tests.{ltb-true, ltb-false, lt-ltb, le-ltb}
use lib.ListN.{length}
use Rattle.octets.specs.Numbers.{DONE, ROOM}
use Rattle.octets.specs.Outcome.{Outcome, given, refused, on_outcome, number_of}
use Rattle.octets.proofs.Choice.{pick_true, pick-false, picked}
use Rattle.octets.proofs.Outcome.{never, given-unless, passed, given-same, outcome, stopped, refused-same, refuses-unless, and-goes-on, and-stops, refused-of, number-refused, number-given, done-given}
use Rattle.routes.specs.declared.Installed.{Installed}
use Rattle.routes.specs.Route.{Route, route, nlri_of, attribute_of, held, lookup, inserted}
use Rattle.routes.specs.Arguments.{read_route}
use Rattle.routes.specs.Table.{image_of, afi_in, places_in, routes_of, sound_of}
use Rattle.routes.specs.Answers.{NEW, REPLACED, installed_of}
use Rattle.routes.specs.Calls.{entering, install_outcome, install_of}
use Rattle.routes.specs.Rules.Images.{Holdable, TableOf}
use Rattle.routes.specs.Rules.CallRules.{IsHeld, HeldNow, Installable, Full, Free, InstallRefusal, install_unsound, bad_route, no_room, InstallDone, is_replaced, is_new, InstallRule}
use Rattle.routes.proofs.Statements.ArgumentRules.{argument_rule}
use Rattle.routes.proofs.Definitions.Bounds.{route-read, read-acceptable}
use Rattle.routes.proofs.Definitions.ByArguments.{number-route}
use Rattle.routes.proofs.Definitions.Holding.{holdable-inserted}
use Rattle.routes.proofs.Statements.Images.{images, sound, sound-holdable, length-image}
use Rattle.routes.proofs.Definitions.Lookups.{absent-holds, holds-absent, held-holds, holds-held, lookup-inserted, held-now}

-- a route that is acceptable enters a table
module _ (t : List ℕ) (r : Route) where
  entering-held : IsHeld (nlri_of r) (routes_of t) → entering (places_in t) (routes_of t) r ≡ given REPLACED
  unfolding entering
  entering-held h = pick_true _ _ _ (holds-held (nlri_of r) (routes_of t) h.0 h.1)

  entering-free : Free t (nlri_of r) → entering (places_in t) (routes_of t) r ≡ given NEW
  unfolding entering
  entering-free h = pick-false _ _ _ (holds-absent (nlri_of r) (routes_of t) h.missing) ∙ pick_true _ _ _ (lt-ltb (length (routes_of t)) (places_in t) h.place)

  entering-full : Full t (nlri_of r) → entering (places_in t) (routes_of t) r ≡ refused ROOM
  unfolding entering
  entering-full h = pick-false _ _ _ (holds-absent (nlri_of r) (routes_of t) h.missing) ∙ pick-false _ _ _ (le-ltb (length (routes_of t)) (places_in t) (omega (arith, h.places)))

  entered : (o : ℕ) → entering (places_in t) (routes_of t) r ≡ given o → (IsHeld (nlri_of r) (routes_of t) × (o ≡ REPLACED)) ⊎ (Free t (nlri_of r) × (o ≡ NEW))
  unfolding entering
  entered o e =
      ⊎_elim (λ yes. inl (held-holds (nlri_of r) (routes_of t) yes.0, sym (given-same yes.1)))
      (λ no.
      ⊎_elim (λ free. inr (record { missing = absent-holds (nlri_of r) (routes_of t) no.0; place = ltb-true _ _ free.0 }, sym (given-same free.1)))
      (λ full. absurd (never full.1 refl)) (picked _ _ _ _ no.1))
      (picked _ _ _ _ e)

  kept_out : sound_of t ≡ true → (n : ℕ) → entering (places_in t) (routes_of t) r ≡ refused n → Full t (nlri_of r) × (n ≡ ROOM)
  unfolding entering
  kept_out s n e =
      ⊎_elim (λ yes. absurd (never refl yes.1))
      (λ no.
      let p = refuses-unless ROOM n _ _ no.1 in
      (record { missing = absent-holds (nlri_of r) (routes_of t) no.0; places = omega (arith, (sound-holdable t s).within, ltb-false (length (routes_of t)) (places_in t) p.0) }, p.1))
      (picked _ _ _ _ e)

-- what an install that is not refused found
pub record Entered (t nlri attribute : List ℕ) (o : ℕ) : Type 0 where
  pub asked : Installable t nlri attribute
  pub found : (IsHeld nlri (routes_of t) × (o ≡ REPLACED)) ⊎ (Free t nlri × (o ≡ NEW))

module _ (t nlri attribute : List ℕ) where
  asks : sound_of t ≡ true → (r : Route) → read_route (afi_in t) nlri attribute ≡ given r → Installable t nlri attribute
  asks s r e =
      let p = (argument_rule.accepted_route (afi_in t) nlri attribute).0 (e ∙ ap given (route-read (afi_in t) nlri attribute r e)) in
      record { sound = s; named = p.0; labelled = p.1 }

  route-given : Installable t nlri attribute → read_route (afi_in t) nlri attribute ≡ given (route nlri attribute)
  route-given a = (argument_rule.accepted_route (afi_in t) nlri attribute).1 (a.named, a.labelled)

  -- the outcome is what entering comes to, for what is not refused before
  entering-decides : Installable t nlri attribute → install_outcome t nlri attribute ≡ entering (places_in t) (routes_of t) (route nlri attribute)
  unfolding install_outcome
  entering-decides h = pick_true _ _ _ h.sound ∙ sym (and-goes-on _ _ _ _ (route-given h) refl)

  install-given : (o : ℕ) → install_outcome t nlri attribute ≡ given o → Entered t nlri attribute o
  unfolding install_outcome nlri_of
  install-given o e =
      let p = given-unless _ _ _ _ e in
      let q = passed _ _ _ p.1 in
      let a = asks p.0 q.value q.first in
      record { asked = a; found = entered t (route nlri attribute) o (sym (entering-decides a) ∙ e) }

  refusal : (n : ℕ) → install_outcome t nlri attribute ≡ refused n → InstallRefusal t nlri attribute n
  unfolding install_outcome nlri_of
  refusal n e =
      ⊎_elim
      (λ yes.
      ⊎_elim (λ first. bad_route yes.0 ((argument_rule.refused_route (afi_in t) nlri attribute n).0 first))
      (λ later.
      let a = asks yes.0 later.value later.first in
      let full = kept_out t (route nlri attribute) yes.0 n (sym (entering-decides a) ∙ e) in
      subst (InstallRefusal t nlri attribute) (sym full.1) (no_room a full.0))
      (stopped _ _ _ yes.1))
      (λ no. subst (InstallRefusal t nlri attribute) (refused-same {A = ℕ} no.1) (install_unsound no.0))
      (picked _ _ _ _ e)

  refuses : {n : ℕ} → InstallRefusal t nlri attribute n → install_outcome t nlri attribute ≡ refused n
  unfolding install_outcome nlri_of
  refuses (install_unsound h) = pick-false _ _ _ h
  refuses (bad_route s r) = pick_true _ _ _ s ∙ sym (and-stops _ _ _ ((argument_rule.refused_route (afi_in t) nlri attribute _).1 r))
  refuses (no_room a full) = entering-decides a ∙ entering-full t (route nlri attribute) full

  not_done : {n : ℕ} → InstallRefusal t nlri attribute n → n ≢ DONE
  not_done (install_unsound h) e = omega arith
  not_done (bad_route s r) e = (number-route (afi_in t) nlri attribute _ ((argument_rule.refused_route (afi_in t) nlri attribute _).1 r)).0 e
  not_done (no_room a full) e = omega arith

  gives-replaced : Installable t nlri attribute → IsHeld nlri (routes_of t) → install_outcome t nlri attribute ≡ given REPLACED
  unfolding nlri_of
  gives-replaced a h = entering-decides a ∙ entering-held t (route nlri attribute) h

  gives-new : Installable t nlri attribute → Free t nlri → install_outcome t nlri attribute ≡ given NEW
  unfolding nlri_of
  gives-new a h = entering-decides a ∙ entering-free t (route nlri attribute) h

  -- the answer by the outcome
  number : (install_of t nlri attribute).answer.number ≡ number_of (install_outcome t nlri attribute)
  unfolding install_of installed_of number_of on_outcome
  number = go (install_outcome t nlri attribute)
    where
      go : (o : Outcome ℕ) → (installed_of o).number ≡ number_of o
      go (given a) = refl
      go (refused n) = refl

  answer-given : (o : ℕ) → install_outcome t nlri attribute ≡ given o → (install_of t nlri attribute).answer ≡ record { number = DONE; outcome = o }
  unfolding install_of installed_of number_of on_outcome
  answer-given o e = ap installed_of e

  pub install-done : (install_of t nlri attribute).answer.number ≡ DONE → (o : ℕ) × (install_outcome t nlri attribute ≡ given o)
  install-done e = done-given _ (λ n r. not_done (refusal n r)) (sym number ∙ e)

  -- which it is, of the two that install gives
  outcome-is : (o : ℕ) → (install_of t nlri attribute).answer ≡ record { number = DONE; outcome = o } → install_outcome t nlri attribute ≡ given o
  outcome-is o e =
      let p = install-done (ap (λ (x : Installed). x.number) e) in
      p.1 ∙ ap given (ap (λ (x : Installed). x.outcome) (sym (answer-given p.0 p.1) ∙ e))

  install-done-by : (o : ℕ) → install_outcome t nlri attribute ≡ given o → InstallDone t nlri attribute o
  install-done-by o e =
      let p = install-given o e in
      ⊎_elim (λ yes. subst (InstallDone t nlri attribute) (sym yes.1) (is_replaced p.asked yes.0)) (λ no. subst (InstallDone t nlri attribute) (sym no.1) (is_new p.asked no.0)) p.found

  done-answer : {o : ℕ} → InstallDone t nlri attribute o → (install_of t nlri attribute).answer ≡ record { number = DONE; outcome = o }
  done-answer (is_replaced a h) = answer-given REPLACED (gives-replaced a h)
  done-answer (is_new a h) = answer-given NEW (gives-new a h)

  -- the octets by the outcome
  pub install-octets : (o : ℕ) → install_outcome t nlri attribute ≡ given o → (install_of t nlri attribute).octets ≡ image_of (afi_in t) (places_in t) (inserted (route nlri attribute) (routes_of t))
  unfolding install_of on_outcome
  install-octets o e = rw e

  install-leaves : (n : ℕ) → install_outcome t nlri attribute ≡ refused n → (install_of t nlri attribute).octets ≡ t
  unfolding install_of on_outcome
  install-leaves n e = rw e

  install-holdable : (o : ℕ) → install_outcome t nlri attribute ≡ given o → Holdable (afi_in t) (places_in t) (inserted (route nlri attribute) (routes_of t))
  unfolding nlri_of attribute_of
  install-holdable o e =
      let p = install-given o e in
      holdable-inserted (afi_in t) (places_in t) (routes_of t) (sound-holdable t p.asked.sound) (route nlri attribute)
      (read-acceptable (afi_in t) (route nlri attribute) (route nlri attribute) (route-given p.asked))
      (⊎_elim (λ yes. inl (holds-held nlri (routes_of t) yes.0.0 yes.0.1)) (λ no. inr no.0.place) p.found)

  after-given : (o : ℕ) → install_outcome t nlri attribute ≡ given o → TableOf (afi_in t) (places_in t) (inserted (route nlri attribute) (routes_of t)) (install_of t nlri attribute).octets
  after-given o e = subst (TableOf _ _ _) (sym (install-octets o e)) (images.imaged (afi_in t) (places_in t) (inserted (route nlri attribute) (routes_of t)) (install-holdable o e))

  held_after : (o : ℕ) → install_outcome t nlri attribute ≡ given o → HeldNow nlri (held (route nlri attribute)) (routes_of t) (routes_of (install_of t nlri attribute).octets)
  unfolding nlri_of
  held_after o e = held-now (route nlri attribute) (routes_of t) _ (λ n. ap (lookup n) (after-given o e).routes ∙ lookup-inserted n (route nlri attribute) (routes_of t))

  size : length (install_of t nlri attribute).octets ≡ length t
  size =
      ⊎_elim
      (λ p.
      ap length (install-octets p.0 p.1) ∙ length-image (afi_in t) (places_in t) (inserted (route nlri attribute) (routes_of t)) (install-holdable p.0 p.1)
      ∙ sym (sound t (install-given p.0 p.1).asked.sound).size.is)
      (λ p. ap length (install-leaves p.0 p.1))
      (outcome (install_outcome t nlri attribute))

  empty : (install_of t nlri attribute).answer.number ≢ DONE → (install_of t nlri attribute).answer.outcome ≡ 0
  unfolding install_of installed_of number_of on_outcome
  empty = go (install_outcome t nlri attribute)
    where
      go : (o : Outcome ℕ) → (installed_of o).number ≢ DONE → (installed_of o).outcome ≡ 0
      go (given a) h = absurd (h refl)
      go (refused n) h = refl

pub install_rule : InstallRule
install_rule =
    record {
      refuses = λ t nlri attribute n h. (
        λ e. refusal t nlri attribute n (refused-of _ n (sym e ∙ number t nlri attribute) h),
        λ r. number t nlri attribute ∙ number-refused (refuses t nlri attribute r),
      );
      done = λ t nlri attribute o. (λ e. install-done-by t nlri attribute o (outcome-is t nlri attribute o e), done-answer t nlri attribute);
      installed = λ t nlri attribute e. let p = install-done t nlri attribute e in held_after t nlri attribute p.0 p.1;
      after = λ t nlri attribute e. let p = install-done t nlri attribute e in after-given t nlri attribute p.0 p.1;
      size = size;
      empty = empty;
      untouched = λ t nlri attribute h.
          ⊎_elim (λ p. absurd (h (number t nlri attribute ∙ number-given p.1))) (λ p. install-leaves t nlri attribute p.0 p.1) (outcome (install_outcome t nlri attribute));
    }
