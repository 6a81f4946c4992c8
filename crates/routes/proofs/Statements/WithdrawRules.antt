-- Withdraw (specs/Rules/CallRules.antt, `WithdrawRule`).
use Prim.Native.Nat.{ℕ, suc}
use mathlib.Core.Path.{◌≡◌, refl, sym, ap, subst, ◌∙◌}
use mathlib.Core.Logic.{◌≢◌, ⊎_elim}
use mathlib.Core.List.{List}
use native.Mathlib.Omega.{arith}
use lib.ListN.{length}
use Rattle.octets.specs.Numbers.{DONE, ABSENT}
use Rattle.octets.specs.Outcome.{given, refused, on_outcome, number_of}
use Rattle.octets.proofs.Choice.{pick_true, pick-false, picked}
use Rattle.octets.proofs.Outcome.{given-unless, passed, given-same, outcome, stopped, refused-same, refuses-unless, and-goes-on, and-stops, refused-of, number-refused, number-given, done-given}
use Rattle.routes.specs.Route.{absent, removed}
use Rattle.routes.specs.Table.{image_of, afi_in, places_in, routes_of}
use Rattle.routes.specs.Calls.{leaving, withdraw_outcome, withdraw_of}
use Rattle.routes.specs.Rules.Images.{Holdable, TableOf}
use Rattle.routes.specs.Rules.CallRules.{IsHeld, HeldNow, Withdrawable, WithdrawRefusal, withdraw_unsound, bad_name, not_held, WithdrawRule}
use Rattle.routes.proofs.Statements.ArgumentRules.{argument_rule, nlri-accepted, nlri-accepts}
use Rattle.routes.proofs.Definitions.ByArguments.{number-s-pmsi}
use Rattle.routes.proofs.Definitions.Holding.{holdable-removed}
use Rattle.routes.proofs.Statements.Images.{images, sound, sound-holdable, length-image}
use Rattle.routes.proofs.Definitions.Lookups.{absent-holds, holds-absent, held-holds, holds-held, removed-now}
use Rattle.routes.proofs.Definitions.Increases.{distinct-increasing, length-removed-held}

-- what a withdrawal that is not refused found
pub record Left (t nlri : List ℕ) : Type 0 where
  pub asked : Withdrawable t nlri
  pub found : IsHeld nlri (routes_of t)

module _ (t nlri : List ℕ) where
  -- the outcome is what leaving comes to, for what is not refused before
  leaving-decides : Withdrawable t nlri → withdraw_outcome t nlri ≡ leaving (routes_of t) nlri
  unfolding withdraw_outcome
  leaving-decides h = pick_true _ _ _ h.sound ∙ sym (and-goes-on _ _ _ _ (nlri-accepts (afi_in t) nlri h.named) refl)

  withdraw-given : (n : List ℕ) → withdraw_outcome t nlri ≡ given n → Left t nlri × (n ≡ nlri)
  unfolding withdraw_outcome leaving
  withdraw-given n e =
      let p = given-unless _ _ _ _ e in
      let q = passed _ _ _ p.1 in
      let r = given-unless _ _ _ _ q.second in
      (record { asked = record { sound = p.0; named = nlri-accepted (afi_in t) nlri q.value q.first }; found = held-holds nlri (routes_of t) r.0 }, sym (given-same r.1))

  refusal : (n : ℕ) → withdraw_outcome t nlri ≡ refused n → WithdrawRefusal t nlri n
  unfolding withdraw_outcome leaving
  refusal n e =
      ⊎_elim
      (λ yes.
      ⊎_elim (λ first. bad_name yes.0 ((argument_rule.refused_nlri (afi_in t) nlri n).0 first))
      (λ later.
      let p = refuses-unless ABSENT n _ _ later.second in
      subst (WithdrawRefusal t nlri) (sym p.1) (not_held (record { sound = yes.0; named = nlri-accepted (afi_in t) nlri later.value later.first }) (absent-holds nlri (routes_of t) p.0)))
      (stopped _ _ _ yes.1))
      (λ no. subst (WithdrawRefusal t nlri) (refused-same {A = List ℕ} no.1) (withdraw_unsound no.0))
      (picked _ _ _ _ e)

  refuses : {n : ℕ} → WithdrawRefusal t nlri n → withdraw_outcome t nlri ≡ refused n
  unfolding withdraw_outcome leaving
  refuses (withdraw_unsound h) = pick-false _ _ _ h
  refuses (bad_name s r) = pick_true _ _ _ s ∙ sym (and-stops _ _ _ ((argument_rule.refused_nlri (afi_in t) nlri _).1 r))
  refuses (not_held a missing) = leaving-decides a ∙ pick-false _ _ _ (holds-absent nlri (routes_of t) missing)

  gives : Withdrawable t nlri → IsHeld nlri (routes_of t) → withdraw_outcome t nlri ≡ given nlri
  unfolding leaving
  gives a h = leaving-decides a ∙ pick_true _ _ _ (holds-held nlri (routes_of t) h.0 h.1)

  not_done : {n : ℕ} → WithdrawRefusal t nlri n → n ≢ DONE
  not_done (withdraw_unsound h) e = omega arith
  not_done (bad_name s r) e = (number-s-pmsi (afi_in t) nlri _ ((argument_rule.refused_nlri (afi_in t) nlri _).1 r)).0 e
  not_done (not_held a missing) e = omega arith

  number : (withdraw_of t nlri).answer ≡ number_of (withdraw_outcome t nlri)
  unfolding withdraw_of
  number = refl

  pub withdraw-done : (withdraw_of t nlri).answer ≡ DONE → withdraw_outcome t nlri ≡ given nlri
  withdraw-done e =
      let p = done-given _ (λ n r. not_done (refusal n r)) (sym number ∙ e) in
      p.1 ∙ ap given (withdraw-given p.0 p.1).1

  -- the octets by the outcome
  pub withdraw-octets : withdraw_outcome t nlri ≡ given nlri → (withdraw_of t nlri).octets ≡ image_of (afi_in t) (places_in t) (removed nlri (routes_of t))
  unfolding withdraw_of on_outcome
  withdraw-octets e = rw e

  withdraw-leaves : (n : ℕ) → withdraw_outcome t nlri ≡ refused n → (withdraw_of t nlri).octets ≡ t
  unfolding withdraw_of on_outcome
  withdraw-leaves n e = rw e

  withdraw-holdable : withdraw_outcome t nlri ≡ given nlri → Holdable (afi_in t) (places_in t) (removed nlri (routes_of t))
  withdraw-holdable e = holdable-removed (afi_in t) (places_in t) (routes_of t) (sound-holdable t (withdraw-given nlri e).0.asked.sound) nlri

  after-given : withdraw_outcome t nlri ≡ given nlri → TableOf (afi_in t) (places_in t) (removed nlri (routes_of t)) (withdraw_of t nlri).octets
  after-given e = subst (TableOf _ _ _) (sym (withdraw-octets e)) (images.imaged (afi_in t) (places_in t) (removed nlri (routes_of t)) (withdraw-holdable e))

  -- by what the outcome is
  either-outcome : {P : Type 0} → (withdraw_outcome t nlri ≡ given nlri → P) → ((n : ℕ) → withdraw_outcome t nlri ≡ refused n → P) → P
  either-outcome held bad = ⊎_elim (λ p. held (p.1 ∙ ap given (withdraw-given p.0 p.1).1)) (λ p. bad p.0 p.1) (outcome (withdraw_outcome t nlri))

  size : length (withdraw_of t nlri).octets ≡ length t
  size =
      either-outcome
      (λ e.
      ap length (withdraw-octets e) ∙ length-image (afi_in t) (places_in t) (removed nlri (routes_of t)) (withdraw-holdable e)
      ∙ sym (sound t (withdraw-given nlri e).0.asked.sound).size.is)
      (λ n e. ap length (withdraw-leaves n e))

  held_after : withdraw_outcome t nlri ≡ given nlri → HeldNow nlri absent (routes_of t) (routes_of (withdraw_of t nlri).octets)
  held_after e = rw (after-given e).routes (removed-now nlri (distinct-increasing (sound-holdable t (withdraw-given nlri e).0.asked.sound).increasing))

  room : withdraw_outcome t nlri ≡ given nlri → suc (length (routes_of (withdraw_of t nlri).octets)) ≡ length (routes_of t)
  room e =
      let f = (withdraw-given nlri e).0.found in
      ap (λ x. suc (length x)) (after-given e).routes ∙ length-removed-held nlri (routes_of t) (holds-held nlri (routes_of t) f.0 f.1)

pub withdraw_rule : WithdrawRule
withdraw_rule =
    record {
      refuses = λ t nlri n h. (λ e. refusal t nlri n (refused-of _ n (sym e ∙ number t nlri) h), λ r. number t nlri ∙ number-refused (refuses t nlri r));
      done = λ t nlri. (
        λ e. let p = (withdraw-given t nlri nlri (withdraw-done t nlri e)).0 in (p.asked, p.found),
        λ h. number t nlri ∙ number-given (gives t nlri h.0 h.1),
      );
      withdrawn = λ t nlri e. held_after t nlri (withdraw-done t nlri e);
      room = λ t nlri e. room t nlri (withdraw-done t nlri e);
      after = λ t nlri e. after-given t nlri (withdraw-done t nlri e);
      size = size;
      untouched = λ t nlri h. either-outcome t nlri (λ e. absurd (h (number t nlri ∙ number-given e))) (withdraw-leaves t nlri);
    }
