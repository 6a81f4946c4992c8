-- Next (specs/Rules/NextRule.antt, `NextRule`): each answer exactly when, and what is told.
use Prim.Native.Nat.{ℕ, ◌≤◌}
use mathlib.Core.Path.{◌≡◌, refl, sym, ◌∙◌, ap, ap₂, subst}
use mathlib.Core.Bool.{Bool, true, false}
use mathlib.Core.List.{List}
use mathlib.Core.Logic.{◌≢◌, ◌⊎◌, ⊎_elim}
use native.Mathlib.Omega.{arith}
use borrow.Author.Tests.{lt-ltb, le-ltb, ltb-true, ltb-false}
use lib.ListN.{length}
use lib.Dec.{eqb}
use Rattle.octets.specs.Numbers.{DONE, SPACE}
use Rattle.octets.specs.Outcome.{Outcome, given, refused, on_outcome, number_of}
use Rattle.octets.specs.Octets.{part}
use Rattle.octets.proofs.Choice.{pick_true, pick-false, picked}
use Rattle.octets.proofs.Outcome.{outcome, given-unless, given-otherwise, refuses-where, refused-same, refused-of, number-refused, number-given, done-given}
use Rattle.routes.specs.declared.Following.{Following}
use Rattle.routes.specs.Route.{Route, entry, nlri_of, attribute_of, stale_of}
use Rattle.routes.specs.Place.{mark_octet}
use Rattle.routes.specs.Table.{afi_in, routes_of, sound_of}
use Rattle.routes.specs.Matching.{Found, nothing, found}
use Rattle.octets.specs.Outputs.{Changed}
use Rattle.routes.specs.Answers.{found_answer, found_output, matched_by}
use Rattle.routes.specs.Next.{next_in, next_outcome, found_mark, following_by, next_of}
use Rattle.routes.specs.Rules.MatchRule.{Untold}
use Rattle.routes.specs.Rules.NextRule.{ComesNext, NoneNext, as_matched, Tells, NextRefusal, next_unsound, next_space, NextRule, told_route}
use Rattle.routes.proofs.Definitions.Increases.{acceptable-member}
use Rattle.routes.proofs.Definitions.Bounds.{Sized, sizes-of}
use Rattle.routes.proofs.Definitions.Nexts.{IsNext, next-is, comes-found, none_found}
use Rattle.routes.proofs.Statements.Images.{sound-holdable}
use Rattle.routes.proofs.Statements.MatchRule.{matched-number, nothing-untold, found-told}

-- a route told is the one that stands in the output, with its mark
pub told-route : (changed : Changed Following) (output : List ℕ) (r : Route) → Tells r output changed → told_route changed ≡ r
unfolding nlri_of attribute_of stale_of
told-route changed output (entry n a s) tells =
    let told = tells.told in
    let nlri : part changed.octets 0 changed.answer.nlri_size ≡ n = ap (part changed.octets 0) told.sizes.0 ∙ told.nlri in
    let attribute : part changed.octets changed.answer.nlri_size changed.answer.attribute_size ≡ a =
    ap₂ (part changed.octets) told.sizes.0 told.sizes.1 ∙ told.attribute in
    let mark : eqb changed.answer.stale 1 ≡ s = by-mark s tells.mark.0 tells.mark.1 in
    λ i. entry (nlri i) (attribute i) (mark i)
  where
    -- the mark told, by the mark of the route
    by-mark : (b : Bool) → (b ≡ true → changed.answer.stale ≡ 1) → (b ≡ false → changed.answer.stale ≡ 0) → eqb changed.answer.stale 1 ≡ b
    by-mark true x y = rw (x refl)
    by-mark false x y = rw (y refl)

-- what is answered where a route comes next
next-tells : (output : List ℕ) → 124 ≤ length output → (r : Route) → Sized r → Tells r output (following_by (given (found 0 r)) output)
unfolding matched_by on_outcome found_answer found_output found_mark mark_octet
next-tells output room r sized =
    record { some = omega (arith, sized.least); told = found-told output room 0 r sized; mark = (λ t. pick_true _ _ _ t, λ f. pick-false _ _ _ f) }

module _ (t nlri output : List ℕ) where
  number : (next_of t nlri output).answer.number ≡ number_of (next_outcome t nlri output)
  unfolding next_of
  number = matched-number output (next_outcome t nlri output)

  refusal : (n : ℕ) → next_outcome t nlri output ≡ refused n → NextRefusal t output n
  unfolding next_outcome
  refusal n e =
      ⊎_elim
      (λ yes. let p = refuses-where SPACE n _ _ yes.1 in subst (NextRefusal t output) (sym p.1) (next_space yes.0 (ltb-true _ _ p.0)))
      (λ no. subst (NextRefusal t output) (refused-same {A = Found} no.1) (next_unsound no.0))
      (picked _ _ _ _ e)

  refuses : {n : ℕ} → NextRefusal t output n → next_outcome t nlri output ≡ refused n
  unfolding next_outcome
  refuses (next_unsound h) = pick-false _ _ _ h
  refuses (next_space s h) = pick_true _ _ _ s ∙ pick_true _ _ _ (lt-ltb _ _ h)

  not_done : {n : ℕ} → NextRefusal t output n → n ≢ DONE
  not_done (next_unsound h) e = omega arith
  not_done (next_space s h) e = omega arith

  serves : sound_of t ≡ true → 124 ≤ length output → next_outcome t nlri output ≡ given (next_in nlri (routes_of t))
  unfolding next_outcome
  serves s h = pick_true _ _ _ s ∙ pick-false _ _ _ (le-ltb _ _ h)

  served : (f : Found) → next_outcome t nlri output ≡ given f → (sound_of t ≡ true) × (124 ≤ length output)
  unfolding next_outcome
  served f e =
      let s = given-unless _ _ _ _ e in
      (s.0, ltb-false _ _ (given-otherwise _ _ _ _ s.1).0)

  done : (next_of t nlri output).answer.number ≡ DONE → (sound_of t ≡ true) × (124 ≤ length output)
  done e = let p = done-given _ (λ n r. not_done (refusal n r)) (sym number ∙ e) in served p.0 p.1

  -- on a sound table, with an output that every route fits into
  module _ (s : sound_of t ≡ true) (room : 124 ≤ length output) where
    answered : (f : Found) → next_in nlri (routes_of t) ≡ f → next_of t nlri output ≡ following_by (given f) output
    unfolding next_of
    answered f e = ap (λ (o : Outcome Found). following_by o output) (serves s room ∙ ap given e)

    is-next : IsNext nlri (routes_of t) (next_in nlri (routes_of t))
    is-next = next-is nlri (sound-holdable t s).increasing

    sized : (r : Route) → ComesNext nlri (routes_of t) r → Sized r
    sized r c = sizes-of (afi_in t) r (acceptable-member (sound-holdable t s).acceptable c.member)

    pub comes-told : (r : Route) → ComesNext nlri (routes_of t) r → Tells r output (next_of t nlri output)
    comes-told r c =
        subst (Tells r output) (sym (answered (found 0 r) (comes-found nlri (sound-holdable t s).increasing r c))) (next-tells output room r (sized r c))

    pub told-comes : (r : Route) → Tells r output (next_of t nlri output) → ComesNext nlri (routes_of t) r
    unfolding matched_by on_outcome found_answer
    told-comes r tells = go (next_in nlri (routes_of t)) refl is-next
      where
        go : (f : Found) → next_in nlri (routes_of t) ≡ f → IsNext nlri (routes_of t) f → ComesNext nlri (routes_of t) r
        go nothing e none = let some = (subst (Tells r output) (answered nothing e) tells).some in absurd (omega arith)
        go (found tier q) e next =
            let same : q ≡ r = sym (told-route (next_of t nlri output) output q (comes-told q next.1)) ∙ told-route (next_of t nlri output) output r tells in
            subst (ComesNext nlri (routes_of t)) same next.1

    pub none_told_lem : NoneNext nlri (routes_of t) → (next_of t nlri output).answer.nlri_size ≡ 0
    unfolding matched_by on_outcome found_answer
    none_told_lem none = ap (λ (c : Changed Following). c.answer.nlri_size) (answered nothing (none_found nlri (sound-holdable t s).increasing none))

    untold-none : (next_of t nlri output).answer.nlri_size ≡ 0 → (next_in nlri (routes_of t) ≡ nothing) × NoneNext nlri (routes_of t)
    untold-none zero = go (next_in nlri (routes_of t)) refl is-next
      where
        go : (f : Found) → next_in nlri (routes_of t) ≡ f → IsNext nlri (routes_of t) f → (next_in nlri (routes_of t) ≡ nothing) × NoneNext nlri (routes_of t)
        go nothing e none = (e, none)
        go (found tier q) e next = let some = (comes-told q next.1).some in absurd (omega arith)

  -- what holds where none is told, and of a refusal
  untold-by : (P : Changed Following → Type 0) → P (following_by (given nothing) output) → ((n : ℕ) → P (following_by (refused n) output))
      → ((next_of t nlri output).answer.number ≢ DONE) ⊎ ((next_of t nlri output).answer.nlri_size ≡ 0) → P (next_of t nlri output)
  unfolding next_of
  untold-by P none bad h =
      ⊎_elim
      (λ p.
      let s = served p.0 p.1 in
      let zero = ⊎_elim (λ no. absurd (no (number ∙ number-given p.1))) (λ zero. zero) h in
      subst P (sym (answered s.0 s.1 nothing (untold-none s.0 s.1 zero).0)) none)
      (λ p. subst (λ (o : Outcome Found). P (following_by o output)) (sym p.1) (bad p.0))
      (outcome (next_outcome t nlri output))

  untold : ((next_of t nlri output).answer.number ≢ DONE) ⊎ ((next_of t nlri output).answer.nlri_size ≡ 0) → Untold output (as_matched (next_of t nlri output))
  unfolding matched_by on_outcome found_answer found_output
  untold h = untold-by (λ (c : Changed Following). Untold output (as_matched c)) (nothing-untold output) (λ n. record { tierless = refl; sizes = (refl, refl); untouched = refl }) h

  -- no mark where no route is told
  no-mark : ((next_of t nlri output).answer.number ≢ DONE) ⊎ ((next_of t nlri output).answer.nlri_size ≡ 0) → (next_of t nlri output).answer.stale ≡ 0
  unfolding on_outcome found_mark
  no-mark h = untold-by (λ (c : Changed Following). c.answer.stale ≡ 0) refl (λ n. refl) h

pub next_rule : NextRule
next_rule =
    record {
      refuses = λ t nlri output n h. (λ e. refusal t nlri output n (refused-of _ n (sym e ∙ number t nlri output) h), λ r. number t nlri output ∙ number-refused (refuses t nlri output r));
      done = λ t nlri output. (done t nlri output, λ h. number t nlri output ∙ number-given (serves t nlri output h.0 h.1));
      tells = λ t nlri output r e. let h = done t nlri output e in (told-comes t nlri output h.0 h.1 r, comes-told t nlri output h.0 h.1 r);
      none = λ t nlri output e. let h = done t nlri output e in (λ zero. (untold-none t nlri output h.0 h.1 zero).1, none_told_lem t nlri output h.0 h.1);
      untold = untold;
      unmarked = no-mark;
    }
