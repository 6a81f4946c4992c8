-- The fate of a place, computed, and the list, by fates (specs/Rules/SalvageRule.antt).
use Prim.Native.Nat.{ℕ, zero, suc, ◌+◌, ◌*◌, ◌/◌, ◌%◌, ◌≤◌, ◌<◌}
use mathlib.Core.Path.{◌≡◌, refl, sym, ap, subst, ◌∙◌}
use mathlib.Core.Bool.{true, false}
use mathlib.Core.Logic.{◌≢◌, ◌⊎◌, inl, inr, ⊎_elim}
use mathlib.Core.List.{List, [], ◌∷◌, ◌++◌}
use native.Mathlib.Nat.{mod-lt}
use native.Mathlib.Omega.{arith}
use borrow.Author.Tests.{eqb-true}
use lib.ListN.{length, take, drop, length-append}
use Rattle.octets.specs.Choice.{pick}
use Rattle.octets.specs.Octets.{part, big_endian}
use Rattle.octets.specs.Order.{all_zero}
use Rattle.octets.proofs.Choice.{opposite, pick_true, pick-false, tested, is_false, both-true-left}
use Rattle.routes.specs.Route.{nlri_of, holds}
use Rattle.routes.specs.Place.{route_in, place_sound}
use Rattle.routes.specs.Salvage.{place_at, good_of, reason_of, reason_at, Dropped, dropped, dropped_of, dropped_octets, list_of}
use Rattle.routes.specs.Rules.SalvageRule.{KeptPlace, Fate, zeroed, bad, repeated, kept, ListUpto, start, passed, listed}
use Rattle.routes.proofs.Definitions.Bounds.{sizes-of}
use Rattle.routes.proofs.Definitions.Places.{sound-acceptable}
use Rattle.routes.proofs.Definitions.Lookups.{absent-holds, holds-absent}
use Rattle.routes.proofs.Definitions.Salvages.{dropped-none, dropped-one, list-last}
use Rattle.routes.proofs.Statements.Salvaging.KeptPlaces.{zero-tested, tested-zero, good-tested, tested-good, good-nlri, kept-place, place_kept, earlier-held, held_kept}

-- an all-zero place is not good
no-nlri : (place : List ℕ) → all_zero place ≡ true → length (nlri_of (route_in place)) ≡ 0
unfolding route_in nlri_of part all_zero
no-nlri [] h = refl
no-nlri (x ∷ s) h = ap (λ (k : ℕ). length (take k (drop 2 (x ∷ s)))) (eqb-true x 0 (both-true-left _ _ h))

zero-unsound : (afi : ℕ) (place : List ℕ) → all_zero place ≡ true → place_sound afi place ≡ false
zero-unsound afi place h =
    is_false _ (λ s. let a = (sizes-of afi (route_in place) (sound-acceptable afi place s)).least in let b = no-nlri place h in omega arith)

module _ (afi : ℕ) (m : List ℕ) (n : ℕ) where
  -- the fate of a place
  pub fate_of : ℕ
  fate_of = pick (place_sound afi (place_at m n)) (pick (holds (nlri_of (route_in (place_at m n))) (good_of afi m n)) 2 3) (pick (all_zero (place_at m n)) 0 1)

  pub fate-holds : Fate afi m n fate_of
  unfolding fate_of
  fate-holds =
      tested (place_sound afi (place_at m n))
      (λ t.
      let g = tested-good m n afi t in
      tested (holds (nlri_of (route_in (place_at m n))) (good_of afi m n))
      (λ u.
      let k = held_kept afi m n (nlri_of (route_in (place_at m n))) u in
      subst (Fate afi m n) (sym (pick_true _ _ _ t ∙ pick_true _ _ _ u)) (repeated g k.0 k.1 k.2 (k.3 ∙ good-nlri m n afi g)))
      (λ u. subst (Fate afi m n) (sym (pick_true _ _ _ t ∙ pick-false _ _ _ u)) (kept (kept-place afi m n t (absent-holds _ _ u)))))
      (λ t.
      tested (all_zero (place_at m n))
      (λ u. subst (Fate afi m n) (sym (pick-false _ _ _ t ∙ pick_true _ _ _ u)) (zeroed (tested-zero m n u)))
      (λ u. subst (Fate afi m n) (sym (pick-false _ _ _ t ∙ pick-false _ _ _ u)) (bad (λ z. opposite (zero-tested m n z) u) (λ g. opposite (good-tested m n afi g) t))))

  -- a place that is kept is good, and the good places before it do not hold its NLRI
  pub fate-kept : KeptPlace afi m n → fate_of ≡ 3
  unfolding fate_of
  fate-kept k = pick_true _ _ _ (good-tested m n afi k.good) ∙ pick-false _ _ _ (holds-absent _ _ (place_kept afi m n k))

  -- each fate excludes the others
  pub fate-is : (fate : ℕ) → Fate afi m n fate → fate_of ≡ fate
  unfolding fate_of
  fate-is fate (zeroed z) = pick-false _ _ _ (zero-unsound afi (place_at m n) (zero-tested m n z)) ∙ pick_true _ _ _ (zero-tested m n z)
  fate-is fate (bad z g) =
      pick-false _ _ _ (is_false _ (λ t. g (tested-good m n afi t))) ∙ pick-false _ _ _ (is_false _ (λ u. z (tested-zero m n u)))
  fate-is fate (repeated g k less p e) =
      pick_true _ _ _ (good-tested m n afi g) ∙ pick_true _ _ _ (earlier-held afi m n k (nlri_of (route_in (place_at m n))) less p.good (e ∙ sym (good-nlri m n afi g)))
  fate-is fate (kept p) = fate-kept p

  -- the reason is the fate of a place that is dropped, else 0
  pub reason-fate : ((reason_at afi m n ≡ 0) × ((fate_of ≡ 0) ⊎ (fate_of ≡ 3))) ⊎ ((reason_at afi m n ≡ fate_of) × ((fate_of ≡ 1) ⊎ (fate_of ≡ 2)))
  unfolding reason_at reason_of fate_of
  reason-fate =
      tested (place_sound afi (place_at m n))
      (λ t.
      tested (holds (nlri_of (route_in (place_at m n))) (good_of afi m n))
      (λ u. inr (pick_true _ _ _ t ∙ pick_true _ _ _ u ∙ sym (pick_true _ _ _ t ∙ pick_true _ _ _ u), inr (pick_true _ _ _ t ∙ pick_true _ _ _ u)))
      (λ u. inl (pick_true _ _ _ t ∙ pick-false _ _ _ u, inr (pick_true _ _ _ t ∙ pick-false _ _ _ u))))
      (λ t.
      tested (all_zero (place_at m n))
      (λ u. inl (pick-false _ _ _ t ∙ pick_true _ _ _ u, inl (pick-false _ _ _ t ∙ pick_true _ _ _ u)))
      (λ u. inr (pick-false _ _ _ t ∙ pick-false _ _ _ u ∙ sym (pick-false _ _ _ t ∙ pick-false _ _ _ u), inl (pick-false _ _ _ t ∙ pick-false _ _ _ u))))

-- the list, place by place
number-octets : (number reason : ℕ) → number < 65536 → (high : ℕ) × (low : ℕ) × (dropped_octets (dropped number reason) ≡ high ∷ (low ∷ (reason ∷ []))) × (number ≡ 256 * high + low) × (low < 256)
unfolding dropped_octets big_endian
number-octets number reason h = (number / 256 % 256, number % 256, refl, omega arith, mod-lt number (omega arith))

pub list-upto : (afi : ℕ) (m : List ℕ) (n : ℕ) → n ≤ 65536 → ListUpto afi m n (list_of (dropped_of afi m n)) (length (dropped_of afi m n))
unfolding dropped_of list_of
list-upto afi m zero h = start
list-upto afi m (suc n) h =
    ⊎_elim
    (λ p.
    subst (λ (ds : List Dropped). ListUpto afi m (suc n) (list_of ds) (length ds)) (sym (dropped-none afi m n p.0))
    (passed (list-upto afi m n (omega arith))
    (⊎_elim (λ z. inl (subst (Fate afi m n) z (fate-holds afi m n))) (λ k. inr (subst (Fate afi m n) k (fate-holds afi m n))) p.1)))
    (λ p.
    let reason : ℕ = reason_at afi m n in
    let some : reason ≢ 0 = λ z. ⊎_elim (λ a. omega arith) (λ a. omega arith) p.1 in
    let e = number-octets n reason (omega arith) in
    let ds : List Dropped = dropped_of afi m n in
    let octets : list_of (dropped_of afi m (suc n)) ≡ list_of ds ++ (e.0 ∷ (e.1 ∷ (reason ∷ []))) =
    ap list_of (dropped-one afi m n some) ∙ list-last ds (dropped n reason) ∙ ap (λ (l : List ℕ). list_of ds ++ l) e.2 in
    let count : length (dropped_of afi m (suc n)) ≡ suc (length ds) =
    ap length (dropped-one afi m n some) ∙ length-append ds (dropped n reason ∷ []) ∙ omega arith in
    subst (λ (l : List ℕ). ListUpto afi m (suc n) l (length (dropped_of afi m (suc n)))) (sym octets)
    (subst (ListUpto afi m (suc n) (list_of ds ++ (e.0 ∷ (e.1 ∷ (reason ∷ []))))) (sym count)
    (listed e.0 e.1 (list-upto afi m n (omega arith)) (⊎_elim (λ a. inl (p.0 ∙ a)) (λ a. inr (p.0 ∙ a)) p.1) (subst (Fate afi m n) (sym p.0) (fate-holds afi m n)) e.3 e.4)))
    (reason-fate afi m n)
