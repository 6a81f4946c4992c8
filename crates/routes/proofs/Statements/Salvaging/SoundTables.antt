-- What salvage makes of a sound table: every route is kept, and no place is dropped (specs/Rules/SalvageRule.antt).
use Prim.Native.Nat.{ℕ, zero, suc, ◌+◌, ◌≤◌, ◌<◌}
use mathlib.Core.Path.{◌≡◌, refl, sym, ap, subst, ◌∙◌}
use mathlib.Core.Bool.{true}
use mathlib.Core.Logic.{◌↔◌, ◌⊎◌, inl, inr, ⊎_elim}
use mathlib.Core.List.{List, []}
use native.Mathlib.Omega.{arith}
use borrow.Author.Tests.{ltb-true, ltb-false}
use lib.Dec.{ltb}
use lib.ListN.{length, get_or}
use Rattle.octets.specs.Order.{before}
use Rattle.octets.specs.Lists.{Among}
use Rattle.octets.proofs.Among.{among-index, index-among}
use Rattle.octets.proofs.Choice.{opposite, tested}
use Rattle.octets.proofs.Orders.{before-then, before-itself}
use Rattle.routes.specs.Route.{Route}
use Rattle.routes.specs.Table.{routes_of}
use Rattle.routes.specs.Salvage.{kept_routes, reason_at, dropped_of}
use Rattle.routes.specs.Rules.SoundRule.{count_at, nlri_in_place, route_in_place, Sound}
use Rattle.routes.specs.Rules.SalvageRule.{place_start, ZeroPlace, KeptPlace, zeroed, kept}
use Rattle.routes.proofs.Definitions.Increases.{increasing-members}
use Rattle.routes.proofs.Definitions.Salvages.{kept-increasing, dropped-none}
use Rattle.routes.proofs.Statements.Images.{sound-holdable}
use Rattle.routes.proofs.Statements.SoundRule.{sound_rule}
use Rattle.routes.proofs.Statements.Salvaging.KeptPlaces.{kept-among}
use Rattle.routes.proofs.Statements.Salvaging.Fates.{fate_of, fate-is, reason-fate}

module _ (t : List ℕ) (s : Sound t) where
  -- NLRIs increase from any taken place to any later one
  increasing-far : (i j : ℕ) → i < j → j < count_at t → before (nlri_in_place t (place_start i)) (nlri_in_place t (place_start j)) ≡ true
  increasing-far i zero less within = absurd (omega arith)
  increasing-far i (suc j) less within =
      let next : suc j ≡ j + 1 = omega arith in
      let step : before (nlri_in_place t (place_start j)) (nlri_in_place t (place_start (suc j))) ≡ true =
      ap (λ (k : ℕ). before (nlri_in_place t (place_start j)) (nlri_in_place t (place_start k))) next ∙ s.increasing j (omega arith) in
      tested (ltb i j) (λ y. before-then _ _ _ (increasing-far i j (ltb-true i j y) (omega arith)) step)
      (λ n.
      let same : i ≡ j = omega (arith, ltb-false i j n) in
      ap (λ (k : ℕ). before (nlri_in_place t (place_start k)) (nlri_in_place t (place_start (suc j)))) same ∙ step)

  -- a taken place is kept, any other is of zeros
  taken-kept : (i : ℕ) → i < count_at t → KeptPlace (get_or t 5 0) t i
  taken-kept i less =
      record {
        good = s.held i less;
        first = λ k before-it g e.
            opposite (ap (λ (n : List ℕ). before n (nlri_in_place t (place_start i))) (sym e) ∙ increasing-far k i before-it less) (before-itself (nlri_in_place t (place_start i)));
      }

  free-zero : (i : ℕ) → count_at t ≤ i → ZeroPlace t i
  free-zero i least k less = s.free (place_start i + k) (omega arith)

  reason-none : (n : ℕ) → reason_at (get_or t 5 0) t n ≡ 0
  reason-none n =
      tested (ltb n (count_at t)) (λ y. none 3 (inr refl) (fate-is (get_or t 5 0) t n 3 (kept (taken-kept n (ltb-true n (count_at t) y)))))
      (λ f. none 0 (inl refl) (fate-is (get_or t 5 0) t n 0 (zeroed (free-zero n (ltb-false n (count_at t) f)))))
    where
      none : (fate : ℕ) → (fate ≡ 0) ⊎ (fate ≡ 3) → fate_of (get_or t 5 0) t n ≡ fate → reason_at (get_or t 5 0) t n ≡ 0
      none fate c e =
          ⊎_elim (λ p. p.0)
          (λ p. absurd (⊎_elim (λ a. ⊎_elim (λ b. omega arith) (λ b. omega arith) p.1) (λ a. ⊎_elim (λ b. omega arith) (λ b. omega arith) p.1) c))
          (reason-fate (get_or t 5 0) t n)

  pub none_dropped : (n : ℕ) → dropped_of (get_or t 5 0) t n ≡ []
  unfolding dropped_of
  none_dropped zero = refl
  none_dropped (suc n) = dropped-none (get_or t 5 0) t n (reason-none n) ∙ none_dropped n

  -- the routes of a table by its places
  routes-among : (r : Route) → Among r (routes_of t) ↔ ((i : ℕ) × (i < count_at t) × (r ≡ route_in_place t (place_start i)))
  routes-among r = (
    λ a.
        let p = among-index r a in
        let within : p.0 < count_at t = (let less = p.1 in omega (arith, sound_rule.count t s)) in
        (p.0, within, sym p.2 ∙ sound_rule.routes t s r p.0 within),
    λ p.
        let within : p.0 < length (routes_of t) = (let less = p.1 in omega (arith, sound_rule.count t s)) in
        subst (λ (q : Route). Among q (routes_of t)) (sound_rule.routes t s r p.0 p.1 ∙ sym p.2) (index-among r (routes_of t) p.0 within),
  )

  pub all-kept : (n : ℕ) → count_at t ≤ n → kept_routes (get_or t 5 0) t n ≡ routes_of t
  all-kept n least =
      increasing-members (kept-increasing (get_or t 5 0) t n) (sound-holdable t ((sound_rule.exactly t).1 s)).increasing
      (λ r. (
        λ a.
            let p = (kept-among (get_or t 5 0) t n r).0 a in
            tested (ltb p.0 (count_at t)) (λ y. (routes-among r).1 (p.0, ltb-true p.0 (count_at t) y, p.3))
            (λ f. absurd (zero-not-kept p.0 (ltb-false p.0 (count_at t) f) p.2)),
        λ a. let p = (routes-among r).0 a in let less = p.1 in (kept-among (get_or t 5 0) t n r).1 (p.0, omega arith, taken-kept p.0 p.1, p.2),
      ))
    where
      zero-not-kept : (i : ℕ) → count_at t ≤ i → KeptPlace (get_or t 5 0) t i → ⊥
      zero-not-kept i over k =
          let a = fate-is (get_or t 5 0) t i 0 (zeroed (free-zero i over)) in
          let b = fate-is (get_or t 5 0) t i 3 (kept k) in
          omega arith
