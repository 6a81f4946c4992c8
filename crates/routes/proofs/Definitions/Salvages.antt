-- Laws of salvage (document 02, W-212): the good places, what is kept of them, what is dropped, and the list.
use Prim.Native.Nat.{ℕ, zero, suc, ◌+◌, ◌*◌, ◌≤◌, ◌<◌}
use mathlib.Core.Path.{◌≡◌, refl, sym, ap, subst, ◌∙◌}
use mathlib.Core.Bool.{Bool, true, false}
use mathlib.Core.Logic.{◌↔◌, ◌≢◌, ⊎_elim}
use mathlib.Core.List.{List, [], ◌∷◌, ◌++◌, append-nil, append_assoc}
use native.Mathlib.Omega.{arith}
use borrow.Author.Tests.{ltb-true, ltb-false, eqb-true, eqb-false, eq-eqb, ne_eqb}
use lib.Dec.{ltb, eqb}
use lib.ListN.{length, length-append}
use Rattle.octets.specs.Choice.{pick}
use Rattle.octets.specs.Octets.{big_endian}
use Rattle.octets.specs.Order.{before, all_zero}
use Rattle.octets.specs.Lists.{Among, first}
use Rattle.octets.proofs.Among.{among_none, among_cases, among-either, among-left, among-right}
use Rattle.octets.proofs.Choice.{pick_true, pick-false, tested}
use Rattle.octets.proofs.NetworkOrder.{length-big_endian}
use Rattle.octets.proofs.Orders.{before-none}
use Rattle.routes.specs.Route.{Route, nlri_of, held, absent, lookup, holds, inserted, arranged, Increasing}
use Rattle.routes.specs.Place.{route_in, place_sound, AllAcceptable, none}
use Rattle.routes.specs.Rules.ArgumentRules.{KnownFamily}
use Rattle.routes.specs.Rules.Images.{Holdable}
use Rattle.routes.specs.Salvage.{place_at, good_of, kept_routes, BAD, REPEATED, reason_of, reason_at, Dropped, dropped, dropped_of, dropped_octets, list_of}
use Rattle.routes.proofs.Definitions.Bounds.{sizes-of}
use Rattle.routes.proofs.Definitions.Places.{sound-acceptable}
use Rattle.routes.proofs.Definitions.Lookups.{held_same, held-absent, held-or-absent, lookup-none, lookup-own, lookup-member, lookup-of-member, lookup-arranged, holds-alike}
use Rattle.routes.proofs.Definitions.Increases.{distinct-increasing, increasing-arranged, acceptable-member, acceptable-arranged}
use Rattle.routes.proofs.Definitions.Behind.{lookup-front, lookup-past, arranged-held, arranged-new, length-arranged, acceptable-last}

-- a good place by its number
pub record GoodIn (afi : ℕ) (m : List ℕ) (count : ℕ) (r : Route) : Type 0 where
  pub number : ℕ
  pub within : number < count
  pub sound : place_sound afi (place_at m number) ≡ true
  pub is : r ≡ route_in (place_at m number)

module _ (afi : ℕ) (m : List ℕ) where
  -- the next place adds its route where it is good, else nothing
  pub good-here : (n : ℕ) → place_sound afi (place_at m n) ≡ true → good_of afi m (suc n) ≡ good_of afi m n ++ (route_in (place_at m n) ∷ [])
  unfolding good_of
  good-here n h = ap (λ (l : List Route). good_of afi m n ++ l) (pick_true _ _ _ h)

  pub good-not : (n : ℕ) → place_sound afi (place_at m n) ≡ false → good_of afi m (suc n) ≡ good_of afi m n
  unfolding good_of
  good-not n h = ap (λ (l : List Route). good_of afi m n ++ l) (pick-false _ _ _ h) ∙ append-nil (good_of afi m n)

  last-member : (n : ℕ) (r : Route) → Among r (pick (place_sound afi (place_at m n)) (route_in (place_at m n) ∷ []) []) → GoodIn afi m (suc n) r
  last-member n r a =
      tested (place_sound afi (place_at m n))
      (λ t. ⊎_elim (λ e. record { number = n; within = omega arith; sound = t; is = e }) (λ b. absurd (among_none b))
      (among_cases (subst (λ (l : List Route). Among r l) (pick_true _ (route_in (place_at m n) ∷ []) [] t) a)))
      (λ f. absurd (among_none (subst (λ (l : List Route). Among r l) (pick-false _ (route_in (place_at m n) ∷ []) [] f) a)))

  pub good-member : (n : ℕ) (r : Route) → Among r (good_of afi m n) → GoodIn afi m n r
  unfolding good_of
  good-member zero r a = absurd (among_none a)
  good-member (suc n) r a =
      ⊎_elim (λ b. let g = good-member n r b in let w = g.within in record { number = g.number; within = omega arith; sound = g.sound; is = g.is }) (last-member n r)
      (among-either (good_of afi m n) a)

  pub member-good : (n k : ℕ) → k < n → place_sound afi (place_at m k) ≡ true → Among (route_in (place_at m k)) (good_of afi m n)
  unfolding good_of
  member-good zero k h s = absurd (omega arith)
  member-good (suc n) k h s =
      tested (ltb k n) (λ t. among-left _ (member-good n k (ltb-true k n t) s))
      (λ f.
      let e : k ≡ n = omega (arith, ltb-false k n f) in
      among-right (good_of afi m n)
      (subst (λ (i : ℕ). Among (route_in (place_at m k)) (pick (place_sound afi (place_at m i)) (route_in (place_at m i) ∷ []) [])) e
      (subst (λ (l : List Route). Among (route_in (place_at m k)) l) (sym (pick_true _ (route_in (place_at m k) ∷ []) [] s)) (first refl))))

  good-acceptable : (n : ℕ) → AllAcceptable afi (good_of afi m n)
  unfolding good_of
  good-acceptable zero = none
  good-acceptable (suc n) =
      tested (place_sound afi (place_at m n))
      (λ t. subst (AllAcceptable afi) (sym (good-here n t)) (acceptable-last (route_in (place_at m n)) (good_of afi m n) (good-acceptable n) (sound-acceptable afi (place_at m n) t)))
      (λ f. subst (AllAcceptable afi) (sym (good-not n f)) (good-acceptable n))

  good-most : (n : ℕ) → length (good_of afi m n) ≤ n
  unfolding good_of
  good-most zero = omega arith
  good-most (suc n) =
      let h = good-most n in
      tested (place_sound afi (place_at m n))
      (λ t. let e = ap length (good-here n t) ∙ length-append (good_of afi m n) (route_in (place_at m n) ∷ []) in omega arith)
      (λ f. let e = ap length (good-not n f) in omega arith)

  pub kept-most : (n : ℕ) → length (kept_routes afi m n) ≤ n
  unfolding kept_routes
  kept-most n = let h = good-most n in let k = length-arranged (good_of afi m n) in omega arith

  named : (n : ℕ) (r : Route) → Among r (good_of afi m n) → before [] (nlri_of r) ≡ true
  named n r a = before-none (nlri_of r) (let s = (sizes-of afi r (acceptable-member (good-acceptable n) a)).least in omega arith)

  pub kept-increasing : (n : ℕ) → Increasing [] (kept_routes afi m n)
  unfolding kept_routes
  kept-increasing n = increasing-arranged [] (good_of afi m n) (named n)

  -- what is kept can be held by a table of as many places
  pub kept-holdable : (n places : ℕ) → KnownFamily afi → places ≤ 500 → n ≤ places → Holdable afi places (kept_routes afi m n)
  unfolding kept_routes
  kept-holdable n places f most h =
      record { family = f; most = most; within = (let k = kept-most n in omega arith); acceptable = acceptable-arranged (good-acceptable n); increasing = kept-increasing n }

  -- holding is the same in place order and in increasing order
  pub holds_kept : (n : ℕ) (nlri : List ℕ) → holds nlri (kept_routes afi m n) ≡ holds nlri (good_of afi m n)
  unfolding kept_routes
  holds_kept n nlri = holds-alike nlri (arranged (good_of afi m n)) (good_of afi m n) (lookup-arranged nlri (good_of afi m n))

  pub reason_kept : (n : ℕ) → reason_of afi (place_at m n) (kept_routes afi m n) ≡ reason_at afi m n
  unfolding reason_at reason_of
  reason_kept n =
      ap (λ (b : Bool). pick (place_sound afi (place_at m n)) (pick b REPEATED 0) (pick (all_zero (place_at m n)) 0 BAD)) (holds_kept n (nlri_of (route_in (place_at m n))))

  -- what one more place makes of what is kept
  pub kept-not : (n : ℕ) → place_sound afi (place_at m n) ≡ false → kept_routes afi m (suc n) ≡ kept_routes afi m n
  unfolding kept_routes
  kept-not n f = ap arranged (good-not n f)

  last-increasing : (n : ℕ) → place_sound afi (place_at m n) ≡ true → Increasing [] (arranged (good_of afi m n ++ (route_in (place_at m n) ∷ [])))
  unfolding kept_routes
  last-increasing n t = subst (λ (l : List Route). Increasing [] (arranged l)) (good-here n t) (kept-increasing (suc n))

  pub kept-repeated : (n : ℕ) → place_sound afi (place_at m n) ≡ true → holds (nlri_of (route_in (place_at m n))) (kept_routes afi m n) ≡ true → kept_routes afi m (suc n) ≡ kept_routes afi m n
  unfolding kept_routes
  kept-repeated n t h =
      ap arranged (good-here n t)
      ∙ arranged-held (good_of afi m n) (route_in (place_at m n)) (kept-increasing n) (last-increasing n t) (sym (holds_kept n (nlri_of (route_in (place_at m n)))) ∙ h)

  pub kept_new : (n : ℕ) → place_sound afi (place_at m n) ≡ true → holds (nlri_of (route_in (place_at m n))) (kept_routes afi m n) ≡ false → kept_routes afi m (suc n) ≡ inserted (route_in (place_at m n)) (kept_routes afi m n)
  unfolding kept_routes
  kept_new n t h =
      ap arranged (good-here n t)
      ∙ arranged-new (good_of afi m n) (route_in (place_at m n)) (kept-increasing n) (last-increasing n t) (named (suc n) (route_in (place_at m n)) (member-good (suc n) n (omega arith) t))
      (sym (holds_kept n (nlri_of (route_in (place_at m n)))) ∙ h)

  -- what good places hold, the next hold too
  held_on : (k : ℕ) (n : List ℕ) (q : Route) → lookup n (good_of afi m k) ≡ held q → lookup n (good_of afi m (suc k)) ≡ held q
  unfolding good_of
  held_on k n q l = lookup-front n (good_of afi m k) _ q l

  none-held : (n : List ℕ) → lookup n (good_of afi m zero) ≡ absent
  unfolding good_of
  none-held n = lookup-none n

  -- the route of a place is held of the good places up to it, if it is the first of its NLRI
  pub first-held : (count n : ℕ) (r : Route) → n < count → place_sound afi (place_at m n) ≡ true → route_in (place_at m n) ≡ r → lookup (nlri_of r) (good_of afi m n) ≡ absent → lookup (nlri_of r) (good_of afi m count) ≡ held r
  first-held zero n r h s e a = absurd (omega arith)
  first-held (suc count) n r h s e a =
      tested (ltb n count) (λ t. held_on count (nlri_of r) r (first-held count n r (ltb-true n count t) s e a))
      (λ f.
      let i : n ≡ count = omega (arith, ltb-false n count f) in
      ap (λ (k : ℕ). lookup (nlri_of r) (good_of afi m (suc k))) (sym i) ∙ ap (lookup (nlri_of r)) (good-here n s ∙ ap (λ (q : Route). good_of afi m n ++ (q ∷ [])) e)
      ∙ lookup-past (nlri_of r) (good_of afi m n) (r ∷ []) a ∙ lookup-own r [])

  -- the first place of an NLRI that good places hold
  pub held_first : (count : ℕ) (r : Route) → lookup (nlri_of r) (good_of afi m count) ≡ held r
      → (n : ℕ) × (n < count) × (place_sound afi (place_at m n) ≡ true) × (route_in (place_at m n) ≡ r) × (lookup (nlri_of r) (good_of afi m n) ≡ absent)
  held_first zero r h = absurd (held-absent h (none-held (nlri_of r)))
  held_first (suc count) r h =
      ⊎_elim
      (λ p.
      let same : p.0 ≡ r = held_same (held_on count (nlri_of r) p.0 p.1) h in
      let q = held_first count r (p.1 ∙ ap held same) in
      let w = q.1 in
      (q.0, omega arith, q.2, q.3, q.4))
      (λ a.
      tested (place_sound afi (place_at m count))
      (λ t.
      let l = lookup-member (route_in (place_at m count) ∷ []) (sym (lookup-past (nlri_of r) (good_of afi m count) (route_in (place_at m count) ∷ []) a) ∙ ap (lookup (nlri_of r)) (sym (good-here count t)) ∙ h) in
      (count, omega arith, t, ⊎_elim (λ e. sym e) (λ z. absurd (among_none z)) (among_cases l.0), a))
      (λ f. absurd (held-absent h (ap (lookup (nlri_of r)) (good-not count f) ∙ a))))
      (held-or-absent (nlri_of r) (good_of afi m count))

  pub kept-lookup : (n : ℕ) (r : Route) → Among r (kept_routes afi m n) ↔ (lookup (nlri_of r) (good_of afi m n) ≡ held r)
  unfolding kept_routes
  kept-lookup n r = (
    λ a. sym (lookup-arranged (nlri_of r) (good_of afi m n)) ∙ lookup-of-member (distinct-increasing (kept-increasing n)) a,
    λ l. (lookup-member (kept_routes afi m n) (lookup-arranged (nlri_of r) (good_of afi m n) ∙ l)).0,
  )

  -- what one more place makes of what is dropped
  pub dropped-none : (n : ℕ) → reason_at afi m n ≡ 0 → dropped_of afi m (suc n) ≡ dropped_of afi m n
  unfolding dropped_of
  dropped-none n e = ap (λ (l : List Dropped). dropped_of afi m n ++ l) (pick_true _ _ _ (eq-eqb (reason_at afi m n) 0 e)) ∙ append-nil (dropped_of afi m n)

  pub dropped-one : (n : ℕ) → reason_at afi m n ≢ 0 → dropped_of afi m (suc n) ≡ dropped_of afi m n ++ (dropped n (reason_at afi m n) ∷ [])
  unfolding dropped_of
  dropped-one n e = ap (λ (l : List Dropped). dropped_of afi m n ++ l) (pick-false _ _ _ (ne_eqb (reason_at afi m n) 0 e))

  pub dropped-most : (n : ℕ) → length (dropped_of afi m n) ≤ n
  unfolding dropped_of
  dropped-most zero = omega arith
  dropped-most (suc n) =
      let h = dropped-most n in
      tested (eqb (reason_at afi m n) 0) (λ t. let e = ap length (dropped-none n (eqb-true _ _ t)) in omega arith)
      (λ f. let e = ap length (dropped-one n (eqb-false _ _ f)) ∙ length-append (dropped_of afi m n) (dropped n (reason_at afi m n) ∷ []) in omega arith)

-- the list by its entries
pub length-dropped : (d : Dropped) → length (dropped_octets d) ≡ 3
unfolding dropped_octets
length-dropped (dropped number reason) = length-append (big_endian 2 number) (reason ∷ []) ∙ ap (λ (k : ℕ). k + 1) (length-big_endian 2 number)

pub length-list : (ds : List Dropped) → length (list_of ds) ≡ 3 * length ds
unfolding list_of
length-list [] = refl
length-list (d ∷ ds) = rw (length-append (dropped_octets d) (list_of ds), length-dropped d, length-list ds) (omega arith)

pub list-last : (ds : List Dropped) (d : Dropped) → list_of (ds ++ (d ∷ [])) ≡ list_of ds ++ dropped_octets d
unfolding list_of
list-last [] d = append-nil (dropped_octets d)
list-last (x ∷ ds) d = ap (λ (l : List ℕ). dropped_octets x ++ l) (list-last ds d) ∙ sym (append_assoc (dropped_octets x) (list_of ds) (dropped_octets d))
