-- The route that comes next, found by the place where an NLRI stands or belongs, and what next answers, case by case.
use Prim.Native.Nat.{ℕ, suc, ◌+◌, ◌*◌, ◌≤◌, ◌<◌}
use mathlib.Core.Path.{◌≡◌, refl, sym, ◌∙◌, ap}
use mathlib.Core.Bool.{true, false}
use mathlib.Core.List.{List}
use native.Mathlib.Omega.{arith}
use borrow.Author.Tests.{lt-ltb, le-ltb}
use lib.ListN.{length, get_or, drop, drop_of_length-le}
use lib.Dec.{eqb}
use Rattle.octets.specs.Numbers.{TABLE, SPACE}
use Rattle.octets.specs.Outcome.{given, refused, on_outcome}
use Rattle.octets.specs.Octets.{part}
use Rattle.octets.specs.Order.{same, before}
use Rattle.octets.proofs.Choice.{opposite, pick_true, pick-false, tested}
use Rattle.octets.proofs.Orders.{same-equal, same-swapped, before-itself, before-other, before-once}
use Rattle.routes.specs.declared.Following.{Following}
use Rattle.routes.specs.Route.{Route, nlri_of, stale_of, Increasing, last, next}
use Rattle.routes.specs.Place.{mark_octet, route_in}
use Rattle.routes.specs.Table.{afi_in, count_in, routes_of, sound_of}
use Rattle.routes.specs.Matching.{found}
use Rattle.routes.specs.Answers.{found_answer, found_output, matched_by}
use Rattle.routes.specs.Next.{next_in, next_outcome, empty_next, found_mark, following_by, next_of}
use Rattle.routes.proofs.Definitions.Nexts.{next_here, next-later}
use Rattle.routes.proofs.Statements.Images.{length-routes, sound-holdable}
use Rattle.octets.specs.Outputs.{Leaves}
use Rattle.places.specs.Readable.{route_at}
use Rattle.places.specs.Writing.{RouteFits, written_route}
use Rattle.places.specs.declared.output.RouteSizes.{RouteSizes}
use Rattle.changes.specs.Changing.{rank, first_is}
use Rattle.table.specs.Following.{first_found}
use Rattle.changes.proofs.Ranks.{rank-more, rank-none}
use Rattle.places.proofs.Indexes.{routes-from-index}
use Rattle.places.proofs.Taken.{taken-writable, table_taken}

-- the first of routes that all come after
next-first : {n : List ℕ} {rs : List Route} → Increasing n rs → first_found rs ≡ next_in n rs
unfolding first_found next_in
next-first last = refl
next-first {n} (next {r = r} {rs = rs} b i) = sym (next_here n r rs b)

-- an NLRI that stands at its rank: the route behind it comes next
next-behind : (n : List ℕ) {p : List ℕ} {rs : List Route} → Increasing p rs → first_is n (drop (rank n rs) rs) ≡ true → first_found (drop (suc (rank n rs)) rs) ≡ next_in n rs
unfolding first_is rank
next-behind n last h = absurd (opposite {b = true} refl (sym h))
next-behind n (next {r = r} {rs = rs} b i) h =
    tested (before (nlri_of r) n)
    (λ c.
    let here : first_is n (drop (rank n rs) rs) ≡ true = rw (rank-more n r rs c) at h in
    rw (rank-more n r rs c) (next-behind n i here ∙ sym (next-later n r rs (before-once (nlri_of r) n c))))
    (λ c.
    let here : same n (nlri_of r) ≡ true = rw (rank-none n r rs c) at h in
    let is : n ≡ nlri_of r = same-equal n (nlri_of r) here in
    rw (rank-none n r rs c, is) (next-first i ∙ sym (next-later (nlri_of r) r rs (before-itself (nlri_of r)))))

-- one that does not stand there: the route at its rank comes next
next-at : (n : List ℕ) {p : List ℕ} {rs : List Route} → Increasing p rs → first_is n (drop (rank n rs) rs) ≡ false → first_found (drop (rank n rs) rs) ≡ next_in n rs
unfolding first_is first_found rank next_in
next-at n last h = refl
next-at n (next {r = r} {rs = rs} b i) h =
    tested (before (nlri_of r) n)
    (λ c.
    let here : first_is n (drop (rank n rs) rs) ≡ false = rw (rank-more n r rs c) at h in
    rw (rank-more n r rs c) (next-at n i here ∙ sym (next-later n r rs (before-once (nlri_of r) n c))))
    (λ c.
    let here : same n (nlri_of r) ≡ false = rw (rank-none n r rs c) at h in
    rw (rank-none n r rs c) (sym (next_here n r rs (before-other (nlri_of r) n (same-swapped (nlri_of r) n ∙ here) c))))

-- by the index that the search answers
module _ (t n : List ℕ) (k : ℕ) (is : sound_of t ≡ true) (e : k ≡ rank n (routes_of t)) where
  pub stands-next : first_is n (drop k (routes_of t)) ≡ true → first_found (drop (k + 1) (routes_of t)) ≡ next_in n (routes_of t)
  stands-next h =
      let here : first_is n (drop (rank n (routes_of t)) (routes_of t)) ≡ true = rw e at h in
      let behind : k + 1 ≡ suc (rank n (routes_of t)) = omega arith in
      ap (λ (i : ℕ). first_found (drop i (routes_of t))) behind ∙ next-behind n (sound-holdable t is).increasing here

  pub belongs-next : first_is n (drop k (routes_of t)) ≡ false → first_found (drop k (routes_of t)) ≡ next_in n (routes_of t)
  belongs-next h =
      let here : first_is n (drop (rank n (routes_of t)) (routes_of t)) ≡ false = rw e at h in
      ap (λ (i : ℕ). first_found (drop i (routes_of t))) e ∙ next-at n (sound-holdable t is).increasing here

-- the route at an index, told, or none
module _ (t : List ℕ) (i count : ℕ) (counted : count ≡ count_in t) where
  pub first-none : count ≤ i → (output : List ℕ)
      → Leaves (following_by (given (first_found (drop i (routes_of t)))) output) (empty_next 0) output
  unfolding first_found matched_by on_outcome found_answer found_output found_mark
  first-none past output = rw (drop_of_length-le (routes_of t) {i = i} (omega (arith, length-routes t))) (refl, refl)

  module _ (here : i < count) (place : List ℕ) (is : place ≡ part t (8 + 128 * i) 128) where
    pub first_fits : sound_of t ≡ true → (output : List ℕ) → 124 ≤ length output → RouteFits place output
    first_fits sound output room = rw is (taken-writable (afi_in t) t (8 + 128 * i) (table_taken t sound i (omega arith)) output room)

    pub first-told : sound_of t ≡ true → (output left : List ℕ) (sizes : RouteSizes) → Leaves (written_route (route_in place) output) sizes left
        → Leaves (following_by (given (first_found (drop i (routes_of t)))) output) (record { number = 0; nlri_size = sizes.nlri; attribute_size = sizes.attribute; stale = mark_octet (eqb (get_or place 127 0) 1) }) left
    unfolding first_found route_at on_outcome matched_by found_answer found_output found_mark stale_of route_in written_route
    first-told sound output left sizes l =
        let first : first_found (drop i (routes_of t)) ≡ found 0 (route_in place) = ap first_found (routes-from-index t i (omega arith)) ∙ ap (λ (x : List ℕ). found 0 (route_in x)) (sym is) in
        rw first (ap (λ (s : RouteSizes). record { number = 0; nlri_size = s.nlri; attribute_size = s.attribute; stale = mark_octet (eqb (get_or place 127 0) 1) }) l.0, l.1)

-- what next answers
module _ (t n output : List ℕ) where
  by-refusal : (m : ℕ) → next_outcome t n output ≡ refused m → Leaves (next_of t n output) (empty_next m) output
  unfolding next_of matched_by on_outcome
  by-refusal m e = rw e (refl, refl)

  -- TABLE
  pub next-unsound : sound_of t ≡ false → Leaves (next_of t n output) (empty_next TABLE) output
  unfolding next_outcome
  next-unsound h = by-refusal TABLE (pick-false _ _ _ h)

  -- SPACE
  pub next-space : sound_of t ≡ true → length output < 124 → Leaves (next_of t n output) (empty_next SPACE) output
  unfolding next_outcome
  next-space s h = by-refusal SPACE (pick_true _ _ _ s ∙ pick_true _ _ _ (lt-ltb _ _ h))

  -- the route at the index of the one that comes next
  pub next-told : sound_of t ≡ true → 124 ≤ length output → (i : ℕ) → first_found (drop i (routes_of t)) ≡ next_in n (routes_of t) → (answer : Following) (left : List ℕ)
      → Leaves (following_by (given (first_found (drop i (routes_of t)))) output) answer left → Leaves (next_of t n output) answer left
  unfolding next_of next_outcome
  next-told s h i e answer left l =
      let given-next : next_outcome t n output ≡ given (first_found (drop i (routes_of t))) = pick_true _ _ _ s ∙ pick-false _ _ _ (le-ltb _ _ h) ∙ ap given (sym e) in
      rw given-next l
