-- The places of a sound table by their indexes.
use Prim.Native.Nat.{ℕ, suc, ◌+◌, ◌≤◌, ◌<◌}
use mathlib.Core.Path.{◌≡◌, sym, ap, ◌∙◌}
use mathlib.Core.Bool.{Bool, true, false}
use mathlib.Core.List.{List, ◌∷◌}
use native.Mathlib.Omega.{arith}
use lib.ListN.{drop, drop_of_length-le}
use Rattle.octets.specs.Order.{same, before}
use Rattle.routes.specs.Route.{nlri_of, holds}
use Rattle.routes.specs.Table.{count_in, routes_of, sound_of}
use Rattle.routes.proofs.Statements.Images.{length-routes, sound-holdable}
use Rattle.places.specs.Readable.{route_at}
use Rattle.changes.specs.Changing.{rank, first_is}
use Rattle.changes.proofs.Ranks.{rank-upto, rank-past, rank_most, held-at-rank, first-within}
use Rattle.places.proofs.Indexes.{routes-from-index}

-- the route at an index has an NLRI, or no route is there
pub first-at : (t n : List ℕ) (i : ℕ) → i < count_in t → first_is n (drop i (routes_of t)) ≡ same n (nlri_of (route_at i t))
unfolding first_is
first-at t n i h = ap (first_is n) (routes-from-index t i h)

pub first_past : (t n : List ℕ) (i : ℕ) → count_in t ≤ i → first_is n (drop i (routes_of t)) ≡ false
unfolding first_is
first_past t n i h = ap (first_is n) (drop_of_length-le (routes_of t) {i = i} (rw (length-routes t) h))

-- a search for the rank of an NLRI: it lies from `low` to `high`
pub record Bracketed (t n : List ℕ) (low high : ℕ) : Type 0 where
  pub least : low ≤ rank n (routes_of t)
  pub most : rank n (routes_of t) ≤ high
  pub within : high ≤ count_in t

pub bracketed-first : (t n : List ℕ) (count : ℕ) → count ≡ count_in t → Bracketed t n 0 count
bracketed-first t n count h = record { least = omega arith; most = omega (arith, rank_most n (routes_of t), length-routes t); within = omega arith }

-- the route between them is looked at
module _ (t n : List ℕ) (low high middle : ℕ) (b : Bracketed t n low high) (inside : middle < high) (flag : Bool) (here : List ℕ) (is : here ≡ nlri_of (route_at middle t)) (f : flag ≡ before here n) where
  its-flag : before (nlri_of (route_at middle t)) n ≡ flag
  its-flag = ap (λ (x : List ℕ). before x n) (sym is) ∙ sym f

  its-routes : drop middle (routes_of t) ≡ route_at middle t ∷ drop (suc middle) (routes_of t)
  its-routes = let within = b.within in routes-from-index t middle (omega arith)

  pub bracketed-behind : sound_of t ≡ true → flag ≡ true → Bracketed t n (middle + 1) high
  bracketed-behind h e =
      let past = (rank-past n (sound-holdable t h).increasing middle (route_at middle t) _ its-routes (its-flag ∙ e)).1 in
      record { least = omega arith; most = b.most; within = b.within }

  pub bracketed-upto : flag ≡ false → Bracketed t n low middle
  bracketed-upto e =
      let within = b.within in
      record { least = b.least; most = rank-upto n (routes_of t) middle (route_at middle t) _ its-routes (its-flag ∙ e); within = omega arith }

-- an NLRI is held where it stands
pub held_by : (t n : List ℕ) (k : ℕ) (b : Bool) → sound_of t ≡ true → k ≡ rank n (routes_of t) → first_is n (drop k (routes_of t)) ≡ b → holds n (routes_of t) ≡ b
held_by t n k b h e f = held-at-rank n (sound-holdable t h).increasing ∙ ap (λ (i : ℕ). first_is n (drop i (routes_of t))) (sym e) ∙ f

-- where a held NLRI stands
pub held-within : (t n : List ℕ) (k : ℕ) → sound_of t ≡ true → first_is n (drop k (routes_of t)) ≡ true → k < count_in t
held-within t n k h f = let s = first-within n (routes_of t) k f in omega (arith, length-routes t)
