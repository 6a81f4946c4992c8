-- One place, and places one after the other (document 01, "The table memory").
use Prim.Native.Nat.{ℕ, zero, suc, ◌+◌, ◌*◌, ◌-◌, ◌≤◌}
use mathlib.Core.Path.{◌≡◌, refl, sym, ap, ap₂, ◌∙◌}
use mathlib.Core.Bool.{Bool, true, false}
use mathlib.Core.List.{List, [], ◌∷◌, ◌++◌, append_assoc}
use native.Mathlib.Omega.{arith}
use borrow.Author.Tests.{leb-true, le-leb, eqb-true, eqb-false}
use lib.ListN.{length, get_or, take, drop, length-append, length-drop, length-replicate, take-append-drop, drop_of_length-le}
use lib.Dec.{eqb}
use lib.Seq.{take_at, drop_at, get_or_at, drop-drop, length-take-le, take-append_seam, drop-append_seam, drop-append-le, split_at}
use Rattle.octets.specs.Octets.{part}
use Rattle.octets.specs.Choice.{pick}
use Rattle.octets.specs.Order.{zeros, all_zero}
use Rattle.octets.proofs.Choice.{tested, pick_true, pick-false, both-true-left, both-true-right, both_true}
use Rattle.octets.proofs.Zeros.{zeros-all, all-zeros}
use Rattle.routes.specs.Route.{Route, entry, nlri_of, attribute_of, stale_of, with_mark, Increasing, last, next}
use Rattle.routes.specs.Place.{PLACE, mark_octet, place_of, end_in, route_in, acceptable, place_sound, AllAcceptable, none, one}
use Rattle.routes.specs.Table.{places_of, routes_from, places_sound}
use Rattle.routes.proofs.Definitions.Bounds.{sizes-of}

pub length-zeros : (n : ℕ) → length (zeros n) ≡ n
unfolding zeros
length-zeros n = length-replicate n 0

-- what follows the first two octets
past_two : (x y n : ℕ) (s : List ℕ) → drop (2 + n) (x ∷ (y ∷ s)) ≡ drop n s
past_two x y n s = let e : 2 + n ≡ suc (suc n) = omega arith in rw e

-- a place without its mark
abbrev unmarked : (n a : List ℕ) → List ℕ
unmarked n a = length n ∷ (length a ∷ (n ++ (a ++ zeros (125 - (length n + length a)))))

-- the mark stands behind it
place-split : (n a : List ℕ) (s : Bool) → place_of (entry n a s) ≡ unmarked n a ++ (mark_octet s ∷ [])
unfolding place_of
place-split n a s =
    let z : List ℕ = zeros (125 - (length n + length a)) in
    let m : List ℕ = mark_octet s ∷ [] in
    ap (λ (t : List ℕ). length n ∷ (length a ∷ t)) (ap (λ (t : List ℕ). n ++ t) (sym (append_assoc a z m)) ∙ sym (append_assoc n (a ++ z) m))

-- its size
length-unmarked : (n a : List ℕ) → length n + length a ≤ 125 → length (unmarked n a) ≡ 127
length-unmarked n a h = simp (length-append, length-zeros) (omega arith)

pub length-place : (r : Route) → length (nlri_of r) + length (attribute_of r) ≤ 125 → length (place_of r) ≡ 128
unfolding nlri_of attribute_of
length-place (entry n a s) h = ap length (place-split n a s) ∙ length-append (unmarked n a) (mark_octet s ∷ []) ∙ ap (λ (k : ℕ). k + 1) (length-unmarked n a h)

-- a mark and its octet
pub octet-mark : (s : Bool) → eqb (mark_octet s) 1 ≡ s
unfolding mark_octet pick
octet-mark true = refl
octet-mark false = refl

-- an octet that is a mark
pub mark-octet : (m : ℕ) → m ≤ 1 → mark_octet (eqb m 1) ≡ m
unfolding mark_octet
mark-octet m h =
    tested (eqb m 1) (λ t. pick_true _ _ _ t ∙ sym (eqb-true m 1 t)) (λ f. let z : m ≡ 0 = omega (arith, eqb-false m 1 f) in pick-false _ _ _ f ∙ sym z)

-- a mark is 0 or 1
octet-bound : (s : Bool) → mark_octet s ≤ 1
unfolding mark_octet pick
octet-bound true = omega arith
octet-bound false = omega arith

-- the mark in a place
pub place-mark : (r : Route) → length (nlri_of r) + length (attribute_of r) ≤ 125 → get_or (place_of r) 127 0 ≡ mark_octet (stale_of r)
unfolding nlri_of attribute_of stale_of
place-mark (entry n a s) h = ap (λ (l : List ℕ). get_or l 127 0) (place-split n a s) ∙ get_or_at (unmarked n a) (mark_octet s) [] 0 127 (length-unmarked n a h)

-- a place holds its route
place-routed : (r : Route) → length (nlri_of r) + length (attribute_of r) ≤ 125 → route_in (place_of r) ≡ r
unfolding route_in place_of part nlri_of attribute_of stale_of
place-routed (entry n a s) h =
    let z : List ℕ = zeros (125 - (length n + length a)) ++ (mark_octet s ∷ []) in
    let second : take (length a) (drop (2 + length n) (length n ∷ (length a ∷ (n ++ (a ++ z))))) ≡ a =
    ap (take (length a)) (past_two _ _ (length n) (n ++ (a ++ z)) ∙ drop-append_seam n (a ++ z)) ∙ take-append_seam a z in
    let first : take (length n) (n ++ (a ++ z)) ≡ n = take-append_seam n (a ++ z) in
    let mark : eqb (get_or (length n ∷ (length a ∷ (n ++ (a ++ z)))) 127 0) 1 ≡ s = ap (λ (k : ℕ). eqb k 1) (place-mark (entry n a s) h) ∙ octet-mark s in
    λ i. entry (first i) (second i) (mark i)

end_of : (r : Route) → end_in (place_of r) ≡ 2 + (length (nlri_of r) + length (attribute_of r))
unfolding end_in place_of nlri_of attribute_of
end_of (entry n a s) = refl

-- between the attribute and the mark there are zeros
pub place_end : (r : Route) → length (nlri_of r) + length (attribute_of r) ≤ 125
    → drop (end_in (place_of r)) (take 127 (place_of r)) ≡ zeros (125 - (length (nlri_of r) + length (attribute_of r)))
unfolding nlri_of attribute_of
place_end (entry n a s) h =
    let z : List ℕ = zeros (125 - (length n + length a)) in
    ap₂ drop (end_of (entry n a s)) (ap (take 127) (place-split n a s) ∙ take_at (unmarked n a) (mark_octet s ∷ []) 127 (length-unmarked n a h))
    ∙ past_two _ _ (length n + length a) (n ++ (a ++ z)) ∙ ap (drop (length n + length a)) (sym (append_assoc n a z))
    ∙ drop_at (n ++ a) z (length n + length a) (length-append n a)

-- an acceptable route leaves room for its mark
pub acceptable-fits : (afi : ℕ) (r : Route) → acceptable afi r ≡ true → length (nlri_of r) + length (attribute_of r) ≤ 125
acceptable-fits afi r h = let s = sizes-of afi r h in omega arith

pub length-acceptable-place : (afi : ℕ) (r : Route) → acceptable afi r ≡ true → length (place_of r) ≡ 128
length-acceptable-place afi r h = length-place r (acceptable-fits afi r h)

-- a sound place is that of the route in it
pub sound-place_of : (afi : ℕ) (r : Route) → acceptable afi r ≡ true → place_sound afi (place_of r) ≡ true
unfolding place_sound
sound-place_of afi r h =
    let s = acceptable-fits afi r h in
    let e = end_of r in
    both_true _ _ (le-leb (end_in (place_of r)) 127 (omega arith))
    (both_true _ _ (le-leb (get_or (place_of r) 127 0) 1 (rw (place-mark r s) (octet-bound (stale_of r))))
    (both_true _ _ (ap (acceptable afi) (place-routed r s) ∙ h) (ap all_zero (place_end r s) ∙ zeros-all _)))

pub sound-acceptable : (afi : ℕ) (place : List ℕ) → place_sound afi place ≡ true → acceptable afi (route_in place) ≡ true
unfolding place_sound
sound-acceptable afi place h = both-true-left _ _ (both-true-right _ _ (both-true-right _ _ h))

-- octets that two sizes cut into a route and zeros, and a mark behind them
cut-place : (x y m : ℕ) (u s : List ℕ) → s ≡ u ++ (m ∷ []) → length u ≡ 125 → x + y ≤ 125 → all_zero (drop (x + y) u) ≡ true → m ≤ 1
    → x ∷ (y ∷ s) ≡ place_of (entry (take x s) (take y (drop x s)) (eqb m 1))
unfolding place_of
cut-place x y m u s e l within z mark =
    let size : length s ≡ 126 = ap length e ∙ length-append u (m ∷ []) ∙ ap (λ (k : ℕ). k + 1) l in
    let n : length (take x s) ≡ x = length-take-le x s (omega arith) in
    let a : length (take y (drop x s)) ≡ y = length-take-le y (drop x s) (rw length-drop (omega arith)) in
    let rest : drop (x + y) s ≡ zeros (125 - (x + y)) ++ (mark_octet (eqb m 1) ∷ []) =
    ap (drop (x + y)) e ∙ drop-append-le (x + y) u (m ∷ []) (omega arith)
    ∙ ap₂ (λ (t : List ℕ) (k : ℕ). t ++ (k ∷ [])) (all-zeros _ z ∙ ap zeros (length-drop (x + y) u ∙ ap (λ (k : ℕ). k - (x + y)) l)) (sym (mark-octet m mark)) in
    let split : s ≡ take x s ++ (take y (drop x s) ++ (zeros (125 - (x + y)) ++ (mark_octet (eqb m 1) ∷ []))) =
    sym (take-append-drop x s)
    ∙ ap (λ (t : List ℕ). take x s ++ t) (sym (take-append-drop y (drop x s)) ∙ ap (λ (t : List ℕ). take y (drop x s) ++ t) (drop-drop y x s ∙ rest)) in
    rw (n, a) (ap (λ (t : List ℕ). x ∷ (y ∷ t)) split)

-- the last of 126 octets
last-octet : (s : List ℕ) → length s ≡ 126 → s ≡ take 125 s ++ (get_or s 125 0 ∷ [])
last-octet s l = split_at s 125 0 (omega arith) ∙ ap (λ (t : List ℕ). take 125 s ++ (get_or s 125 0 ∷ t)) (drop_of_length-le s {i = 126} (omega arith))

sound-cut : (place : List ℕ) → length place ≡ 128 → end_in place ≤ 127 → all_zero (drop (end_in place) (take 127 place)) ≡ true → get_or place 127 0 ≤ 1 → place ≡ place_of (route_in place)
unfolding end_in route_in part
sound-cut [] l within z m = absurd (omega arith)
sound-cut (x ∷ []) l within z m = absurd (omega arith)
sound-cut (x ∷ (y ∷ s)) l within z m =
    let size : length s ≡ 126 = omega arith in
    cut-place x y (get_or s 125 0) (take 125 s) s (last-octet s size) (length-take-le 125 s (omega arith)) (omega arith) (ap all_zero (sym (past_two x y (x + y) (take 125 s))) ∙ z) m
    ∙ ap (λ (t : List ℕ). place_of (entry (take x s) (take y t) (eqb (get_or s 125 0) 1))) (sym (past_two x y x s))

pub sound-place : (afi : ℕ) (place : List ℕ) → length place ≡ 128 → place_sound afi place ≡ true → place ≡ place_of (route_in place)
unfolding place_sound
sound-place afi place l h =
    let marked = both-true-right _ _ h in
    sound-cut place l (leb-true _ _ (both-true-left _ _ h)) (both-true-right _ _ (both-true-right _ _ marked)) (leb-true _ _ (both-true-left _ _ marked))

-- places one after the other
pub length-places : (afi : ℕ) (rs : List Route) → AllAcceptable afi rs → length (places_of rs) ≡ 128 * length rs
unfolding places_of
length-places afi [] none = refl
length-places afi (r ∷ rs) (one h a) = rw (length-append (place_of r) (places_of rs), length-acceptable-place afi r h, length-places afi rs a) (omega arith)

pub places-append : (xs ys : List Route) → places_of (xs ++ ys) ≡ places_of xs ++ places_of ys
unfolding places_of
places-append [] ys = refl
places-append (x ∷ xs) ys = rw (places-append xs ys) (sym (append_assoc (place_of x) (places_of xs) (places_of ys)))

-- the first place, and what follows it
pub first-place : (afi : ℕ) (r : Route) (rs : List Route) (z : List ℕ) → acceptable afi r ≡ true → take 128 (places_of (r ∷ rs) ++ z) ≡ place_of r
unfolding places_of
first-place afi r rs z h = ap (take 128) (append_assoc (place_of r) (places_of rs) z) ∙ take_at (place_of r) (places_of rs ++ z) 128 (length-acceptable-place afi r h)

pub other-places : (afi : ℕ) (r : Route) (rs : List Route) (z : List ℕ) → acceptable afi r ≡ true → drop 128 (places_of (r ∷ rs) ++ z) ≡ places_of rs ++ z
unfolding places_of
other-places afi r rs z h = ap (drop 128) (append_assoc (place_of r) (places_of rs) z) ∙ drop_at (place_of r) (places_of rs ++ z) 128 (length-acceptable-place afi r h)

-- the routes in places are those put there
pub routes-from : (afi : ℕ) (rs : List Route) (z : List ℕ) → AllAcceptable afi rs → routes_from (length rs) (places_of rs ++ z) ≡ rs
unfolding routes_from
routes-from afi [] z none = refl
routes-from afi (r ∷ rs) z (one h a) =
    ap₂ (λ (x : Route) (xs : List Route). x ∷ xs) (ap route_in (first-place afi r rs z h) ∙ place-routed r (acceptable-fits afi r h))
    (ap (routes_from (length rs)) (other-places afi r rs z h) ∙ routes-from afi rs z a)

pub length_from : (count : ℕ) (s : List ℕ) → length (routes_from count s) ≡ count
unfolding routes_from
length_from zero s = refl
length_from (suc count) s = ap suc (length_from count (drop PLACE s))

-- places in order, then zeros, are sound
pub sound-places_of : (afi : ℕ) (previous : List ℕ) (rs : List Route) (n : ℕ) → AllAcceptable afi rs → Increasing previous rs
    → places_sound afi previous (length rs) (places_of rs ++ zeros n) ≡ true
unfolding places_sound places_of
sound-places_of afi previous [] n none last = zeros-all n
sound-places_of afi previous (r ∷ rs) n (one h a) (next b i) =
    let p = first-place afi r rs (zeros n) h in
    let d = other-places afi r rs (zeros n) h in
    rw (p, d, place-routed r (acceptable-fits afi r h)) (both_true _ _ (sound-place_of afi r h) (both_true _ _ b (sound-places_of afi (nlri_of r) rs n a i)))

-- sound places hold acceptable routes in order
pub from-acceptable : (afi : ℕ) (previous : List ℕ) (count : ℕ) (s : List ℕ) → places_sound afi previous count s ≡ true → AllAcceptable afi (routes_from count s)
unfolding places_sound routes_from
from-acceptable afi previous zero s h = none
from-acceptable afi previous (suc count) s h =
    one (sound-acceptable afi (take PLACE s) (both-true-left _ _ h)) (from-acceptable afi (nlri_of (route_in (take PLACE s))) count (drop PLACE s) (both-true-right _ _ (both-true-right _ _ h)))

pub increasing-routes_from : (afi : ℕ) (previous : List ℕ) (count : ℕ) (s : List ℕ) → places_sound afi previous count s ≡ true → Increasing previous (routes_from count s)
unfolding places_sound routes_from
increasing-routes_from afi previous zero s h = last
increasing-routes_from afi previous (suc count) s h =
    next (both-true-left _ _ (both-true-right _ _ h)) (increasing-routes_from afi (nlri_of (route_in (take PLACE s))) count (drop PLACE s) (both-true-right _ _ (both-true-right _ _ h)))

-- sound places are those of their routes, then zeros
pub from_places : (afi : ℕ) (previous : List ℕ) (count : ℕ) (s : List ℕ) → 128 * count ≤ length s → places_sound afi previous count s ≡ true
    → s ≡ places_of (routes_from count s) ++ zeros (length s - 128 * count)
unfolding places_sound routes_from places_of
from_places afi previous zero s l h = all-zeros s h ∙ ap zeros (none-taken (length s))
  where
    none-taken : (n : ℕ) → n ≡ n - 128 * zero
    none-taken n = omega arith
from_places afi previous (suc count) s l h =
    let d : length (drop PLACE s) ≡ length s - 128 = length-drop PLACE s in
    let here : take PLACE s ≡ place_of (route_in (take PLACE s)) = sound-place afi (take PLACE s) (length-take-le PLACE s (omega arith)) (both-true-left _ _ h) in
    let later = from_places afi (nlri_of (route_in (take PLACE s))) count (drop PLACE s) (omega arith) (both-true-right _ _ (both-true-right _ _ h)) in
    let left : length (drop PLACE s) - 128 * count ≡ length s - 128 * suc count = omega arith in
    sym (take-append-drop PLACE s) ∙ ap₂ (λ (x y : List ℕ). x ++ y) here (later ∙ ap (λ (k : ℕ). places_of (routes_from count (drop PLACE s)) ++ zeros k) left)
    ∙ sym (append_assoc (place_of (route_in (take PLACE s))) (places_of (routes_from count (drop PLACE s))) (zeros (length s - 128 * suc count)))

-- a place with another mark is that of the route with this mark
pub remarked-place : (r : Route) (m : Bool) → length (place_of r) ≡ 128 → take 127 (place_of r) ++ (mark_octet m ∷ []) ≡ place_of (with_mark m r)
unfolding nlri_of attribute_of
remarked-place (entry n a s) m l =
    let size : length (unmarked n a) ≡ 127 = let e : length (unmarked n a ++ (mark_octet s ∷ [])) ≡ 128 = ap length (sym (place-split n a s)) ∙ l in omega (arith, e, length-append (unmarked n a) (mark_octet s ∷ [])) in
    ap (λ (x : List ℕ). x ++ (mark_octet m ∷ [])) (ap (take 127) (place-split n a s) ∙ take_at (unmarked n a) (mark_octet s ∷ []) 127 size) ∙ sym (place-split n a m)
