-- The places of a sound table by their indexes.
use Prim.Native.Nat.{ℕ, zero, suc, ◌+◌, ◌*◌, ◌≤◌, ◌<◌}
use mathlib.Core.Path.{◌≡◌, refl, sym, ap, ◌∙◌}
use mathlib.Core.Bool.{true}
use mathlib.Core.List.{List, [], ◌∷◌}
use native.Mathlib.Omega.{arith}
use lib.ListN.{length, take, drop}
use lib.Seq.{drop-drop}
use Rattle.octets.specs.Octets.{part}
use Rattle.octets.proofs.Choice.{both-true-left, both-true-right}
use Rattle.octets.proofs.Lists.{length_part}
use Rattle.routes.specs.Route.{nlri_of}
use Rattle.routes.specs.Place.{end_in, route_in, place_sound}
use Rattle.routes.specs.Table.{afi_in, count_in, places_in, routes_from, routes_of, places_sound, sound_of}
use Rattle.routes.proofs.Statements.Images.{sound}
use Rattle.places.specs.Readable.{route_at}
use Rattle.places.proofs.Sounds.{sound-end}

next_place : (i : ℕ) (s : List ℕ) → drop (128 * i) (drop 128 s) ≡ drop (128 * suc i) s
next_place i s =
    let sum : 128 + 128 * i ≡ 128 * suc i = omega arith in
    drop-drop (128 * i) 128 s ∙ ap (λ (k : ℕ). drop k s) sum

from-index : (i count : ℕ) (s : List ℕ) → i < count → drop i (routes_from count s) ≡ route_in (take 128 (drop (128 * i) s)) ∷ drop (suc i) (routes_from count s)
unfolding routes_from
from-index i zero s h = absurd (omega arith)
from-index zero (suc count) s h = refl
from-index (suc i) (suc count) s h =
    from-index i count (drop 128 s) (omega arith)
    ∙ ap (λ (x : List ℕ). route_in (take 128 x) ∷ drop (suc i) (routes_from count (drop 128 s))) (next_place i s)

sound-index : (afi : ℕ) (previous : List ℕ) (i count : ℕ) (s : List ℕ) → i < count → places_sound afi previous count s ≡ true → place_sound afi (take 128 (drop (128 * i) s)) ≡ true
unfolding places_sound
sound-index afi previous i zero s h e = absurd (omega arith)
sound-index afi previous zero (suc count) s h e = both-true-left _ _ e
sound-index afi previous (suc i) (suc count) s h e =
    ap (λ (x : List ℕ). place_sound afi (take 128 x)) (sym (next_place i s))
    ∙ sound-index afi (nlri_of (route_in (take 128 s))) i count (drop 128 s) (omega arith) (both-true-right _ _ (both-true-right _ _ e))

place-part : (i : ℕ) (t : List ℕ) → take 128 (drop (128 * i) (drop 8 t)) ≡ part t (8 + 128 * i) 128
unfolding part
place-part i t = ap (take 128) (drop-drop (128 * i) 8 t)

-- the routes of a table from an index on begin with the route there
pub routes-from-index : (t : List ℕ) (i : ℕ) → i < count_in t → drop i (routes_of t) ≡ route_at i t ∷ drop (suc i) (routes_of t)
unfolding routes_of route_at
routes-from-index t i h =
    from-index i (count_in t) (drop 8 t) h ∙ ap (λ (x : List ℕ). route_in x ∷ drop (suc i) (routes_from (count_in t) (drop 8 t))) (place-part i t)

-- a sound table has a header
pub header-within : (t : List ℕ) → sound_of t ≡ true → 8 ≤ length t
header-within t h = let is = (sound t h).size.is in omega arith

-- so many places lie within the table
pub places-within : (t : List ℕ) (n : ℕ) → sound_of t ≡ true → n ≤ places_in t → 8 + 128 * n ≤ length t
places-within t n h k = let is = (sound t h).size.is in omega arith

-- a taken place lies within the table
pub place-within : (t : List ℕ) (i : ℕ) → sound_of t ≡ true → i < count_in t → 8 + 128 * i + 128 ≤ length t
place-within t i h k =
    let s = sound t h in
    omega arith

-- and its route within the place
pub end-within : (t : List ℕ) (i : ℕ) → sound_of t ≡ true → i < count_in t → end_in (part t (8 + 128 * i) 128) ≤ length (part t (8 + 128 * i) 128)
end-within t i h k =
    let s = sound t h in
    let at : place_sound (afi_in t) (part t (8 + 128 * i) 128) ≡ true =
    ap (place_sound (afi_in t)) (sym (place-part i t)) ∙ sound-index (afi_in t) [] i (count_in t) (drop 8 t) k s.places in
    rw (length_part t (8 + 128 * i) 128 (place-within t i h k)) (sound-end (afi_in t) (part t (8 + 128 * i) 128) at)
