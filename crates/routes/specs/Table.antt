-- The table memory (document 01, "The table memory").
use Rattle.std.specs.Prelude.{ℕ, zero, suc, ◌-◌, ◌*◌, ◌/◌, ◌%◌, Bool, List, [], ◌∷◌, ◌++◌, length, get_or, take, drop, leb, eqb}
use Rattle.octets.specs.Choice.{both, either}
use Rattle.octets.specs.Octets.{part, number_in, big_endian}
use Rattle.octets.specs.Order.{same, before, zeros, all_zero}
use Rattle.routes.specs.Route.{Route, nlri_of}
use Rattle.routes.specs.Place.{PLACE, place_of, route_in, place_sound}

-- the octets before the places
abbrev pub HEADER : ℕ
HEADER = 8

-- "MVT", version 1 in 16 bits, AFI in one octet
unfoldable pub header_start : ℕ → List ℕ
header_start afi = 77 ∷ (86 ∷ (84 ∷ (0 ∷ (1 ∷ (afi ∷ [])))))

-- then the count in 16 bits
unfoldable pub header_of : (afi count : ℕ) → List ℕ
header_of afi count = header_start afi ++ big_endian 2 count

-- the places of routes, one after the other
unfoldable pub places_of : List Route → List ℕ
places_of [] = []
places_of (r ∷ rs) = place_of r ++ places_of rs

-- the one image of routes in increasing order of NLRIs, in so many places
unfoldable pub image_of : (afi places : ℕ) → List Route → List ℕ
image_of afi places rs = header_of afi (length rs) ++ (places_of rs ++ zeros (PLACE * (places - length rs)))

-- the AFI that a table says
unfoldable pub afi_in : List ℕ → ℕ
afi_in t = get_or t 5 0

-- the count that a table says
unfoldable pub count_in : List ℕ → ℕ
count_in t = number_in (part t 6 2) 0

-- how many places the memory has
unfoldable pub places_in : List ℕ → ℕ
places_in t = (length t - HEADER) / PLACE

-- the routes in so many places, one after the other
unfoldable pub routes_from : ℕ → List ℕ → List Route
routes_from zero s = []
routes_from (suc count) s = route_in (take PLACE s) ∷ routes_from count (drop PLACE s)

-- the routes that a table holds
unfoldable pub routes_of : List ℕ → List Route
routes_of t = routes_from (count_in t) (drop HEADER t)

-- size 8 plus a multiple of 128, 0 to 500 places
unfoldable pub table_size : ℕ → Bool
table_size size = both (leb HEADER size) (both (eqb ((size - HEADER) % PLACE) 0) (leb ((size - HEADER) / PLACE) 500))

-- a good header: "MVT", the version, and AFI 1 or 2
unfoldable pub header_sound : List ℕ → Bool
header_sound t = both (same (take 6 t) (header_start (afi_in t))) (either (eqb (afi_in t) 1) (eqb (afi_in t) 2))

-- so many places that are sound, with NLRIs after `previous` and strictly increasing, and everything after them zero
unfoldable pub places_sound : (afi : ℕ) (previous : List ℕ) (count : ℕ) → List ℕ → Bool
places_sound afi previous zero s = all_zero s
places_sound afi previous (suc count) s =
    both (place_sound afi (take PLACE s))
    (both (before previous (nlri_of (route_in (take PLACE s))))
    (places_sound afi (nlri_of (route_in (take PLACE s))) count (drop PLACE s)))

-- sound: the size; a good header; count not over the places; the places. No octets come before every NLRI
unfoldable pub sound_of : List ℕ → Bool
sound_of t =
    both (table_size (length t))
    (both (header_sound t)
    (both (leb (count_in t) (places_in t))
    (places_sound (afi_in t) [] (count_in t) (drop HEADER t))))
