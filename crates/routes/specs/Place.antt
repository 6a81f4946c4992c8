-- A place (document 01, "The table memory"; a place is its term for the 128 octets that may hold one route).
use Rattle.std.specs.Prelude.{ℕ, ◌+◌, ◌-◌, ◌≡◌, Bool, true, false, List, [], ◌∷◌, ◌++◌, length, get_or, take, drop, leb, eqb}
use Rattle.octets.specs.Choice.{pick, both}
use Rattle.octets.specs.Outcome.{on_outcome}
use Rattle.octets.specs.Octets.{part}
use Rattle.octets.specs.Order.{zeros, all_zero}
use Rattle.routes.specs.Route.{Route, entry, nlri_of, attribute_of}
use Rattle.routes.specs.Arguments.{read_route}

-- the octets of a place
abbrev pub PLACE : ℕ
PLACE = 128

-- where the mark of the route in a place stands: its last octet
abbrev pub MARK : ℕ
MARK = 127

-- a mark as an octet
unfoldable pub mark_octet : Bool → ℕ
mark_octet stale = pick stale 1 0

-- NLRI size, attribute size, the NLRI with its header, the attribute, zeros, and the mark as the last octet
unfoldable pub place_of : Route → List ℕ
place_of (entry nlri attribute stale) =
    length nlri ∷ (length attribute ∷ (nlri ++ (attribute ++ (zeros (125 - (length nlri + length attribute)) ++ (mark_octet stale ∷ [])))))

-- where the attribute of the route in a place ends
unfoldable pub end_in : List ℕ → ℕ
end_in place = 2 + (get_or place 0 0 + get_or place 1 0)

-- the route in a place, by the place's sizes and its last octet
unfoldable pub route_in : List ℕ → Route
route_in place = entry (part place 2 (get_or place 0 0)) (part place (2 + get_or place 0 0) (get_or place 1 0)) (eqb (get_or place MARK 0) 1)

-- a route that install would accept, room apart
unfoldable pub acceptable : ℕ → Route → Bool
acceptable afi r = on_outcome (λ number. false) (λ accepted. true) (read_route afi (nlri_of r) (attribute_of r))

-- a place has 0 or 1 as its last octet and holds before it an acceptable route, then zeros
unfoldable pub place_sound : ℕ → List ℕ → Bool
place_sound afi place =
    both (leb (end_in place) MARK)
    (both (leb (get_or place MARK 0) 1)
    (both (acceptable afi (route_in place))
    (all_zero (drop (end_in place) (take MARK place)))))

-- all of the routes are acceptable
pub data AllAcceptable (afi : ℕ) : List Route → Type 0 where
  none : AllAcceptable afi []
  one : {r : Route} {rs : List Route} → acceptable afi r ≡ true → AllAcceptable afi rs → AllAcceptable afi (r ∷ rs)
