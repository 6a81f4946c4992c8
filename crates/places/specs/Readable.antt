-- What is asked of a place that is read, and the route that stands in it.
use Rattle.std.specs.Prelude.{ℕ, ◌+◌, ◌≤◌, ◌*◌, ◌≡◌, List, length}
use Rattle.octets.specs.Outcome.{given}
use Rattle.octets.specs.Octets.{part}
use Rattle.tunnel.specs.Attribute.{fields_in, read_attribute}
use Rattle.routes.specs.Route.{nlri_of, attribute_of, Route}
use Rattle.routes.specs.Place.{PLACE, end_in, route_in}
use Rattle.routes.specs.Table.{HEADER}
use Rattle.nlri.specs.Standing.{group_end}

-- the fields of an S-PMSI NLRI lie within it, and the originator has four octets or more
pub record Bounded (s : List ℕ) : Type 0 where
  pub within : group_end s + 4 ≤ length s

-- the route in the place of an index
unfoldable pub route_at : (index : ℕ) (table : List ℕ) → Route
route_at index t = route_in (part t (HEADER + PLACE * index) PLACE)

-- the NLRI in the place that starts at an octet of the table
unfoldable pub nlri_at : (table : List ℕ) (at : ℕ) → List ℕ
nlri_at t at = nlri_of (route_in (part t at PLACE))

-- a place starts there, the fields of its NLRI stand within it, and its attribute reads
pub record Readable (t : List ℕ) (at : ℕ) : Type 0 where
  pub within : at + PLACE ≤ length t
  pub ends : end_in (part t at PLACE) ≤ PLACE
  pub bounded : Bounded (nlri_at t at)
  pub read : read_attribute (attribute_of (route_in (part t at PLACE))) ≡ given (fields_in (attribute_of (route_in (part t at PLACE))))
