-- The route of a place as it is written at the front of an output.
use Rattle.std.specs.Prelude.{ℕ, ◌+◌, ◌≤◌, ◌≡◌, List, ◌++◌, length}
use Rattle.octets.specs.Outcome.{given}
use Rattle.octets.specs.Octets.{front}
use Rattle.octets.specs.Outputs.{Changed}
use Rattle.tunnel.specs.Attribute.{fields_in, read_attribute}
use Rattle.routes.specs.Route.{Route, nlri_of, attribute_of}
use Rattle.routes.specs.Place.{end_in, route_in}
use Rattle.places.specs.declared.output.RouteSizes.{RouteSizes}

-- a place whose attribute reads, and an output of a size that every route fits into
pub record RouteFits (place output : List ℕ) : Type 0 where
  pub within : end_in place ≤ length place
  pub read : read_attribute (attribute_of (route_in place)) ≡ given (fields_in (attribute_of (route_in place)))
  pub most : length (nlri_of (route_in place)) + length (attribute_of (route_in place)) ≤ 124
  pub room : 124 ≤ length output

-- NLRI and attribute, one straight after the other: their sizes, and the output then
unfoldable pub written_route : Route → (output : List ℕ) → Changed RouteSizes
written_route r output = record { answer = record { nlri = length (nlri_of r); attribute = length (attribute_of r) }; octets = front (nlri_of r ++ attribute_of r) output }
