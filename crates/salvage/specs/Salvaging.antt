-- Definitions that mirror the functions of salvage; laws tie them to those of `routes`.
use Rattle.std.specs.Prelude.{ℕ, ◌*◌, ◌≤◌, ◌≡◌, true, List, length}
use Rattle.octets.specs.Choice.{pick}
use Rattle.octets.specs.Octets.{front}
use Rattle.routes.specs.Route.{nlri_of, holds, inserted}
use Rattle.routes.specs.Place.{route_in, place_sound}
use Rattle.routes.specs.Table.{image_of, afi_in, places_in, routes_of, table_size}
use Rattle.routes.specs.Rules.ArgumentRules.{KnownFamily}
use Rattle.routes.specs.Salvage.{kept_routes, dropped_of, list_of}

-- a table with the route of a good place, unless it holds its NLRI
unfoldable pub with_good : (place table : List ℕ) → List ℕ
with_good place t = pick (holds (nlri_of (route_in place)) (routes_of t)) t (image_of (afi_in t) (places_in t) (inserted (route_in place) (routes_of t)))

-- a table with what a place adds to it
unfoldable pub with_place : (afi : ℕ) (place table : List ℕ) → List ℕ
with_place afi place t = pick (place_sound afi place) (with_good place t) t

-- salvage as far as a number of places
pub record Upto (afi : ℕ) (damaged list₀ : List ℕ) (number : ℕ) (table list : List ℕ) (count : ℕ) : Type 0 where
  pub kept : table ≡ image_of afi (places_in damaged) (kept_routes afi damaged number)
  pub listed : list ≡ front (list_of (dropped_of afi damaged number)) list₀
  pub counted : count ≡ length (dropped_of afi damaged number)

-- what salvage goes by, once no refusal is left
pub record Ready (afi : ℕ) (damaged list : List ℕ) : Type 0 where
  pub family : KnownFamily afi
  pub size : table_size (length damaged) ≡ true
  pub room : 3 * places_in damaged ≤ length list
