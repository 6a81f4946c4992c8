-- What holds of tables and images (document 01, "The table memory"). Stated here, proved in proofs/Statements/Images.antt.
use Rattle.std.specs.Prelude.{ℕ, ◌≤◌, ◌≡◌, true, List, [], ◌↔◌, length}
use Rattle.octets.specs.Numbers.{DONE}
use Rattle.octets.specs.Octets.{AllOctets}
use Rattle.octets.specs.Lists.{Among}
use Rattle.routes.specs.Route.{Route, Increasing}
use Rattle.routes.specs.Place.{AllAcceptable}
use Rattle.routes.specs.Table.{image_of, afi_in, places_in, routes_of, sound_of}
use Rattle.routes.specs.Rules.ArgumentRules.{KnownFamily}
use Rattle.routes.specs.Calls.{make_of}

-- routes that a table of a family and so many places can hold, in the order in which it holds them
pub record Holdable (afi places : ℕ) (rs : List Route) : Type 0 where
  pub family : KnownFamily afi
  pub most : places ≤ 500
  pub within : length rs ≤ places
  pub acceptable : AllAcceptable afi rs
  pub increasing : Increasing [] rs

-- octets that are a sound table of a family and so many places, with these routes
pub record TableOf (afi places : ℕ) (rs : List Route) (t : List ℕ) : Type 0 where
  pub sound : sound_of t ≡ true
  pub family : afi_in t ≡ afi
  pub size : places_in t ≡ places
  pub routes : routes_of t ≡ rs

-- a sound table is the one image of its routes
pub record Images : Type 0 where
  -- a sound table is the image of its routes, which it can hold
  pub holdable : (t : List ℕ) → sound_of t ≡ true → Holdable (afi_in t) (places_in t) (routes_of t)
  pub image : (t : List ℕ) → AllOctets t → sound_of t ≡ true → t ≡ image_of (afi_in t) (places_in t) (routes_of t)
  -- the image of routes that a table can hold is a sound table with these routes
  pub imaged : (afi places : ℕ) (rs : List Route) → Holdable afi places rs → TableOf afi places rs (image_of afi places rs)
  -- one set of routes, one image: sound tables of one family and size that hold the same routes are equal octet for octet
  pub one : (t u : List ℕ) → AllOctets t → AllOctets u → sound_of t ≡ true → sound_of u ≡ true → afi_in t ≡ afi_in u → length t ≡ length u
      → ((r : Route) → Among r (routes_of t) ↔ Among r (routes_of u)) → t ≡ u
  -- what making a table writes is the image of no routes
  pub made : (afi : ℕ) (memory : List ℕ) → (make_of afi memory).answer ≡ DONE → (make_of afi memory).octets ≡ image_of afi (places_in memory) []
