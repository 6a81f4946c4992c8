-- The judge of proposed routes, whoever proposes them (document 02, W-214).
use Rattle.std.specs.Prelude.{ℕ, zero, suc, ◌/◌, ◌%◌, length, take, drop, eqb, Bool, true, false, List, [], ◌∷◌}
use Rattle.octets.specs.Choice.{pick, both}
use Rattle.octets.specs.Outcome.{on_outcome}
use Rattle.octets.specs.Order.{same}
use Rattle.routes.specs.Route.{Route, nlri_of, attribute_of, holds}
use Rattle.routes.specs.Query.{Flow}
use Rattle.routes.specs.Arguments.{read_flow}
use Rattle.routes.specs.Place.{PLACE, place_sound}
use Rattle.routes.specs.Table.{routes_from}
use Rattle.routes.specs.Matching.{of_fields, Found, nothing, found, match_in}
use Rattle.plan.specs.Flows.{Vrf, ListedFlow, asking}

-- a route has the VRF's originator and RD
unfoldable pub is_own : (afi : ℕ) → Vrf → Route → Bool
is_own afi vrf r = of_fields afi r (λ f. both (same f.originator vrf.originator) (same f.distinguisher vrf.distinguisher))

-- each of them has
unfoldable pub all_own : (afi : ℕ) → Vrf → List Route → Bool
all_own afi vrf [] = true
all_own afi vrf (r ∷ rs) = both (is_own afi vrf r) (all_own afi vrf rs)

-- no NLRI repeats
unfoldable pub no_repeat : List Route → Bool
no_repeat [] = true
no_repeat (r ∷ rs) = pick (holds (nlri_of r) rs) false (no_repeat rs)

-- what a match found has this attribute
unfoldable pub gives : List ℕ → Found → Bool
gives a nothing = false
gives a (found tier r) = same (attribute_of r) a

-- what a flow's match over these routes alone takes; nothing where the flow is refused
unfoldable pub matched : (afi : ℕ) → Flow → List Route → Found
matched afi flow rs = on_outcome (λ number. nothing) (λ q. match_in afi q rs) (read_flow afi flow)

-- it has the flow's wanted attribute
unfoldable pub serves : (afi : ℕ) → Vrf → List Route → ListedFlow → Bool
serves afi vrf rs f = gives f.wanted (matched afi (asking vrf f) rs)

-- each flow's has
unfoldable pub all_served : (afi : ℕ) → Vrf → List Route → List ListedFlow → Bool
all_served afi vrf rs [] = true
all_served afi vrf rs (f ∷ fs) = both (serves afi vrf rs f) (all_served afi vrf rs fs)

-- routes are accepted: every one has that originator and RD, no NLRI repeats, and each flow's match has its wanted attribute
unfoldable pub accepts : (afi : ℕ) → Vrf → List ListedFlow → List Route → Bool
accepts afi vrf fs rs = both (all_own afi vrf rs) (both (no_repeat rs) (all_served afi vrf rs fs))

-- each of so many places holds a route that install would accept by itself, whatever their order
unfoldable pub sound_places : (afi count : ℕ) → List ℕ → Bool
sound_places afi zero s = true
sound_places afi (suc count) s = both (place_sound afi (take PLACE s)) (sound_places afi count (drop PLACE s))

-- routes proposed as table places: whole ones, each sound by itself, of routes that are accepted
unfoldable pub accepts_places : (afi : ℕ) → Vrf → List ListedFlow → (places : List ℕ) → Bool
accepts_places afi vrf fs places =
    both (eqb (length places % PLACE) 0)
    (both (sound_places afi (length places / PLACE) places)
    (accepts afi vrf fs (routes_from (length places / PLACE) places)))
