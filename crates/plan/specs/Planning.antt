-- The planner's routes (document 02, W-214): a (C-*,C-*) route with the commonest attribute, and a (C-S,C-G) route for each different flow that wants
-- another. They are written in this order, each flow where it is listed last; document 02 leaves the order to the program.
use Rattle.std.specs.Prelude.{ℕ, List, [], ◌∷◌}
use Rattle.nlri.specs.Fields.{Fields, encode_nlri}
use Rattle.routes.specs.Route.{Route, route}
use Rattle.plan.specs.Flows.{Vrf, ListedFlow, different}
use Rattle.plan.specs.Commonest.{others, commonest}

-- the fields of the S-PMSI NLRI of a VRF for a flow; a wildcard is no octets
unfoldable pub fields_for : Vrf → ListedFlow → Fields
fields_for vrf f =
    record { type = 3; distinguisher = vrf.distinguisher; source_as = 0; source = f.source; group = f.group; originator = vrf.originator; key = []; fec = [] }

-- its route with the wanted attribute, not marked
unfoldable pub route_for : Vrf → ListedFlow → Route
route_for vrf f = route (encode_nlri (fields_for vrf f)) f.wanted

-- a route for each
unfoldable pub routes_for : Vrf → List ListedFlow → List Route
routes_for vrf [] = []
routes_for vrf (f ∷ fs) = route_for vrf f ∷ routes_for vrf fs

-- wildcards for source and group
unfoldable pub wildcard_flow : (wanted : List ℕ) → ListedFlow
wildcard_flow wanted = record { source = []; group = []; wanted = wanted }

-- what has a route: every flow with an attribute, and the different flows that want another
unfoldable pub planned : (wanted : List ℕ) → List ListedFlow → List ListedFlow
planned wanted fs = wildcard_flow wanted ∷ others wanted (different fs)

-- the routes that are proposed: none for no flows
unfoldable pub proposal : Vrf → List ListedFlow → List Route
proposal vrf [] = []
proposal vrf (f ∷ fs) = routes_for vrf (planned (commonest (f ∷ fs)) (f ∷ fs))
