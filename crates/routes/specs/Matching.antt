-- Which route a match takes (document 01, "Which route a flow takes"), over any list of routes, whatever their order.
use Rattle.std.specs.Prelude.{ℕ, suc, Bool, false, not, List, [], ◌∷◌, eqb}
use Rattle.octets.specs.Choice.{pick, both}
use Rattle.octets.specs.Outcome.{on_outcome}
use Rattle.octets.specs.Order.{same, before}
use Rattle.nlri.specs.Fields.{Fields}
use Rattle.tunnel.specs.Attribute.{read_attribute}
use Rattle.routes.specs.Route.{Route, nlri_of, attribute_of}
use Rattle.routes.specs.Query.{Wanted, meets, Query}
use Rattle.routes.specs.Arguments.{read_s_pmsi}

-- what a test of fields says of a route's NLRI; no route has an NLRI that is not a well-formed S-PMSI NLRI
unfoldable pub of_fields : ℕ → Route → (Fields → Bool) → Bool
of_fields afi r test = on_outcome (λ number. false) test (read_s_pmsi afi (nlri_of r))

-- its attribute names a tunnel: the tunnel type is not 0, "no tunnel information"
unfoldable pub names_tunnel : Route → Bool
names_tunnel r = on_outcome (λ number. false) (λ f. not (eqb f.tunnel_type 0)) (read_attribute (attribute_of r))

-- a route is one of the router's: its originator equals the router, in size and octets
abbrev pub of_router : ℕ → (router : List ℕ) → Route → Bool
of_router afi router r = of_fields afi r (λ f. same f.originator router)

-- a candidate: one of the router asked about that names a tunnel (RFC 8556, section 4.1; request W-202)
unfoldable pub candidate : ℕ → (router : List ℕ) → Route → Bool
candidate afi router r = both (of_router afi router r) (names_tunnel r)

-- a candidate of a tier
unfoldable pub eligible : ℕ → (router : List ℕ) → Wanted → Route → Bool
eligible afi router wanted r = both (candidate afi router r) (of_fields afi r (meets wanted))

-- the route distinguisher of a route
unfoldable pub distinguisher_of : ℕ → Route → List ℕ
distinguisher_of afi r = on_outcome (λ number. []) (λ f. f.distinguisher) (read_s_pmsi afi (nlri_of r))

-- no route, or a tier and a route of it
pub data Found : Type 0 where
  nothing : Found
  found : (tier : ℕ) → Route → Found

-- of two routes of a tier, that with the lower route distinguisher, compared as eight octets
unfoldable pub lower : ℕ → (tier : ℕ) → Route → Found → Found
lower afi tier r nothing = found tier r
lower afi tier r (found t q) = pick (before (distinguisher_of afi q) (distinguisher_of afi r)) (found t q) (found tier r)

-- of the candidates of a tier, that with the lowest route distinguisher
unfoldable pub lowest_in : ℕ → (router : List ℕ) (tier : ℕ) → Wanted → List Route → Found
lowest_in afi router tier wanted [] = nothing
lowest_in afi router tier wanted (r ∷ rs) =
    pick (eligible afi router wanted r) (lower afi tier r (lowest_in afi router tier wanted rs)) (lowest_in afi router tier wanted rs)

-- the first found
unfoldable pub or_else : Found → Found → Found
or_else nothing other = other
or_else (found tier r) other = found tier r

-- the first of these tiers, numbered from `tier` on, that has a route
unfoldable pub first_of : ℕ → (router : List ℕ) (tier : ℕ) → List Wanted → List Route → Found
first_of afi router tier [] rs = nothing
first_of afi router tier (wanted ∷ tiers) rs = or_else (lowest_in afi router tier wanted rs) (first_of afi router (suc tier) tiers rs)

-- the lowest tier with a route wins; in it the lowest route distinguisher
unfoldable pub match_in : ℕ → Query → List Route → Found
match_in afi q rs = first_of afi q.router 1 q.tiers rs
