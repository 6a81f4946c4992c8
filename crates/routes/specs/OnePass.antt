-- A match in one pass: mirrors the scan, which keeps the best route so far. proofs/Definitions/Matching/OnePass.antt ties it to the rule in `Matching`.
use Rattle.std.specs.Prelude.{ℕ, suc, Bool, List, [], ◌∷◌, ltb, eqb}
use Rattle.octets.specs.Choice.{pick, both, either}
use Rattle.octets.specs.Order.{before}
use Rattle.routes.specs.Route.{Route}
use Rattle.routes.specs.Query.{Wanted, Query}
use Rattle.routes.specs.Matching.{eligible, distinguisher_of, Found, nothing, found}

-- the first of these tiers, numbered from `tier` on, of which a route is a candidate; 0 where there is none
unfoldable pub tier_from : ℕ → (router : List ℕ) (tier : ℕ) → List Wanted → Route → ℕ
tier_from afi router tier [] r = 0
tier_from afi router tier (wanted ∷ tiers) r = pick (eligible afi router wanted r) tier (tier_from afi router (suc tier) tiers r)

-- the tier of a route
abbrev pub tier_of : ℕ → Query → Route → ℕ
tier_of afi q r = tier_from afi q.router 1 q.tiers r

-- a route of one tier goes ahead of another: its tier is lower, or the same and its route distinguisher lower
unfoldable pub ahead : ℕ → (tier : ℕ) → Route → (other : ℕ) → Route → Bool
ahead afi tier r other w = either (ltb tier other) (both (eqb tier other) (before (distinguisher_of afi r) (distinguisher_of afi w)))

-- a route of a tier against the best so far
unfoldable pub against : ℕ → (tier : ℕ) → Route → Found → Found
against afi tier r nothing = found tier r
against afi tier r (found other w) = pick (ahead afi tier r other w) (found tier r) (found other w)

-- the best so far with one more route; tier 0 is none
unfoldable pub better : ℕ → (tier : ℕ) → Route → Found → Found
better afi tier r best = pick (eqb tier 0) best (against afi tier r best)

-- the best so far after more routes, from the first to the last
unfoldable pub scanned : ℕ → Query → Found → List Route → Found
scanned afi q best [] = best
scanned afi q best (r ∷ rs) = scanned afi q (better afi (tier_of afi q r) r best) rs
