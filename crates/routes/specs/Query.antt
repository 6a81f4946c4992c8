-- What a match asks (document 01, "Which route a flow takes"): the router and, for each tier, the source and the group that a route of it has.
-- A tier is document 01's term for the numbers 1 to 4 of its order.
use Rattle.std.specs.Prelude.{ℕ, Bool, true, false, List, [], ◌∷◌, eqb}
use Rattle.octets.specs.Choice.{pick, both}
use Rattle.octets.specs.Order.{same}
use Rattle.nlri.specs.Fields.{Fields}
use Rattle.nlri.specs.Groups.{ASM, SSM}

-- what a tier wants of a route: this source and this group, where a wildcard is no octets; or no route is of the tier
pub data Wanted : Type 0 where
  no_route : Wanted
  these : (source group : List ℕ) → Wanted

-- fields are of a tier: source and group equal those wanted
unfoldable pub meets : Wanted → Fields → Bool
meets no_route f = false
meets (these source group) f = both (same f.source source) (same f.group group)

-- this source and this group where the tier is open; else no route is of it
abbrev pub wanted_if : (is_open : Bool) (source group : List ℕ) → Wanted
wanted_if is_open source group = pick is_open (these source group) no_route

-- the tiers of a source and a group, each where it is open. 1: source and group both equal; 2: source equal, group wildcard; 3: source wildcard,
-- group equal; 4: both wildcard
unfoldable pub tiers_of : (source group : List ℕ) (exact any_group any_source any : Bool) → List Wanted
tiers_of source group exact any_group any_source any =
    wanted_if exact source group ∷ (wanted_if any_group source [] ∷ (wanted_if any_source [] group ∷ (wanted_if any [] [] ∷ [])))

-- of which router a match asks, and what the tiers want, the first one first
pub record Query : Type 0 where
  pub router : List ℕ
  pub tiers : List Wanted

-- a customer flow, the router about which it is asked, and the prefixes by which its group's class is told, a lent list (request W-209)
pub record Flow : Type 0 where
  pub prefixes : List ℕ
  pub router : List ℕ
  pub source : List ℕ
  pub group : List ℕ

-- the flow of a call's arguments
abbrev pub flow_of : (prefixes router source group : List ℕ) → Flow
flow_of prefixes router source group = record { prefixes = prefixes; router = router; source = source; group = group }

-- what a flow asks, by its group's class: tier 2 where the group is SSM, tier 3 where it is ASM, 1 and 4 always
unfoldable pub flow_query : Flow → (class : ℕ) → Query
flow_query flow class = record { router = flow.router; tiers = tiers_of flow.source flow.group true (eqb class SSM) (eqb class ASM) true }
