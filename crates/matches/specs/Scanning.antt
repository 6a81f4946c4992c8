-- Definitions that mirror the functions of the scan; laws tie them to those of `routes`.
use Rattle.std.specs.Prelude.{ℕ, zero, suc, ◌+◌, ◌≤◌, ◌≡◌, Bool, true, false, List, [], ◌∷◌, Result, Ok, Err, Option, None, Some, ltb, eqb, length}
use Rattle.octets.specs.Numbers.{DONE, FLOW}
use Rattle.octets.specs.Choice.{pick, both, either}
use Rattle.octets.specs.Outcome.{given}
use Rattle.octets.specs.Outputs.{Leaves}
use Rattle.octets.specs.declared.refusal.Refusal.{Refusal}
use Rattle.octets.specs.Refusals.{refusal_number}
use Rattle.groups.specs.Classes.{class_by}
use Rattle.routes.specs.Table.{afi_in, sound_of}
use Rattle.routes.specs.Asked.{of_flow}
use Rattle.routes.specs.Calls.{match_of}
use Rattle.routes.specs.Reasons.{reason_of}
use Rattle.octets.specs.Octets.{part}
use Rattle.octets.specs.Order.{same, before}
use Rattle.nlri.specs.Fields.{Fields}
use Rattle.nlri.specs.Family.{is_originator_size}
use Rattle.nlri.specs.Groups.{ASM, SSM}
use Rattle.routes.specs.Query.{tiers_of, Query, Flow, flow_of}
use Rattle.routes.specs.Place.{PLACE, route_in}
use Rattle.routes.specs.Matching.{names_tunnel, Found, nothing, found}
use Rattle.matches.specs.declared.flow.Flow.{Flow as GivenFlow}
use Rattle.matches.specs.declared.scan.Best.{Best}
use Rattle.routes.specs.declared.Tier.{Tier}
use Rattle.routes.specs.declared.Tier.TheVariants.{Exact, AnyGroup, AnySource, Any}
use Rattle.routes.specs.Answers.{tier_number, empty_match}
use Rattle.matches.specs.declared.tier.Sought.{Sought as Given}
use Rattle.matches.specs.declared.tier.Tiers.{Tiers}
use Rattle.nlri.specs.Standing.{standing}
use Rattle.places.specs.Readable.{nlri_at}
use Rattle.places.specs.Writing.{RouteFits}

-- 0 where there is no tier
abbrev pub tier_or_0 : Option Tier → ℕ
tier_or_0 None = 0
tier_or_0 (Some tier) = tier_number tier

-- a flow's tiers, by the class of its group
abbrev pub open_tiers : (class : ℕ) → Tiers
open_tiers class = record { exact = true; any_group = eqb class SSM; any_source = eqb class ASM; any = true }

-- a shared tree's tiers, by whether its routes are eligible
abbrev pub tree_tiers : (eligible : Bool) → Tiers
tree_tiers eligible = record { exact = false; any_group = false; any_source = eligible; any = eligible }

-- what a scan looks for: the routes of a router, by a source and a group
pub record Sought : Type 0 where
  pub router : List ℕ
  pub source : List ℕ
  pub group : List ℕ

-- by its octets
abbrev pub sought_of : (router source group : List ℕ) → Sought
sought_of router source group = record { router = router; source = source; group = group }

-- by what a function is given
abbrev pub sought_in : Given → Sought
sought_in sought = sought_of sought.router.now sought.source.now sought.group.now

-- a flow by its octets
abbrev pub flow_in : GivenFlow → Flow
flow_in flow = flow_of flow.prefixes.now flow.router.now flow.source.now flow.group.now

-- what a match asks where these tiers are open
unfoldable pub open_query : Sought → Tiers → Query
open_query sought tiers =
    record { router = sought.router; tiers = tiers_of sought.source sought.group tiers.exact tiers.any_group tiers.any_source tiers.any }

-- a wildcard is no octets
unfoldable pub wildcard : List ℕ → Bool
wildcard address = eqb (length address) 0

-- a tier where it is open
abbrev pub where_open : (is_open : Bool) → Tier → Option Tier
where_open is_open tier = pick is_open (Some tier) None

-- the tier of a route whose source is the one wanted, by its group
unfoldable pub source_tier : (group : List ℕ) → Tiers → (route_group : List ℕ) → Option Tier
source_tier group tiers route_group = pick (same route_group group) (where_open tiers.exact Exact) (pick (wildcard route_group) (where_open tiers.any_group AnyGroup) None)

-- of one whose source is a wildcard
unfoldable pub any_source_tier : (group : List ℕ) → Tiers → (route_group : List ℕ) → Option Tier
any_source_tier group tiers route_group = pick (wildcard route_group) (where_open tiers.any Any) (pick (same route_group group) (where_open tiers.any_source AnySource) None)

-- none where the route is of no tier
unfoldable pub flow_tier : (source group : List ℕ) → Tiers → Fields → Option Tier
flow_tier source group tiers f =
    pick (wildcard f.source) (any_source_tier group tiers f.group)
    (pick (same f.source source) (source_tier group tiers f.group) None)

-- none for a route of another router
unfoldable pub tier_at : Sought → Tiers → (nlri : List ℕ) → Option Tier
tier_at sought tiers nlri = pick (same (standing nlri).originator sought.router) (flow_tier sought.source sought.group tiers (standing nlri)) None

-- a route of a tier goes ahead of the best so far: its tier is lower, or the same and its route distinguisher lower
unfoldable pub ahead_at : (table : List ℕ) → Tier → (at : ℕ) → Best → Bool
ahead_at t tier at best =
    either (ltb (tier_number tier) (tier_number best.tier))
    (both (eqb (tier_number tier) (tier_number best.tier)) (before (standing (nlri_at t at)).distinguisher (standing (nlri_at t best.start)).distinguisher))

-- the better of the best so far and a route of a tier at one more place
unfoldable pub ahead_of : (table : List ℕ) → Tier → (at : ℕ) → Option Best → Option Best
ahead_of t tier at None = Some (record { tier = tier; start = at })
ahead_of t tier at (Some best) = pick (ahead_at t tier at best) (Some (record { tier = tier; start = at })) (Some best)

-- the best so far with a route at one more place, which is passed over where it is of no tier or names no tunnel
unfoldable pub better_by : (table : List ℕ) → Option Tier → (at : ℕ) → Option Best → Option Best
better_by t None at best = best
better_by t (Some tier) at best = pick (names_tunnel (route_in (part t at PLACE))) (ahead_of t tier at best) best

module _ (sought : Sought) (tiers : Tiers) (t : List ℕ) where
  -- by the tier of that route
  abbrev pub better_at : Option Best → (at : ℕ) → Option Best
  better_at best at = better_by t (tier_at sought tiers (nlri_at t at)) at best

  -- with the routes at so many places more
  unfoldable pub scan_at : ℕ → (at : ℕ) → Option Best → Option Best
  scan_at zero at best = best
  scan_at (suc count) at best = scan_at count (at + PLACE) (better_at best at)

-- the route that is the best so far
unfoldable pub best_in : (table : List ℕ) → Option Best → Found
best_in t None = nothing
best_in t (Some best) = found (tier_number best.tier) (route_in (part t best.start PLACE))

-- something of the best route's place, where there is a best route
abbrev pub Kept : (ℕ → Type 0) → Option Best → Type 0
Kept P None = Unit
Kept P (Some best) = P best.start

-- where there is a best route, its place is in the table, and its route can be written
abbrev pub Answerable : (table : List ℕ) → Option Best → (output : List ℕ) → Type 0
Answerable t best output = Kept (λ start. (start + PLACE ≤ length t) × RouteFits (part t start PLACE) output) best

-- the number of a flow, by that of its group's class and by the sizes of router, source and group: the class first, since the others are FLOW too
unfoldable pub sized_fault : (number router source group : ℕ) → ℕ
sized_fault number router source group =
    pick (eqb number DONE)
    (pick (is_originator_size router)
    (pick (eqb source group) DONE FLOW)
    FLOW)
    number

-- what is sought once no argument is refused: the flow's octets, by the tiers of its group's class
pub record Taken (t : List ℕ) (flow : Flow) (room : ℕ) (sought : Given) : Type 0 where
  pub class : ℕ
  pub sound : sound_of t ≡ true
  pub classed : given class ≡ class_by (afi_in t) flow.prefixes flow.group
  pub sized : DONE ≡ sized_fault DONE (length flow.router) (length flow.source) (length flow.group)
  pub roomy : 124 ≤ room
  pub its : sought_in sought ≡ sought_of flow.router flow.source flow.group
  pub opens : sought.tiers ≡ open_tiers class

-- what asking by a flow tells, where the output has so many octets: what is sought, or the refusal that its match answers
abbrev pub Asked : (t : List ℕ) → Flow → (room : ℕ) → Result Given Refusal → Type 0
Asked t flow room (Ok sought) = Taken t flow room sought
Asked t flow room (Err refusal) = (output : List ℕ) → length output ≡ room → Leaves (match_of t (of_flow flow) output) (empty_match (refusal_number refusal)) output

-- the reasons of the four tiers in turn, by those that are open
abbrev pub reasons_by : (won : ℕ) → Tiers → List ℕ
reasons_by won tiers = reason_of won 1 tiers.exact ∷ (reason_of won 2 tiers.any_group ∷ (reason_of won 3 tiers.any_source ∷ (reason_of won 4 tiers.any ∷ [])))
