-- What holds of the judge (document 02, W-214), octet by octet. Stated here, proved in proofs/Statements/JudgeRule.antt.
use Rattle.std.specs.Prelude.{ℕ, ◌+◌, ◌<◌, ◌≡◌, List, [], ◌∷◌, ◌↔◌, ◌⊎◌, ◌≢◌, length}
use Rattle.octets.specs.Octets.{part}
use Rattle.octets.specs.Outputs.{Changed}
use Rattle.octets.specs.Rules.Answering.{Answering}
use Rattle.octets.specs.Lists.{Among}
use Rattle.lists.specs.LentLists.{Item, list_count}
use Rattle.routes.specs.Route.{Route, nlri_of, attribute_of}
use Rattle.routes.specs.declared.Matched.{Matched}
use Rattle.routes.specs.Query.{flow_of}
use Rattle.routes.specs.Asked.{of_flow}
use Rattle.routes.specs.Table.{afi_in, routes_of}
use Rattle.routes.specs.Calls.{match_of}
use Rattle.routes.specs.Rules.ArgumentRules.{SPmsiOf}
use Rattle.routes.specs.Rules.MatchRule.{InTier, Taken}
use Rattle.routes.specs.Rules.SoundRule.{route_in_place, PlaceHolds}
use Rattle.plan.specs.declared.Judged.{Judged}
use Rattle.plan.specs.Flows.{Vrf, vrf_of}
use Rattle.plan.specs.Calls.{judge_of}
use Rattle.plan.specs.Rules.FlowsRule.{Listed, GoodFlows, FlowsRefusal}

-- the octets from `at` on are whole places of 128, each of a route that install would accept by itself, with zeros after it and 0 or 1 as its mark; and
-- these are the routes, in their order
pub data Proposes (afi : ℕ) (places : List ℕ) : (at : ℕ) → List Route → Type 0 where
  nothing_more : {at : ℕ} → at ≡ length places → Proposes afi places at []
  one_place : {at : ℕ} {rs : List Route} → PlaceHolds afi places at → Proposes afi places (at + 128) rs → Proposes afi places at (route_in_place places at ∷ rs)

-- a route has the originator and the RD
pub record Own (afi : ℕ) (vrf : Vrf) (r : Route) : Type 0 where
  pub originates : SPmsiOf afi vrf.originator (nlri_of r)
  pub distinguishes : originates.named.fields.distinguisher ≡ vrf.distinguisher

-- no NLRI repeats
pub data NoneRepeated : List Route → Type 0 where
  none : NoneRepeated []
  one : {r : Route} {rs : List Route} → ((other : Route) → Among other rs → nlri_of other ≢ nlri_of r) → NoneRepeated rs → NoneRepeated (r ∷ rs)

-- a flow takes, of these routes alone and asked of the originator under the prefixes, a route with its wanted attribute
pub record Served (afi : ℕ) (vrf : Vrf) (rs : List Route) (source group wanted : List ℕ) : Type 0 where
  pub tier : ℕ
  pub taken : Route
  pub takes : Taken afi vrf.originator (InTier afi (flow_of vrf.prefixes vrf.originator source group)) rs tier taken
  pub has : attribute_of taken ≡ wanted

-- what the judge accepts
pub record Accepted (afi : ℕ) (vrf : Vrf) (items : List Item) (places : List ℕ) : Type 0 where
  pub routes : List Route
  pub proposed : Proposes afi places 0 routes
  pub own : (r : Route) → Among r routes → Own afi vrf r
  pub once : NoneRepeated routes
  pub served : (source group wanted : List ℕ) → Listed source group wanted items → Served afi vrf routes source group wanted

-- LONG: more than 64 flows, or more than 8,192 octets of places
abbrev pub JudgeLong : (flows places : List ℕ) → Type 0
JudgeLong flows places = (64 < list_count flows) ⊎ (8192 < length places)

-- what is told: 1 where the places are accepted, 0 where they are not
pub record JudgeDone (afi : ℕ) (vrf : Vrf) (flows places : List ℕ) (answer : Judged) : Type 0 where
  pub items : List Item
  pub takes : GoodFlows afi vrf flows (JudgeLong flows places) items
  pub told : ((answer.accepted ≡ 1) × Accepted afi vrf items places) ⊎ ((answer.accepted ≡ 0) × (Accepted afi vrf items places → ⊥))

-- the judge: each answer exactly when
pub record JudgeRule : Type 0 where
  -- the VRF of a call's arguments
  pub arguments : (prefixes originator distinguisher : List ℕ)
      → ((vrf_of prefixes originator distinguisher).prefixes ≡ prefixes) × ((vrf_of prefixes originator distinguisher).originator ≡ originator)
      × ((vrf_of prefixes originator distinguisher).distinguisher ≡ distinguisher)
  pub answers : (afi : ℕ) (vrf : Vrf) (flows places : List ℕ)
      → Answering (judge_of afi vrf flows places).number (FlowsRefusal afi vrf flows (JudgeLong flows places)) (JudgeDone afi vrf flows places (judge_of afi vrf flows places))
      ((judge_of afi vrf flows places).accepted ≡ 0)
  -- in a table that has the routes of an accepted proposal and no others, each flow's match, where it is done, tells the attribute wanted
  pub in_table : (t output : List ℕ) (vrf : Vrf) (items : List Item) (places : List ℕ) (accepted : Accepted (afi_in t) vrf items places)
      → ((r : Route) → Among r (routes_of t) ↔ Among r accepted.routes) → (source group wanted : List ℕ) → Listed source group wanted items
      → let changed : Changed Matched = match_of t (of_flow (flow_of vrf.prefixes vrf.originator source group)) output in
      changed.answer.number ≡ 0 → part changed.octets changed.answer.nlri_size changed.answer.attribute_size ≡ wanted
