-- What holds of the planner (document 02, W-214), octet by octet, whatever its choices. Stated here, proved in proofs/Statements/PlanRule.antt.
use Rattle.std.specs.Prelude.{ℕ, ◌+◌, ◌*◌, ◌≤◌, ◌<◌, ◌≡◌, List, [], ◌∷◌, ◌≢◌, length, get_or, take}
use Rattle.octets.specs.Numbers.{SPACE}
use Rattle.octets.specs.Rules.Answering.{Answering}
use Rattle.octets.specs.Octets.{AllOctets}
use Rattle.octets.specs.Outcome.{given}
use Rattle.octets.specs.Outputs.{Changed}
use Rattle.octets.specs.Lists.{Among}
use Rattle.lists.specs.LentLists.{Item, list_count, read_list}
use Rattle.plan.specs.declared.Planned.{Planned}
use Rattle.plan.specs.Flows.{Vrf}
use Rattle.plan.specs.Calls.{judge_of, plan_of}
use Rattle.plan.specs.Rules.FlowsRule.{Listed, GoodFlows, FlowsRefusal}
use Rattle.plan.specs.Rules.JudgeRule.{Accepted}

-- every flow that wants another attribute than this stands in a list of sources and groups
abbrev pub HasOthers : (attribute : List ℕ) → (items pairs : List Item) → Type 0
HasOthers attribute items pairs = (source group wanted : List ℕ) → Listed source group wanted items → wanted ≢ attribute → Among (source ∷ (group ∷ [])) pairs

-- no item stands in a list twice
pub data EachOnce : List Item → Type 0 where
  none : EachOnce []
  one : {x : Item} {xs : List Item} → (Among x xs → ⊥) → EachOnce xs → EachOnce (x ∷ xs)

-- a list of the different flows that want another attribute than this: all of them, no other, and each once
pub record DifferentOthers (attribute : List ℕ) (items pairs : List Item) : Type 0 where
  pub all : HasOthers attribute items pairs
  pub only : (x : Item) → Among x pairs → (source group wanted : List ℕ) × (x ≡ source ∷ (group ∷ [])) × Listed source group wanted items × (wanted ≢ attribute)
  pub once : EachOnce pairs

-- why the planner refuses: the refusals of flows, then SPACE for an output under 128 octets for each flow as it is listed
pub data PlanRefusal (afi : ℕ) (vrf : Vrf) (flows output : List ℕ) : ℕ → Type 0 where
  bad_flows : {n : ℕ} → FlowsRefusal afi vrf flows (64 < list_count flows) n → PlanRefusal afi vrf flows output n
  no_space : (items : List Item) → GoodFlows afi vrf flows (64 < list_count flows) items → length output < 128 * length items → PlanRefusal afi vrf flows output SPACE

-- what a plan that is done answers and leaves
pub record PlanDone (afi : ℕ) (vrf : Vrf) (flows output : List ℕ) (due : Changed Planned) : Type 0 where
  pub items : List Item
  pub takes : GoodFlows afi vrf flows (64 < list_count flows) items
  pub room : 128 * length items ≤ length output
  -- as many places as told, at the front of the output, are accepted by the judge's rule; none of them is marked
  pub accepted : Accepted afi vrf items (take (128 * due.answer.routes) due.octets)
  pub unmarked : (i : ℕ) → i < due.answer.routes → get_or due.octets (128 * i + 127) 0 ≡ 0
  -- none for no flows
  pub none : items ≡ [] → due.answer.routes ≡ 0
  -- else at most one more than the different flows that do not want an attribute, whatever the attribute, and so of the commonest
  pub few : (attribute : List ℕ) (pairs : List Item) → DifferentOthers attribute items pairs → due.answer.routes ≤ 1 + length pairs
  -- the same without counting: of no list in which every flow that does not want an attribute stands is the length less by more than one
  pub least : (attribute : List ℕ) (pairs : List Item) → HasOthers attribute items pairs → due.answer.routes ≤ 1 + length pairs
  -- they fit 128 octets for each flow as it is listed, and every octet past them is as it was
  pub fits : due.answer.routes ≤ length items
  pub size : length due.octets ≡ length output
  pub past : (i : ℕ) → 128 * due.answer.routes ≤ i → get_or due.octets i 0 ≡ get_or output i 0

-- a refusal has empty fields and changes no octet
pub record PlanNothing (output : List ℕ) (due : Changed Planned) : Type 0 where
  pub routeless : due.answer.routes ≡ 0
  pub untouched : due.octets ≡ output

-- the planner, of arguments that are octets: each answer exactly when, and what it leaves
pub record PlanRule : Type 0 where
  pub answers : (afi : ℕ) (vrf : Vrf) (flows output : List ℕ) → AllOctets vrf.originator → AllOctets vrf.distinguisher → AllOctets flows
      → Answering (plan_of afi vrf flows output).answer.number (PlanRefusal afi vrf flows output) (PlanDone afi vrf flows output (plan_of afi vrf flows output))
      (PlanNothing output (plan_of afi vrf flows output))
  -- the judge, asked of the same flows, accepts what the planner left
  pub judged : (afi : ℕ) (vrf : Vrf) (flows output : List ℕ) → AllOctets vrf.originator → AllOctets vrf.distinguisher → AllOctets flows
      → (plan_of afi vrf flows output).answer.number ≡ 0
      → judge_of afi vrf flows (take (128 * (plan_of afi vrf flows output).answer.routes) (plan_of afi vrf flows output).octets) ≡ record { number = 0; accepted = 1 }
  -- of a list's flows those that want another attribute can be listed, each once
  pub others : (attribute flows : List ℕ) (items : List Item) → read_list 3 flows ≡ given items → (pairs : List Item) × DifferentOthers attribute items pairs
