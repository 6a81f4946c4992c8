-- A table that has the routes of an accepted proposal and no others: what a flow's match tells in it.
use Prim.Native.Nat.{ℕ}
use mathlib.Core.Path.{◌≡◌, ap, ap₂, ◌∙◌}
use mathlib.Core.List.{List}
use mathlib.Core.Logic.{◌↔◌}
use Rattle.octets.specs.Octets.{part}
use Rattle.octets.specs.Outputs.{Changed}
use Rattle.octets.specs.Lists.{Among}
use Rattle.lists.specs.LentLists.{Item}
use Rattle.routes.specs.declared.Matched.{Matched}
use Rattle.routes.specs.Route.{Route, attribute_of}
use Rattle.routes.specs.Query.{Flow, flow_of}
use Rattle.routes.specs.Asked.{of_flow}
use Rattle.routes.specs.Table.{afi_in, routes_of}
use Rattle.routes.specs.Calls.{match_of}
use Rattle.routes.specs.Rules.MatchRule.{InTier, Taken, MatchAnswer, one_told, none_told}
use Rattle.routes.proofs.Statements.Taken.{taken-one, taken-among}
use Rattle.routes.proofs.Theorems.{match_rule}
use Rattle.plan.specs.Flows.{Vrf}
use Rattle.plan.specs.Rules.FlowsRule.{Listed}
use Rattle.plan.specs.Rules.JudgeRule.{Accepted}

-- what is told is the route that is taken, and no other is
told-taken : {afi tier : ℕ} {router output : List ℕ} {flow : Flow} {rs : List Route} {r : Route} {changed : Changed Matched} → Taken afi router (InTier afi flow) rs tier r
    → MatchAnswer afi router (InTier afi flow) output rs changed → part changed.octets changed.answer.nlri_size changed.answer.attribute_size ≡ attribute_of r
told-taken {changed = changed} t (one_told tier u k told) =
    ap₂ (λ (m n : ℕ). part changed.octets m n) told.sizes.0 told.sizes.1 ∙ told.attribute ∙ ap attribute_of (taken-one t k).1
told-taken t (none_told none done untold) = absurd (none _ _ t.member t.eligible)

pub proposed-told : (t output : List ℕ) (vrf : Vrf) (items : List Item) (places : List ℕ) (accepted : Accepted (afi_in t) vrf items places)
    → ((r : Route) → Among r (routes_of t) ↔ Among r accepted.routes) → (source group wanted : List ℕ) → Listed source group wanted items
    → let changed : Changed Matched = match_of t (of_flow (flow_of vrf.prefixes vrf.originator source group)) output in
    changed.answer.number ≡ 0 → part changed.octets changed.answer.nlri_size changed.answer.attribute_size ≡ wanted
proposed-told t output vrf items places accepted are source group wanted listed done =
    let s = accepted.served source group wanted listed in
    told-taken (taken-among are s.takes) ((match_rule.table (flow_of vrf.prefixes vrf.originator source group)).answers t output done) ∙ s.has
