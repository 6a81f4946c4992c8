-- `plan::proposal::are_served` meets its contract.
use Rattle.plan.proofs.JudgedPlaces.{unserved, served-next, served-ends}
use Rattle.plan.proofs.proposal.are_served.Goals as goal

pub returns-then-not-is_served : goal.returns-then-not-is_served
returns-then-not-is_served c = unserved _ _ _ c.loop-flow.invariant c.in-Some.ensures.steps _ c.is_served.ensures c.if-not-is_served.true

pub loop-flow-preserved : goal.loop-flow-preserved
loop-flow-preserved c = served-next _ _ _ c.loop-flow.invariant c.in-Some.ensures.steps _ c.is_served.ensures c.if-not-is_served.false

pub returns : goal.returns
returns c = served-ends _ _ _ c.loop-flow.invariant c.in-None.ensures.steps.0
