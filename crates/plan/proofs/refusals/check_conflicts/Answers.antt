-- `plan::refusals::check_conflicts` meets its contract.
use Rattle.plan.proofs.Checks.{conflict-here, conflict-next, conflict-ends}
use Rattle.plan.proofs.refusals.check_conflicts.Goals as goal

pub returns-then-clash_with : goal.returns-then-clash_with
returns-then-clash_with c = conflict-here c.loop-flow.invariant c.in-Some.ensures.steps _ _ c.clash_with.ensures c.again.ensures c.if-clash_with.true

pub loop-flow-preserved : goal.loop-flow-preserved
loop-flow-preserved c = conflict-next c.loop-flow.invariant c.in-Some.ensures.steps _ _ c.clash_with.ensures c.again.ensures c.if-clash_with.false

pub returns : goal.returns
returns c = conflict-ends c.loop-flow.invariant c.in_default.ensures.steps.0
