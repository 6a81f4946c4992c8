-- `plan::commonest::count_wanting` meets its contract.
use Rattle.plan.proofs.Leaders.{Counting, counting-first, counting-other, counting-again, counting-one, counting-last}
use mathlib.Core.Path.{subst, sym}
use Rattle.plan.proofs.commonest.count_wanting.Goals.{else-wants-via-then-wants+else-not-have, else-wants-via-else-wants}
use Rattle.plan.proofs.commonest.count_wanting.Goals as goal

pub loop-flow-init : goal.loop-flow-init
loop-flow-init c = subst (Counting c.args.wanted.now c.args.flows.now 0) (sym c.again-rest.ensures) (counting-first _ _ c.requires)

pub loop-flow-preserved-then-not-have : goal.loop-flow-preserved-then-not-have
loop-flow-preserved-then-not-have c =
    counting-one c.loop-flow.invariant c.in-Some.ensures.steps _ c.wants.ensures _ _ c.have.ensures c.again.ensures c.if-wants.true c.if-not-have.true

pub loop-flow-preserved : goal.loop-flow-preserved
loop-flow-preserved c =
    elim c.else-wants.branch [
      | else-wants-via-then-wants+else-not-have w ↦ counting-again c.loop-flow.invariant c.in-Some.ensures.steps _ c.wants.ensures _ _ w.have.ensures w.again.ensures w.if-not-have.false
      | else-wants-via-else-wants w ↦ counting-other c.loop-flow.invariant c.in-Some.ensures.steps _ c.wants.ensures w.if-wants.false
    ]

pub returns : goal.returns
returns c = counting-last c.loop-flow.invariant c.in_default.ensures.steps.0
