-- `plan::commonest::commonest` meets its contract.
use borrow.Author.Rules.{rules}
use Rattle.plan.proofs.Leaders.{leading-first, leading-none, leading-next, leading-last}
use Rattle.plan.proofs.commonest.commonest.Goals as goal

pub returns-in_default : goal.returns-in_default
returns-in_default c = search (rules, leading-none)

pub loop-flow-init : goal.loop-flow-init
loop-flow-init c = search (rules, leading-first)

pub loop-flow-preserved : goal.loop-flow-preserved
loop-flow-preserved c = search (rules, leading-next)

pub returns : goal.returns
returns c = leading-last _ _ _ _ c.loop-flow.invariant c.in_default-next.ensures.steps.0
