-- `groups::lent::class_along` meets its contract.
use borrow.Author.Rules.{rules}
use Rattle.groups.proofs.Classes.{along-held, along-other, along-stop, along-last}
use Rattle.groups.proofs.lent.class_along.Goals as goal

pub returns-then-not-is_good : goal.returns-then-not-is_good
returns-then-not-is_good c = along-stop _ _ _ c.loop-item.invariant c.in-Some.ensures.steps _ c.field-prefix.ensures _ c.is_good.ensures c.if-not-is_good.true

pub loop-item-preserved-then-is_held : goal.loop-item-preserved-then-is_held
loop-item-preserved-then-is_held c = search (rules, along-held)

pub loop-item-preserved : goal.loop-item-preserved
loop-item-preserved c = search (rules, along-other)

pub returns : goal.returns
returns c = search (rules, along-last)
