-- `plan::commonest::better` meets its contract.
use borrow.Author.Rules.{rules}
use Rattle.plan.proofs.Leaders.{led-later, led-now, led-still}
use Rattle.plan.proofs.commonest.better.Goals as goal

pub returns-then-want : goal.returns-then-want
returns-then-want c = search (rules, led-later)

pub returns-then-leader-count : goal.returns-then-leader-count
returns-then-leader-count c = search (rules, led-now)

pub returns : goal.returns
returns c = search (rules, led-still)
