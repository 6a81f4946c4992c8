-- `plan::writing::put_place` meets its contract.
use borrow.Author.Rules.{rules}
use Rattle.plan.proofs.Puts.{part-written, place_end}
use Rattle.plan.proofs.writing.put_place.Goals as goal

pub returns : goal.returns
returns c = search (rules, part-written, place_end)
