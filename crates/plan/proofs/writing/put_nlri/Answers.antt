-- `plan::writing::put_nlri` meets its contract.
use borrow.Author.Rules.{rules}
use Rattle.plan.proofs.Puts.{nlri-first, nlri-second, nlri-third, nlri-put}
use Rattle.plan.proofs.writing.put_nlri.Goals as goal

pub place-second-requires : goal.place-second-requires
place-second-requires c = search (rules, nlri-first)

pub place-third-requires : goal.place-third-requires
place-third-requires c = search (rules, nlri-second)

pub put_flow-requires : goal.put_flow-requires
put_flow-requires c = search (rules, nlri-third)

pub returns : goal.returns
returns c = search (rules, nlri-put)
