-- `plan::writing::put_flow` meets its contract.
use borrow.Author.Rules.{rules}
use Rattle.plan.proofs.Puts.{flow-first, flow-second, flow-third, flow-put}
use Rattle.plan.proofs.writing.put_flow.Goals as goal

pub put_address-second-requires : goal.put_address-second-requires
put_address-second-requires c = search (rules, flow-first)

pub put_address-third-requires : goal.put_address-third-requires
put_address-third-requires c = search (rules, flow-second)

pub place-requires : goal.place-requires
place-requires c = search (rules, flow-third)

pub returns : goal.returns
returns c = search (rules, flow-put)
