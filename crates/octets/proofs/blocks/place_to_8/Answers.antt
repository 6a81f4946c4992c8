-- `octets::blocks::place_to_8` meets its contract.
use Rattle.octets.proofs.Copies.{placed-ends}
use borrow.Author.Rules.{rules}
use Rattle.octets.proofs.blocks.place_to_8.Goals as goal

pub returns : goal.returns
returns c = search (rules, placed-ends)
