-- `octets::blocks::place_any` meets its contract.
use Rattle.octets.proofs.Copies.{placed-last}
use borrow.Author.Rules.{rules}
use Rattle.octets.proofs.blocks.place_any.Goals as goal

pub returns : goal.returns
returns c = (search rules, search (rules, placed-last))
