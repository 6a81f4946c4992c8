-- `octets::blocks::place_16` meets its contract.
use Rattle.octets.proofs.Copies.{placed-blocks}
use borrow.Author.Rules.{rules}
use Rattle.octets.proofs.blocks.place_16.Goals as goal

pub returns : goal.returns
returns c = search (rules, placed-blocks)
