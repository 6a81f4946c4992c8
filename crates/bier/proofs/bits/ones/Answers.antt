-- `bier::bits::ones` meets its contract.
use borrow.Author.Rules.{rules}
use Rattle.bier.proofs.Functions.{ones-words}
use Rattle.bier.proofs.bits.ones.Goals as goal

pub returns : goal.returns
returns c = search (rules, ones-words)
