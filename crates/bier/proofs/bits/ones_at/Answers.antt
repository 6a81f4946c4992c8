-- `bier::bits::ones_at` meets its contract.
use borrow.Author.Rules.{rules}
use Rattle.bier.proofs.Functions.{ones-word}
use Rattle.bier.proofs.bits.ones_at.Goals as goal

pub returns : goal.returns
returns c = ones-word _ _ _ (λ i. (c.type_inv.s i).fits) (search rules) c.eight_low_first.ensures
