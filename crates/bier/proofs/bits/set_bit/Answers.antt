-- `bier::bits::set_bit` meets its contract.
use Rattle.bier.specs.BitStrings.{octet_of, with_bit}
use Rattle.bier.proofs.Functions.{one_shifted}
use Rattle.bier.proofs.bits.set_bit.Goals as goal

pub returns : goal.returns
unfolding with_bit octet_of
returns c = rw one_shifted
