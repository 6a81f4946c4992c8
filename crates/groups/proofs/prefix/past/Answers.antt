-- `groups::prefix::past` meets its contract.
use Rattle.groups.proofs.Bits.{past_is}
use Rattle.groups.proofs.prefix.past.Goals as goal

pub returns : goal.returns
returns c = past_is _ c.requires
