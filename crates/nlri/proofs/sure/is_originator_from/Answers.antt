-- `nlri::sure::is_originator_from` meets its contract.
use Rattle.nlri.proofs.Functions.Sure.{originator-from}
use Rattle.nlri.proofs.sure.is_originator_from.Goals as goal

pub returns : goal.returns
returns c = originator-from _ _ _ _ c.requires c.wrapping_sub_usize.ensures.value c.is_originator_size.ensures
