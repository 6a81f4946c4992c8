-- `nlri::fields::reading_by` meets its contract.
use Rattle.std.proofs.Common.{refl}
use Rattle.nlri.proofs.Functions.Singles.{answer-by}
use Rattle.nlri.proofs.fields.reading_by.Goals as goal

pub returns : goal.returns
returns c = answer-by _ _ _ _ _ _ refl c.nlri_in-nlri.ensures c.key_in.ensures c.fec_in.ensures
