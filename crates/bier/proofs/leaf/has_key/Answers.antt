-- `bier::leaf::has_key` meets its contract.
use Rattle.bier.proofs.Functions.{key-same}
use Rattle.bier.proofs.leaf.has_key.Goals as goal

pub returns : goal.returns
returns c = key-same _ _ _ _ c.is_same.ensures c.between.ensures
