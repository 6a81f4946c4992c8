-- `shared_trees::judge::is_originator_sized` meets its contract.
use Rattle.shared_trees.proofs.Sized.{originator-of}
use Rattle.shared_trees.proofs.judge.is_originator_sized.Goals as goal

pub returns : goal.returns
returns c = originator-of _ _ _ c.is_originator_size.ensures c.field.ensures
