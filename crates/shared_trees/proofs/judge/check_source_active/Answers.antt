-- `shared_trees::judge::check_source_active` meets its contract.
use Rattle.routes.specs.SharedTree.{read_source_active}
use Rattle.shared_trees.proofs.SourceActives.{number-of}
use Rattle.shared_trees.proofs.judge.check_source_active.Goals as goal

pub returns : goal.returns
unfolding read_source_active
returns c = number-of _ _ _ _ c.check_of_type.ensures c.field.ensures
