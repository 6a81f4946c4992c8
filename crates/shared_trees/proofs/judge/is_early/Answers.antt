-- `shared_trees::judge::is_early` meets its contract.
use mathlib.Core.Path.{◌∙◌}
use Rattle.shared_trees.proofs.Early.{early-told, early-refused}
use Rattle.shared_trees.proofs.judge.is_early.Goals as goal

pub returns-in-Ok : goal.returns-in-Ok
returns-in-Ok c = early-told _ _ c.in-Ok.is

pub returns-in-Err : goal.returns-in-Err
returns-in-Err c = c.ne.ensures ∙ early-refused _ _ c.in-Err.is
