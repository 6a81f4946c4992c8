-- `changes::change::move_up` meets its contract.
use mathlib.Core.Path.{◌∙◌}
use Rattle.changes.proofs.Moves.{up_by_copy}
use Rattle.changes.proofs.change.move_up.Goals as goal

pub returns : goal.returns
returns c = c.copy_within.ensures.after ∙ up_by_copy 128 c.args.tail.now c.requires
