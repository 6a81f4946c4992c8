-- `changes::change::add` meets its contract.
use Rattle.changes.specs.Changing.{added_at}
use Rattle.changes.proofs.change.add.Goals as goal

pub returns : goal.returns
unfolding added_at
returns c = rw (c.replace.ensures, c.open_at.ensures)
