-- `changes::change::add_place` meets its contract.
use Rattle.changes.specs.Changing.{replaced_at, added_at}
use Rattle.changes.proofs.change.add_place.Goals as goal

pub returns : goal.returns
unfolding added_at replaced_at
returns c = rw (c.place.ensures.1, c.open_at.ensures)
