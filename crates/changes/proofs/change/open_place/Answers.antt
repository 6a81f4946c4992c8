-- `changes::change::open_place` meets its contract.
use Rattle.octets.specs.Octets.{part}
use Rattle.changes.specs.Changing.{opened}
use Rattle.changes.proofs.Moves.{lent-up}
use Rattle.changes.proofs.change.open_place.Goals as goal

pub returns : goal.returns
unfolding opened part
returns c =
    let a = c.args in
    lent-up 128 a.start a.end a.table.now c.move_up.new.tail c.requires.0 c.requires.1 c.move_up.ensures
