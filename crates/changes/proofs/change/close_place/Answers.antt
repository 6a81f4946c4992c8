-- `changes::change::close_place` meets its contract.
use Rattle.octets.specs.Octets.{part}
use Rattle.octets.specs.Order.{zeros}
use Rattle.changes.specs.Changing.{closed}
use Rattle.changes.proofs.Moves.{lent-down}
use Rattle.changes.proofs.change.close_place.Goals as goal

pub returns : goal.returns
unfolding closed part
returns c =
    let a = c.args in
    lent-down 128 a.start a.end a.table.now c.close_gap.new.tail (zeros 128) c.requires.0 c.requires.1 c.close_gap.ensures
