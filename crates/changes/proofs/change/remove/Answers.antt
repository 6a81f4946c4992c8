-- `changes::change::remove` meets its contract.
use Rattle.changes.specs.Changing.{taken_at}
use Rattle.changes.proofs.change.remove.Goals as goal

pub returns : goal.returns
unfolding taken_at
returns c = rw (c.write_header.ensures, c.close_place.ensures, c.afi_of-afi.ensures.0)
