-- `changes::change::open_at` meets its contract.
use Rattle.changes.specs.Changing.{opened_at}
use Rattle.changes.proofs.change.open_at.Goals as goal

pub returns : goal.returns
unfolding opened_at
returns c = rw (c.open_place.ensures, c.write_header.ensures, c.afi_of-afi.ensures.0)
