-- `octets::blocks::place_8` meets its contract.
use Rattle.octets.proofs.Copies.{part-array}
use Rattle.octets.proofs.blocks.place_8.Goals as goal

pub returns : goal.returns
returns c =
    rw (← part-array c.args.s.now c.args.from 7 c.requires.0) c.place.ensures.1
