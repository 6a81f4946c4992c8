-- `octets::blocks::place_4` meets its contract.
use Rattle.octets.proofs.Copies.{part-array}
use Rattle.octets.proofs.blocks.place_4.Goals as goal

pub returns : goal.returns
returns c =
    rw (← part-array c.args.s.now c.args.from 3 c.requires.0) c.place.ensures.1
