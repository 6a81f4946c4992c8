-- `salvage::salvaging::enlist` meets its contract: the array that it places is the place's in the list.
use Rattle.octets.specs.Octets.{big_endian}
use Rattle.routes.specs.Salvage.{dropped_octets}
use Rattle.salvage.proofs.salvaging.enlist.Goals as goal

pub returns : goal.returns
unfolding big_endian dropped_octets
returns c = rw (← c.from.ensures) c.place.ensures.1
