-- `octets::wide::place_three` meets its contract: the array that it places is the number's three octets.
use Rattle.octets.specs.Octets.{big_endian}
use Rattle.octets.proofs.wide.place_three.Goals as goal

pub returns : goal.returns
unfolding big_endian
returns c = c.place.ensures
