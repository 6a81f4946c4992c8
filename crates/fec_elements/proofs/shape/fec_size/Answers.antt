-- `fec_elements::shape::fec_size` meets its contract.
use Rattle.fec_elements.specs.Reading.{fec_size}
use Rattle.fec_elements.proofs.Fecs.{size-before}
use Rattle.fec_elements.proofs.shape.fec_size.Goals as goal

pub returns : goal.returns
unfolding fec_size
returns c = rw (← size-before) (rw (← c.opaque_start-start.ensures, ← c.two.ensures.value))
