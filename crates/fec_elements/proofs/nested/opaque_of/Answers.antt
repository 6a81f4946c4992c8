-- `fec_elements::nested::opaque_of` meets its contract.
use mathlib.Core.Path.{◌∙◌}
use Rattle.fec_elements.specs.Reading.{fec_in}
use Rattle.fec_elements.proofs.Fecs.{opaque-cut}
use Rattle.fec_elements.proofs.nested.opaque_of.Goals as goal

pub returns : goal.returns
unfolding fec_in
returns c = c.between.ensures ∙ opaque-cut _ _ _ c.opaque_start-start.ensures c.fec_size.ensures
