-- `fec_elements::check` meets its contract.
use mathlib.Core.Path.{◌∙◌}
use Rattle.fec_elements.proofs.Nesting.{number_read}
use Rattle.fec_elements.proofs.check.Goals as goal

pub returns : goal.returns
returns c = c.check_fec.ensures ∙ number_read _ _
