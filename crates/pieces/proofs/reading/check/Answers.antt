-- `pieces::reading::check` meets its contract.
use mathlib.Core.Path.{sym, ◌∙◌}
use Rattle.octets.proofs.Outcome.{number-goes, number-stops}
use Rattle.octets.proofs.Refusals.{passed_on}
use Rattle.pieces.specs.Feeding.{number_under}
use Rattle.pieces.proofs.reading.check.Goals as goal

pub returns-in_err-kind : goal.returns-in_err-kind
unfolding number_under
returns-in_err-kind c = passed_on _ _ c.from_residual.ensures.1 ∙ number-stops _ _ _ (sym c.in_err-kind.ensures)

pub returns : goal.returns
unfolding number_under
returns c = number-goes _ _ _ _ (sym c.in_ok-kind.ensures) c.check_front.ensures
