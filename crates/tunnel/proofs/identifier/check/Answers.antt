-- `tunnel::identifier::check` meets its contract: TUNNEL where the table has no row, and else what its row's form says.
use Rattle.std.proofs.Common.{◌∙◌}
use Rattle.octets.proofs.Refusals.{passed_on}
use Rattle.tunnel.proofs.Functions.Rows.{no-row, fits-row, fails-row}
use Rattle.tunnel.proofs.identifier.check.Goals as goal

pub returns-in_err-try_from : goal.returns-in_err-try_from
returns-in_err-try_from c = passed_on _ _ c.from_residual.ensures.1 ∙ no-row _ _ _ c.in_err-try_from.ensures.0 c.in_err-try_from.ensures.1

pub returns-then-is_of_form : goal.returns-then-is_of_form
returns-then-is_of_form c = fits-row _ _ _ _ (rw c.in_ok-try_from.ensures at c.form_of-form.ensures) c.is_of_form.ensures c.if-is_of_form.true

pub returns : goal.returns
returns c = fails-row _ _ _ _ (rw c.in_ok-try_from.ensures at c.form_of-form.ensures) c.is_of_form.ensures c.if-is_of_form.false
