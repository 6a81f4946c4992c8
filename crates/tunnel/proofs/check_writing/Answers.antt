-- `tunnel::check_writing` meets its contract: its tests are document 01's, in the same order.
use mathlib.Core.Path.{refl, ◌∙◌}
use Rattle.octets.specs.Outcome.{number_of}
use Rattle.octets.proofs.Outcome.{number-picks, number-skips, number-refuses}
use Rattle.octets.proofs.Refusals.{refusal_number-not_done, passed_on}
use Rattle.octets.proofs.Tests.{tests}
use Rattle.tunnel.specs.Attribute.{write_attribute}
use Rattle.tunnel.proofs.Functions.Writes.{number-written}
use Rattle.tunnel.proofs.check_writing.Goals as goal

pub returns-then-identifier-gt-MOST_IDENTIFIER : goal.returns-then-identifier-gt-MOST_IDENTIFIER
unfolding write_attribute number_of
returns-then-identifier-gt-MOST_IDENTIFIER c flags = search (tests, number-picks, number-skips)

pub returns-in_err-check : goal.returns-in_err-check
unfolding write_attribute
returns-in_err-check c flags = passed_on _ _ c.from_residual.ensures.1 ∙ number-skips _ _ _ _ (search tests) (number-refuses _ _ _ c.in_err-check.ensures (refusal_number-not_done _))

pub returns-then-label_field-gt-MOST_LABEL_FIELD : goal.returns-then-label_field-gt-MOST_LABEL_FIELD
returns-then-label_field-gt-MOST_LABEL_FIELD c flags = number-written _ _ _ _ (search tests) c.in_ok-check.ensures refl (search tests)

pub returns-then-space-identifier : goal.returns-then-space-identifier
returns-then-space-identifier c flags = number-written _ _ _ _ (search tests) c.in_ok-check.ensures refl (search tests)

pub returns : goal.returns
returns c flags = number-written _ _ _ _ (search tests) c.in_ok-check.ensures refl (search tests)
