-- `tunnel::read` meets its contract: it goes by the number of the first fault.
use Rattle.std.proofs.Common.{refl, ◌∙◌}
use Rattle.octets.proofs.Refusals.{refusal_number-not_done, passed_on-outcome}
use Rattle.tunnel.proofs.Functions.Answers.{answer-refused, answer-given}
use Rattle.tunnel.proofs.Definitions.Attributes.{read-tests}
use Rattle.tunnel.proofs.read.Goals as goal

pub returns-in_err-check : goal.returns-in_err-check
returns-in_err-check c = passed_on-outcome _ _ c.from_residual.ensures.1 ∙ answer-refused _ _ c.in_err-check.ensures (refusal_number-not_done _)

pub fields-requires : goal.fields-requires
fields-requires c =
    let r = read-tests _ _ c.in_ok-check.ensures refl in
    record { in_bounds = r.0; s_value = r.1 }

pub returns : goal.returns
returns c = answer-given _ _ c.in_ok-check.ensures refl _ c.fields.ensures
