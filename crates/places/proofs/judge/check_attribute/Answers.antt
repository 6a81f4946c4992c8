-- `places::judge::check_attribute` meets its contract.
use Rattle.std.proofs.Common.{◌∙◌, sym}
use Rattle.octets.proofs.Refusals.{refusal_number-not_done, passed_on}
use Rattle.places.proofs.Sounds.{attribute-refused}
use Rattle.places.proofs.judge.check_attribute.Goals as goal

pub check_label-requires : goal.check_label-requires
check_label-requires c = sym c.in_ok-check.ensures

pub returns-in_err-check : goal.returns-in_err-check
returns-in_err-check c = passed_on _ _ c.from_residual.ensures.1 ∙ attribute-refused _ _ c.in_err-check.ensures (refusal_number-not_done _)
