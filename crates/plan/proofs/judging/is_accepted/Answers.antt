-- `plan::judging::is_accepted` meets its contract.
use mathlib.Core.Path.{◌∙◌}
use Rattle.octets.proofs.Refusals.{passed_on-outcome}
use Rattle.plan.proofs.Called.{judge-refused, judge-given}
use Rattle.plan.proofs.judging.is_accepted.Goals as goal

pub returns-in_err-flows : goal.returns-in_err-flows
returns-in_err-flows c = passed_on-outcome _ _ c.from_residual.ensures.1 ∙ judge-refused _ _ _ _ _ c.in_err-flows.ensures

pub returns : goal.returns
returns c = judge-given _ _ _ _ _ c.in_ok-flows.ensures _ c.is_accepted.ensures
