-- `plan::refusals::check_each` meets its contract.
use mathlib.Core.Path.{◌∙◌, refl}
use Rattle.std.proofs.lemmas.Fn.{says_at}
use Rattle.octets.proofs.Refusals.{passed_on, refusal_number-not_done}
use Rattle.plan.proofs.Checks.{each-stops, each-next, each-ends}
use Rattle.plan.proofs.refusals.check_each.Goals as goal

pub loop-flow-preserved : goal.loop-flow-preserved
loop-flow-preserved g c = λ fault judges.
    each-next fault (c.loop-flow.invariant fault judges) c.in-Some.ensures.steps _ (judges _ _ (says_at _ c.in_ok-test.ensures refl)) refl

pub returns-in_err-test : goal.returns-in_err-test
returns-in_err-test g c = λ fault judges.
    passed_on _ _ c.from_residual.ensures.1
    ∙ each-stops fault (c.loop-flow.invariant fault judges) c.in-Some.ensures.steps _ (judges _ _ (says_at _ c.in_err-test.ensures refl)) (refusal_number-not_done _)

pub returns : goal.returns
returns g c = λ fault judges. each-ends fault (c.loop-flow.invariant fault judges) c.in-None.ensures.steps.0
