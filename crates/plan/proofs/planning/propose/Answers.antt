-- `plan::planning::propose` meets its contract.
use mathlib.Core.Path.{refl}
use native.Mathlib.Omega.{arith}
use Rattle.octets.proofs.Refusals.{refusal_number-not_done}
use Rattle.plan.proofs.Called.{read-told, read-are}
use Rattle.plan.proofs.PlanCalls.{passed_on-plan, refusal-told, plan-refused, plan-space, plan-none, plan-few, plan-sizes, plan-room, plan-small, plan-done}
use Rattle.plan.proofs.planning.propose.Goals as goal

pub returns-in_err-flows : goal.returns-in_err-flows
returns-in_err-flows c = plan-refused _ _ _ _ _ (refusal-told _ _ c.in_err-flows.ensures) (refusal_number-not_done _) _ (passed_on-plan _ _ c.from_residual.ensures.1)

pub returns-then-output-count : goal.returns-then-output-count
returns-then-output-count c = plan-space _ _ _ _ _ (read-told _ _ _ _ _ c.in_ok-flows.ensures) refl _ c.count_of-count.ensures.value c.if-output-count.true _ refl

pub returns-then-count-eq0 : goal.returns-then-count-eq0
returns-then-count-eq0 c = plan-none _ _ _ _ _ (read-told _ _ _ _ _ c.in_ok-flows.ensures) refl _ c.count_of-count.ensures.value c.if-output-count.false c.if-count-eq0.true

pub put_all-end-requires-clause-few : goal.put_all-end-requires-clause-few
put_all-end-requires-clause-few c =
    plan-few _ _ _ _ _ (read-told _ _ _ _ _ c.in_ok-flows.ensures) refl _ c.count_of-count.ensures.value c.if-output-count.false c.if-count-eq0.false _ (read-are _ _ _ _ _ c.in_ok-flows.ensures)

pub put_all-end-requires-clause-sized : goal.put_all-end-requires-clause-sized
put_all-end-requires-clause-sized c =
    plan-sizes _ _ _ _ _ (read-told _ _ _ _ _ c.in_ok-flows.ensures) refl _ c.count_of-count.ensures.value c.if-output-count.false c.if-count-eq0.false _ (read-are _ _ _ _ _ c.in_ok-flows.ensures)

pub put_all-end-requires-clause-room : goal.put_all-end-requires-clause-room
put_all-end-requires-clause-room c =
    plan-room _ _ _ _ _ (read-told _ _ _ _ _ c.in_ok-flows.ensures) refl _ c.count_of-count.ensures.value c.if-output-count.false c.if-count-eq0.false _ (read-are _ _ _ _ _ c.in_ok-flows.ensures)

pub overflow_cast-result : goal.overflow_cast-result
overflow_cast-result c =
    let small = plan-small _ _ _ _ _ (read-told _ _ _ _ _ c.in_ok-flows.ensures) refl _ c.count_of-count.ensures.value c.if-output-count.false c.if-count-eq0.false _ (read-are _ _ _ _ _ c.in_ok-flows.ensures) _ _ c.put_all-end.ensures in
    omega (arith, small)

pub returns : goal.returns
returns c =
    plan-done _ _ _ _ _ (read-told _ _ _ _ _ c.in_ok-flows.ensures) refl _ c.count_of-count.ensures.value c.if-output-count.false c.if-count-eq0.false _ (read-are _ _ _ _ _ c.in_ok-flows.ensures) _ _ c.put_all-end.ensures
