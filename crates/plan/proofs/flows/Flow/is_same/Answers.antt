-- `plan::flows::Flow::is_same` meets its contract.
use Rattle.plan.specs.Flows.{same_flow}
use Rattle.plan.proofs.Compared.{compared}
use Rattle.plan.proofs.flows.Flow.is_same.Goals as goal

pub returns-then-is_same : goal.returns-then-is_same
unfolding same_flow
returns-then-is_same c = search compared

pub returns-else-is_same : goal.returns-else-is_same
unfolding same_flow
returns-else-is_same c = search compared
