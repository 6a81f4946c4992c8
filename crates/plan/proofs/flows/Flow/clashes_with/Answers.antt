-- `plan::flows::Flow::clashes_with` meets its contract.
use Rattle.plan.proofs.Compared.{compared}
use Rattle.plan.proofs.flows.Flow.clashes_with.Goals as goal

pub returns-then-is_same : goal.returns-then-is_same
returns-then-is_same c = search compared

pub returns-else-is_same : goal.returns-else-is_same
returns-else-is_same c = search compared
