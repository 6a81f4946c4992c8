-- `shared_trees::judge::check_source_actives` meets its contract.
use Rattle.octets.specs.Outcome.{number_of}
use Rattle.lists.proofs.Along.{fault-passed}
use Rattle.routes.specs.SharedTree.{read_source_active, source_active_fault}
use Rattle.shared_trees.proofs.judge.check_source_actives.Goals as goal

pub returns-in_err-check_source_active : goal.returns-in_err-check_source_active
unfolding source_active_fault
returns-in_err-check_source_active c =
    fault-passed (λ x. number_of (read_source_active c.args.afi x)) _ _ c.from_residual.ensures.1 c.loop-item.invariant c.in-Some.ensures.steps c.in_err-check_source_active.ensures
