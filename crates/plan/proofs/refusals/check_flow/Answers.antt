-- `plan::refusals::check_flow` meets its contract.
use mathlib.Core.Path.{◌∙◌}
use Rattle.octets.proofs.Refusals.{passed_on}
use Rattle.plan.proofs.Checks.{flow-unclassed-is, flow-sized-is}
use Rattle.plan.proofs.refusals.check_flow.Goals as goal

pub returns-in_err-group_class : goal.returns-in_err-group_class
returns-in_err-group_class c =
    passed_on _ _ c.from_residual.ensures.1 ∙ flow-unclassed-is _ _ _ _ c.group-group.ensures _ c.in_err-group_class.ensures

pub returns : goal.returns
returns c =
    flow-sized-is _ _ _ _ c.group-group.ensures _ c.in_ok-group_class.ensures _ c.source.ensures _ c.check_sizes.ensures
