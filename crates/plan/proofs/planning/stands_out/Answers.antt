-- `plan::planning::stands_out` meets its contract.
use mathlib.Core.Path.{◌∙◌, ap}
use Rattle.plan.specs.Flows.{is_listed}
use Rattle.plan.proofs.OwnPlaces.{out-same, out-listed}
use Rattle.plan.proofs.planning.stands_out.Goals as goal

pub returns-then-not-wants : goal.returns-then-not-wants
returns-then-not-wants c = out-listed _ _ _ _ c.wants.ensures c.if-not-wants.true _ (c.have.ensures ∙ ap (is_listed c.args.flow.now) c.again.ensures)

pub returns-else-not-wants : goal.returns-else-not-wants
returns-else-not-wants c = out-same _ _ _ _ c.wants.ensures c.if-not-wants.false
