-- `shared_trees::judge::is_state_sized` meets its contract.
use mathlib.Core.Path.{◌∙◌}
use borrow.Author.Tests.{ne_eqb}
use Rattle.shared_trees.proofs.Sized.{state-other, state-second}
use Rattle.shared_trees.proofs.judge.is_state_sized.Goals as goal

pub returns-then-field-size : goal.returns-then-field-size
returns-then-field-size c = state-second _ _ _ c.field.ensures _ c.if-field-size.true c.field-then-field-size.ensures

pub returns-else-field-size : goal.returns-else-field-size
returns-else-field-size c = ne_eqb _ _ c.if-field-size.false ∙ state-other _ _ _ c.field.ensures c.if-field-size.false
