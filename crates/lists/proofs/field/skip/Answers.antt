-- `lists::field::skip` meets its contract: what follows the item follows the fields that are left.
use native.Mathlib.Omega.{arith}
use Rattle.lists.proofs.Walks.{passing-next}
use Rattle.lists.proofs.field.skip.Goals as goal

pub loop-preserved : goal.loop-preserved
loop-preserved c = passing-next c.loop.invariant _ _ (omega arith) c.after-rest.ensures
