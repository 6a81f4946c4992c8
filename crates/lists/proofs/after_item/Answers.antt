-- `lists::after_item` meets its contract: what follows the item follows the fields that are left.
use native.Mathlib.Omega.{arith}
use Rattle.lists.proofs.Fields.{whole-field-inside, after-field-at}
use Rattle.lists.proofs.Walks.{passing-here, passing-next}
use Rattle.lists.proofs.after_item.Goals as goal

pub two-requires : goal.two-requires
two-requires c = omega (arith, whole-field-inside c.args.list.now c.loop.next (passing-here c.loop.invariant (omega arith)))

pub overflow_add-next-in-loop : goal.overflow_add-next-in-loop
overflow_add-next-in-loop c = omega (arith, whole-field-inside c.args.list.now c.loop.next (passing-here c.loop.invariant (omega arith)))

pub loop-preserved : goal.loop-preserved
loop-preserved c = passing-next c.loop.invariant _ _ (omega arith) (after-field-at _ _ _ c.two.ensures.value)
