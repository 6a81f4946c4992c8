-- `lists::item_field` meets its contract.
use native.Mathlib.Omega.{arith}
use Rattle.lists.proofs.Fields.{item-field-at, whole-item-less, whole-item-last, whole-item-within}
use Rattle.lists.proofs.item_field.Goals as goal

pub after-requires : goal.after-requires
after-requires c = whole-item-within c.args.list.now c.args.at c.args.i c.requires

pub skip-requires : goal.skip-requires
skip-requires c = rw c.after.ensures (whole-item-less c.args.i _ _ c.requires (omega arith))

pub front-requires : goal.front-requires
front-requires c = whole-item-last c.args.i _ _ c.requires (rw c.after.ensures at c.skip.ensures)

pub returns : goal.returns
returns c = item-field-at c.args.i _ _ _ c.front.ensures (rw c.after.ensures at c.skip.ensures)
