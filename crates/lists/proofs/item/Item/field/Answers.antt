-- `lists::item::Item::field` meets its contract.
use Prim.Native.Nat.{◌+◌}
use native.Mathlib.Omega.{arith}
use Rattle.lists.proofs.Fields.{item-field-at, item-field-of, whole-item-less, whole-item-last}
use Rattle.lists.proofs.item.Item.field.Goals as goal

pub skip-requires : goal.skip-requires
skip-requires g c = whole-item-less c.args.i _ _ c.self.invariant (omega arith)

pub front-requires : goal.front-requires
front-requires g c = whole-item-last c.args.i _ _ (whole-item-less (c.args.i + 1) _ _ c.self.invariant (omega arith)) c.skip.ensures

pub returns : goal.returns
returns g c = rw (← c.self.view_is) (item-field-of c.args.i _ _ _ (item-field-at c.args.i _ _ _ c.front.ensures c.skip.ensures) c.requires)
