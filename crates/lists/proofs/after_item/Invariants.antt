-- `lists::after_item` meets its contract: what follows the item follows the fields that are left.
use Prim.Native.Nat.{◌-◌}
use lib.ListN.{drop}
use Rattle.lists.proofs.Walks.{Passing}
use Rattle.lists.proofs.after_item.Given as goal

abbrev pub invariant-loop : goal.invariant-loop
invariant-loop l = Passing l.fields (drop l.at l.list) (l.fields - l.counter) (drop l.next l.list)
