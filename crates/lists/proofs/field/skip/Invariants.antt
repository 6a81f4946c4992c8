-- `lists::field::skip` meets its contract: what follows the item follows the fields that are left.
use Prim.Native.Nat.{◌-◌}
use Rattle.lists.proofs.Walks.{Passing}
use Rattle.lists.proofs.field.skip.Given as goal

abbrev pub invariant-loop : goal.invariant-loop
invariant-loop l = Passing l.fields l.s (l.fields - l.counter) l.rest
