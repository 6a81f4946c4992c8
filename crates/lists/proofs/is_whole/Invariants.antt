-- `lists::is_whole` meets its contract: the fields that are left decide.
use Prim.Native.Nat.{◌*◌, ◌-◌}
use Rattle.lists.specs.LentLists.{list_count}
use Rattle.lists.proofs.Walks.{Testing}
use Rattle.lists.proofs.is_whole.Given as goal

abbrev pub invariant-loop : goal.invariant-loop
invariant-loop l = Testing l.fields l.list (list_count l.list * l.fields - l.counter) l.rest
