-- `lists::items_of` meets its contract.
use mathlib.Core.Path.{refl}
use native.Mathlib.Omega.{arith}
use Rattle.lists.proofs.Walks.{items-count, whole-list-count, whole-list-items}
use Rattle.lists.specs.LentLists.{list_items}
use Rattle.lists.proofs.items_of.Goals as goal

pub after-requires : goal.after-requires
after-requires g c = omega (arith, whole-list-count _ _ c.requires)

pub invariant_of-result : goal.invariant_of-result
invariant_of-result g c = rw (c.count_of.ensures.value, c.after.ensures) (whole-list-items _ _ c.requires)

pub returns-clause-value : goal.returns-clause-value
unfolding list_items
returns-clause-value g c = rw (c.count_of.ensures.value, c.after.ensures) refl

pub returns-clause-upper_bound : goal.returns-clause-upper_bound
returns-clause-upper_bound g c = rw items-count c.count_of.ensures.upper_bound
