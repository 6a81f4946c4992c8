-- `groups::lent::class_along` meets its contract.
use Rattle.std.proofs.Common.{◌≡◌}
use Rattle.nlri.specs.Groups.{ASM, class_number}
use Rattle.groups.specs.Inner.{class_along}
use Rattle.groups.proofs.lent.class_along.Given as goal

abbrev pub invariant-loop-item : goal.invariant-loop-item
invariant-loop-item l = class_along l.size l.group ASM l.fn.prefixes ≡ class_along l.size l.group (class_number l.class) l.item-iterator
