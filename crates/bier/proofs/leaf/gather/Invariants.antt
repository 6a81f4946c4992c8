-- `bier::leaf::gather` meets its contract.
use Rattle.std.proofs.Common.{◌≡◌}
use Rattle.octets.specs.Order.{zeros}
use Rattle.bier.specs.Inner.{gathered_from}
use Rattle.bier.proofs.leaf.gather.Given as goal

abbrev pub invariant-loop-leaf : goal.invariant-loop-leaf
invariant-loop-leaf l = gathered_from l.afi l.nlri l.sub_domain l.set (zeros 32) l.fn.leaves ≡ gathered_from l.afi l.nlri l.sub_domain l.set l.string l.leaf-iterator
