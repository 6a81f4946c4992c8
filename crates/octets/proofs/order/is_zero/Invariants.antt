-- `octets::order::is_zero` meets its contract: as far as the loop has come, all is zeros, and the last block leaves nothing out.
use Prim.Native.Nat.{◌*◌}
use mathlib.Core.Path.{◌≡◌}
use mathlib.Core.Bool.{true}
use lib.ListN.{take}
use Rattle.octets.specs.Order.{all_zero}
use Rattle.octets.proofs.order.is_zero.Given as goal

abbrev pub invariant-loop-i : goal.invariant-loop-i
invariant-loop-i l = all_zero (take (l.i * 64) l.s) ≡ true
