-- `octets::order::comes_before_by_words` meets its contract: as far as the loop has come, both begin alike.
use Prim.Native.Nat.{◌*◌}
use mathlib.Core.Path.{◌≡◌}
use lib.ListN.{take}
use Rattle.octets.proofs.order.comes_before_by_words.Given as goal

abbrev pub invariant-loop-i : goal.invariant-loop-i
invariant-loop-i l = take (l.i * 8) l.a ≡ take (l.i * 8) l.b
