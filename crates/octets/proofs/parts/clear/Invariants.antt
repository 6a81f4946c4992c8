-- `octets::parts::clear` meets its contract: as far as the loop has come, the octets are zeros.
use Prim.Native.Nat.{◌≤◌}
use mathlib.Core.Path.{◌≡◌}
use mathlib.Core.List.{◌++◌}
use lib.ListN.{length, drop, replicate}
use Rattle.octets.proofs.parts.clear.Given as goal

abbrev pub invariant-loop-octet : goal.invariant-loop-octet
invariant-loop-octet l =
    (l.octet-index ≤ length l.fn.octets) × (length l.octet-items ≡ length l.fn.octets) × (l.octet-items ≡ replicate l.octet-index 0 ++ drop l.octet-index l.fn.octets)
