-- `changes::find::position` meets its contract.
use Prim.Native.Nat.{◌-◌}
use Rattle.changes.proofs.Finds.{Bracketed}
use Rattle.changes.proofs.find.position.Given as goal

abbrev pub invariant-loop-low : goal.invariant-loop-low
invariant-loop-low l = Bracketed l.table l.nlri l.low l.high

abbrev pub decreases-loop-low : goal.decreases-loop-low
decreases-loop-low l = l.high - l.low
