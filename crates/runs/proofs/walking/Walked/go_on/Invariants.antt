-- `runs::walking::Walked::go_on` meets its contract.
use Prim.Native.Nat.{◌-◌}
use mathlib.Core.Path.{◌≡◌}
use lib.ListN.{length}
use Rattle.runs.specs.Modes.{mode_number}
use Rattle.runs.proofs.Going.{Going}
use Rattle.runs.proofs.walking.Walked.go_on.Given as goal

abbrev pub invariant-loop-at : goal.invariant-loop-at
invariant-loop-at l = record {
  going : Going l.afi (mode_number l.mode) l.kind.bits l.run l.at l.self.count l.self.skipped;
  offset : l.self.offset ≡ l.at;
}

abbrev pub decreases-loop-at : goal.decreases-loop-at
decreases-loop-at l = length l.run - l.at
