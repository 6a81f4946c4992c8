-- The octets read so far stand at the front of the run, and each turn leaves fewer to be read.
use Rattle.std.proofs.Common.{length, ◌-◌, ◌≤◌, take}
use Rattle.std.specs.Io.KnownBytes.{Consumes}
use Rattle.mvpn_list.proofs.input.read.Given as goal

abbrev pub invariant-loop-size : goal.invariant-loop-size
invariant-loop-size g l = record {
  within : l.size ≤ length l.run;
  came : Consumes (g.R.Read.remaining l.fn.from) (g.R.Read.remaining l.from) (take l.size l.run);
}

abbrev pub decreases-loop-size : goal.decreases-loop-size
decreases-loop-size g l = length l.run - l.size
