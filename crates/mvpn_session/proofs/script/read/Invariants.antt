-- Each turn leaves fewer octets to be read.
use Rattle.std.proofs.Common.{length, ◌-◌, ◌≤◌}
use Rattle.mvpn_session.proofs.script.read.Given as goal

abbrev pub invariant-loop-size : goal.invariant-loop-size
invariant-loop-size g l = l.size ≤ length l.script

abbrev pub decreases-loop-size : goal.decreases-loop-size
decreases-loop-size g l = length l.script - l.size
