-- `plan::proposal::is_each_once` meets its contract.
use Rattle.std.proofs.Common.{◌≡◌, length}
use Rattle.plan.specs.Judging.{no_repeat}
use Rattle.plan.proofs.PlaceLoops.{routes_of, Ends}
use Rattle.plan.proofs.proposal.is_each_once.Given as goal

abbrev pub invariant-loop-place : goal.invariant-loop-place
invariant-loop-place l = (no_repeat (routes_of l.places) ≡ no_repeat (routes_of l.rest)) × Ends l.rest

abbrev pub decreases-loop-place : goal.decreases-loop-place
decreases-loop-place l = length l.rest
