-- `plan::proposal::is_held` meets its contract.
use Rattle.std.proofs.Common.{◌≡◌}
use Rattle.std.specs.Slice.Iter.{chunks_exact_rest, chunks_exact_size}
use Rattle.routes.specs.Route.{holds}
use Rattle.plan.proofs.PlaceLoops.{routes_of, Ends}
use Rattle.plan.proofs.proposal.is_held.Given as goal

abbrev pub invariant-loop-place : goal.invariant-loop-place
invariant-loop-place l =
    (chunks_exact_size l.place-iterator ≡ 128) × (holds l.nlri (routes_of l.places) ≡ holds l.nlri (routes_of (chunks_exact_rest l.place-iterator))) × Ends (chunks_exact_rest l.place-iterator)
