-- `plan::proposal::are_good` meets its contract.
use Rattle.std.proofs.Common.{◌≡◌, ◌/◌, length}
use Rattle.std.specs.Slice.Iter.{chunks_exact_rest, chunks_exact_size}
use Rattle.plan.specs.Inner.{good_places}
use Rattle.plan.proofs.proposal.are_good.Given as goal

abbrev pub invariant-loop-place : goal.invariant-loop-place
invariant-loop-place l =
    (chunks_exact_size l.place-iterator ≡ 128)
    × (good_places l.vrf.afi l.vrf.originator.now l.vrf.distinguisher.now (length l.places / 128) l.places
    ≡ good_places l.vrf.afi l.vrf.originator.now l.vrf.distinguisher.now (length (chunks_exact_rest l.place-iterator) / 128) (chunks_exact_rest l.place-iterator))
