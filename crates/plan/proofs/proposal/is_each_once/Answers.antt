-- `plan::proposal::is_each_once` meets its contract.
use Rattle.plan.proofs.PlaceLoops.{split-is, place-ends, ends-next, once-stop, once-next, once-end}
use Rattle.plan.proofs.proposal.is_each_once.Goals as goal

pub nlri_in-requires : goal.nlri_in-requires
nlri_in-requires c =
    let cut = c.in-Some.ensures.cases in
    place-ends _ _ _ (split-is _ _ _ cut.1 cut.2) cut.3 c.loop-place.invariant.1

pub is_held-requires : goal.is_held-requires
is_held-requires c =
    let cut = c.in-Some.ensures.cases in
    ends-next _ _ _ (split-is _ _ _ cut.1 cut.2) cut.3 c.loop-place.invariant.1

pub returns-then-is_held : goal.returns-then-is_held
returns-then-is_held c =
    let cut = c.in-Some.ensures.cases in
    once-stop _ _ _ (split-is _ _ _ cut.1 cut.2) cut.3 c.loop-place.invariant.0 _ _ c.is_held.ensures c.nlri_in.ensures c.if-is_held.true

pub loop-place-preserved : goal.loop-place-preserved
loop-place-preserved c =
    let cut = c.in-Some.ensures.cases in (
      once-next _ _ _ (split-is _ _ _ cut.1 cut.2) cut.3 c.loop-place.invariant.0 _ _ c.is_held.ensures c.nlri_in.ensures c.if-is_held.false,
      ends-next _ _ _ (split-is _ _ _ cut.1 cut.2) cut.3 c.loop-place.invariant.1,
    )

pub returns : goal.returns
returns c = once-end _ c.in_default.ensures.cases c.loop-place.invariant.0
