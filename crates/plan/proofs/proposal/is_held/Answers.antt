-- `plan::proposal::is_held` meets its contract.
use mathlib.Core.Path.{◌∙◌}
use Rattle.plan.proofs.PlaceLoops.{place-ends, ends-next, held-found, held-next, held-end, below}
use Rattle.plan.proofs.proposal.is_held.Goals as goal

pub nlri_in-requires : goal.nlri_in-requires
nlri_in-requires c =
    let step = c.in-Some.ensures.steps.1 in
    place-ends _ _ _ step.0 (step.1 ∙ c.loop-place.invariant.0) c.loop-place.invariant.2

pub returns-then-is_same : goal.returns-then-is_same
returns-then-is_same c =
    let step = c.in-Some.ensures.steps.1 in
    held-found _ _ _ step.0 (step.1 ∙ c.loop-place.invariant.0) _ c.loop-place.invariant.1 _ _ c.is_same.ensures c.nlri_in.ensures c.if-is_same.true

pub loop-place-preserved : goal.loop-place-preserved
loop-place-preserved c =
    let step = c.in-Some.ensures.steps.1 in
    let sized = step.1 ∙ c.loop-place.invariant.0 in (
      c.in-Some.ensures.steps.0 ∙ c.loop-place.invariant.0,
      held-next _ _ _ step.0 sized _ c.loop-place.invariant.1 _ _ c.is_same.ensures c.nlri_in.ensures c.if-is_same.false,
      ends-next _ _ _ step.0 sized c.loop-place.invariant.2,
    )

pub returns : goal.returns
returns c = held-end _ (below c.loop-place.invariant.0 c.in-None.ensures.steps.1.0) _ c.loop-place.invariant.1
