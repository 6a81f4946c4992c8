-- `plan::proposal::are_good` meets its contract.
use mathlib.Core.Path.{◌∙◌}
use Rattle.plan.proofs.PlaceLoops.{good-stop, good-next, good-end, below}
use Rattle.plan.proofs.proposal.are_good.Goals as goal

pub returns-then-not-is_good : goal.returns-then-not-is_good
returns-then-not-is_good c =
    let step = c.in-Some.ensures.steps.1 in
    good-stop _ _ _ step.0 (step.1 ∙ c.loop-place.invariant.0) _ _ _ c.loop-place.invariant.1 _ c.is_good.ensures c.if-not-is_good.true

pub loop-place-preserved : goal.loop-place-preserved
loop-place-preserved c =
    let step = c.in-Some.ensures.steps.1 in
    (c.in-Some.ensures.steps.0 ∙ c.loop-place.invariant.0, good-next _ _ _ step.0 (step.1 ∙ c.loop-place.invariant.0) _ _ _ c.loop-place.invariant.1 _ c.is_good.ensures c.if-not-is_good.false)

pub returns : goal.returns
returns c = good-end _ (below c.loop-place.invariant.0 c.in-None.ensures.steps.1.0) _ _ _ c.loop-place.invariant.1
