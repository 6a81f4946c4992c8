-- `plan::proposal::is_accepted` meets its contract.
use mathlib.Core.Bool.{not}
use mathlib.Core.Path.{ap}
use Rattle.plan.proofs.JudgedPlaces.{judge-cut, judge-bad, judge-twice, judge-served, ends-by, proposed-by}
use Rattle.plan.proofs.proposal.is_accepted.Goals as goal

pub returns-then-places-ne0 : goal.returns-then-places-ne0
returns-then-places-ne0 c = judge-cut _ _ _ _ c.if-places-ne0.true

pub returns-then-not-are_good : goal.returns-then-not-are_good
returns-then-not-are_good c = judge-bad _ _ _ _ c.if-places-ne0.false _ c.are_good.ensures (ap not c.if-not-are_good.true)

pub is_each_once-requires : goal.is_each_once-requires
is_each_once-requires c = ends-by _ _ _ _ _ c.are_good.ensures c.if-places-ne0.false (ap not c.if-not-are_good.false)

pub returns-then-not-is_each_once : goal.returns-then-not-is_each_once
returns-then-not-is_each_once c = judge-twice _ _ _ _ c.if-places-ne0.false _ c.are_good.ensures (ap not c.if-not-are_good.false) _ c.is_each_once.ensures (ap not c.if-not-is_each_once.true)

pub are_served-requires : goal.are_served-requires
are_served-requires c = proposed-by _ _ _ _ _ c.are_good.ensures c.if-places-ne0.false (ap not c.if-not-are_good.false) _ c.is_each_once.ensures (ap not c.if-not-is_each_once.false)

pub returns : goal.returns
returns c = judge-served _ _ _ _ c.if-places-ne0.false _ c.are_good.ensures (ap not c.if-not-are_good.false) _ c.is_each_once.ensures (ap not c.if-not-is_each_once.false) _ c.are_served.ensures
