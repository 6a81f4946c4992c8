-- `shared_trees::eligible::has_state` meets its contract.
use mathlib.Core.Path.{refl}
use Prim.Native.Nat.{◌<◌}
use native.Mathlib.Omega.{arith}
use Rattle.octets.proofs.Choice.{flag_true, flag-false}
use Rattle.lists.specs.LentLists.{some_item}
use Rattle.lists.proofs.Going.{going, going_next, going-stop, going-last}
use Rattle.shared_trees.proofs.Endings.{all_left, all-going, left_here, next_start, left-next, passed-going}
use Rattle.shared_trees.proofs.eligible.has_state.Goals as goal

pub loop-left-init : goal.loop-left-init
loop-left-init c = let sized = c.requires.0 in (all-going _ _ sized c.count_of-count.ensures.value, all_left _ sized c.count_of-count.ensures.value)

pub returns-then-left-eq0 : goal.returns-then-left-eq0
unfolding some_item
returns-then-left-eq0 c = going-last _ _ _ (passed-going _ c.requires.1 c.left_from_ending-left.ensures c.loop-left.invariant.0) (omega (arith, c.if-left-eq0.true))

pub start_of_last-at-requires : goal.start_of_last-at-requires
unfolding some_item
start_of_last-at-requires c = (c.left_from_ending-left.ensures.stand, omega (arith, c.if-left-eq0.false))

pub is_state-requires : goal.is_state-requires
is_state-requires c = rw c.start_of_last-at.ensures (left_here c.left_from_ending-left.ensures.stand (omega (arith, c.if-left-eq0.false))).whole

pub returns-then-is_state : goal.returns-then-is_state
unfolding some_item
returns-then-is_state c =
    going-stop _ _ _ (passed-going _ c.requires.1 c.left_from_ending-left.ensures c.loop-left.invariant.0) _ (omega (arith, c.if-left-eq0.false)) (flag_true _ _ (rw c.start_of_last-at.ensures at c.is_state.ensures) c.if-is_state.true) refl

pub loop-left-preserved : goal.loop-left-preserved
loop-left-preserved c =
    let stand = c.left_from_ending-left.ensures.stand in
    let more : 0 < c.left_from_ending-left.result = omega (arith, c.if-left-eq0.false) in
    (going_next _ _ _ (passed-going _ c.requires.1 c.left_from_ending-left.ensures c.loop-left.invariant.0) more (flag-false _ _ (rw c.start_of_last-at.ensures at c.is_state.ensures) c.if-is_state.false) _ (next_start stand more), left-next stand more)

pub returns : goal.returns
unfolding some_item
returns c = search going
