-- `shared_trees::eligible::left_from_ending` meets its contract.
use mathlib.Core.Path.{◌∙◌, ap}
use Prim.Native.Nat.{ℕ, ◌+◌, ◌*◌}
use Rattle.shared_trees.proofs.Endings.{start-next, passed-more}
use Rattle.shared_trees.proofs.eligible.left_from_ending.Goals as goal

pub loop-left-preserved : goal.loop-left-preserved
loop-left-preserved c =
    let inv = c.loop-left.invariant in
    let more = c.loop-left-test.true in
    (ap (λ (n : ℕ). n + (4 + 2 * c.args.size)) inv.0 ∙ start-next _ _ _ more inv.1.stand.among, passed-more _ _ inv.1 more inv.0 c.four_low_first.ensures c.if-four_low_first-ending.false)
