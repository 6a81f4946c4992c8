-- `changes::change::close_gap` meets its contract.
use mathlib.Core.Path.{◌∙◌}
use Rattle.octets.specs.Order.{zeros}
use Rattle.changes.proofs.Moves.{down_by_copy, gap-closed}
use Rattle.changes.proofs.change.close_gap.Goals as goal

pub returns : goal.returns
unfolding zeros
returns c =
    let d = c.args.tail.now in
    let m = c.copy_within in
    gap-closed 128 d m.new.self c.fill.new.self c.requires m.ensures.len (m.ensures.after ∙ down_by_copy 128 d) (c.fill.ensures.after (λ y e. e))
