-- `changes::change::close_from` meets its contract.
use Prim.Native.Nat.{◌+◌, ◌*◌}
use Rattle.octets.specs.Order.{zeros}
use Rattle.changes.proofs.Moves.{part-cleared}
use Rattle.changes.proofs.change.close_from.Goals as goal

pub returns-clause-table_after : goal.returns-clause-table_after
unfolding zeros
returns-clause-table_after c =
    let a = c.args in
    let p = c.requires in
    rw (c.write_header.ensures, part-cleared a.to (8 + 128 * a.count) a.table.now c.fill.new.self p.2 p.3 (c.fill.ensures.after (λ y e. e)))
