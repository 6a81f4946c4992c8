-- `changes::change::clear_places` meets its contract.
use Rattle.octets.specs.Order.{zeros}
use Rattle.changes.proofs.Moves.{rest-cleared}
use Rattle.changes.proofs.change.clear_places.Goals as goal

pub returns : goal.returns
unfolding zeros
returns c =
    rest-cleared 8 c.args.table.now c.fill.new.self c.requires (c.fill.ensures.after (λ y e. e))
