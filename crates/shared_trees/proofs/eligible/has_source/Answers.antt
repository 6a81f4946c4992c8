-- `shared_trees::eligible::has_source` meets its contract.
use Rattle.lists.proofs.Along.{along, every-next}
use Rattle.shared_trees.specs.Told.{fields_within}
use Rattle.shared_trees.proofs.SourceActives.{every-first}
use Rattle.shared_trees.proofs.eligible.has_source.Goals as goal

pub lacks_state-requires : goal.lacks_state-requires
lacks_state-requires c = (every-first fields_within c.loop-item.invariant.stand c.in-Some.ensures.steps, c.requires.held)

pub loop-item-preserved : goal.loop-item-preserved
loop-item-preserved c =
    let stands = every-first fields_within c.loop-item.invariant.stand c.in-Some.ensures.steps in
    record { found = search along; stand = every-next fields_within c.loop-item.invariant.stand c.in-Some.ensures.steps stands }
