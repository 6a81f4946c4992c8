-- `pieces::state::Pieces::start` meets its contract.
use mathlib.Core.Path.{sym, ◌∙◌, ap}
use Rattle.octets.proofs.Outcome.{on-given, on-refused}
use Rattle.pieces.specs.Feeding.{start_of, started_as, FINISHED}
use Rattle.pieces.proofs.state.Pieces.start.Goals as goal

pub returns-in-Ok : goal.returns-in-Ok
unfolding start_of
returns-in-Ok c = on-given _ _ _ _ _ (sym c.in-Ok.ensures) c.started.ensures

pub returns-in-Err : goal.returns-in-Err
unfolding start_of
returns-in-Err c = on-refused _ _ _ _ _ (sym c.in-Err.ensures) (c.started-in-Err.ensures ∙ ap (started_as c.args.afi c.args.mode FINISHED) c.number.ensures)
