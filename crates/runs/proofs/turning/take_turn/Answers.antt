-- `runs::turning::take_turn` meets its contract: the mode of a number turns as the number does.
use mathlib.Core.Path.{◌∙◌, ap}
use Rattle.runs.specs.Modes.{mode_number, turn_from}
use Rattle.runs.proofs.Turns.{turns-by}
use Rattle.runs.proofs.turning.take_turn.Goals as goal

pub returns : goal.returns
returns c =
    let a = c.args in
    c.turn.ensures ∙ ap (λ m. turn_from a.afi (mode_number m) a.run.now a.cursor.at) c.from.ensures ∙ turns-by a.afi a.run.now a.cursor.at a.mode
