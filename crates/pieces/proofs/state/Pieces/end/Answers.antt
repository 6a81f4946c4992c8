-- `pieces::state::Pieces::end` meets its contract.
use mathlib.Core.Path.{sym, ◌∙◌}
use mathlib.Core.Logic.{⊎_elim}
use borrow.Author.Tests.{ne_eqb}
use native.Mathlib.Omega.{arith}
use Rattle.octets.specs.Choice.{pick}
use Rattle.octets.proofs.Tests.{tests}
use Rattle.octets.proofs.Choice.{pick-false}
use Rattle.pieces.specs.Feeding.{answer_at_end}
use Rattle.pieces.proofs.Feeds.{stage-reading, stage-stopped, stage-finished}
use Rattle.pieces.proofs.state.Pieces.end.Goals as goal

pub returns-then-self-eq0 : goal.returns-then-self-eq0
unfolding answer_at_end pick
returns-then-self-eq0 c = let h = stage-reading c.args.self.stage (sym c.in-Reading.ensures) in search tests

pub returns-else-self-eq0 : goal.returns-else-self-eq0
unfolding answer_at_end pick
returns-else-self-eq0 c = let h = stage-reading c.args.self.stage (sym c.in-Reading.ensures) in search tests

pub returns-in-Stopped : goal.returns-in-Stopped
unfolding answer_at_end
returns-in-Stopped c =
    let n = c.args.self.stage in
    sym (pick-false _ _ _ (ne_eqb n 0
    (λ z. ⊎_elim (λ s. omega (arith, stage-stopped n (sym c.from.ensures ∙ s))) (λ f. omega (arith, stage-finished n (sym c.from.ensures ∙ f))) c.in-Stopped.is)))
