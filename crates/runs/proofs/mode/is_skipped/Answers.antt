-- `runs::mode::is_skipped` meets its contract.
use mathlib.Core.Path.{refl}
use borrow.Author.Tests.{eq-eqb, ne_eqb}
use Rattle.octets.proofs.Choice.{both-last, either-last}
use Rattle.octets.proofs.Tests.{flags}
use Rattle.runs.specs.Modes.{is_skipped}
use Rattle.runs.proofs.mode.is_skipped.Goals as goal

pub returns-else-mode : goal.returns-else-mode
unfolding is_skipped
returns-else-mode c = search flags

pub returns-then-number-eq-TYPE : goal.returns-then-number-eq-TYPE
unfolding is_skipped
returns-then-number-eq-TYPE c = search flags

pub returns-else-number-eq-TYPE : goal.returns-else-number-eq-TYPE
unfolding is_skipped
returns-else-number-eq-TYPE c = both-last _ _ _ (eq-eqb _ _ c.if-mode.true) (either-last _ _ _ (ne_eqb _ _ c.if-number-eq-TYPE.false) refl)
