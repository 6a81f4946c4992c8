-- `runs::mode::Mode::from` meets its contract.
use mathlib.Core.Path.{sym}
use borrow.Author.Tests.{eq-eqb, ne_eqb}
use Rattle.octets.proofs.Choice.{pick_true, pick-false}
use Rattle.runs.proofs.mode.ModeFromU32.from.Goals as goal

pub returns-then-number-eq0 : goal.returns-then-number-eq0
returns-then-number-eq0 c = sym (pick_true _ _ _ (eq-eqb _ _ c.if-number-eq0.true))

pub returns : goal.returns
returns c = sym (pick-false _ _ _ (ne_eqb _ _ c.if-number-eq0.false))
