-- `table::following::try_next` meets its contract.
use mathlib.Core.Path.{sym, ◌∙◌}
use Rattle.table.proofs.Followings.{next-unsound, next-space, next-told}
use Rattle.table.proofs.following.try_next.Goals as goal

pub returns-then-not-is_sound : goal.returns-then-not-is_sound
returns-then-not-is_sound c = next-unsound _ _ _ (sym c.is_sound.ensures ∙ c.if-not-is_sound.true)

pub returns-then-output-lt-LEAST_OUTPUT : goal.returns-then-output-lt-LEAST_OUTPUT
returns-then-output-lt-LEAST_OUTPUT c = next-space _ _ _ (sym c.is_sound.ensures ∙ c.if-not-is_sound.false) c.if-output-lt-LEAST_OUTPUT.true

pub returns : goal.returns
returns c = next-told _ _ _ (sym c.is_sound.ensures ∙ c.if-not-is_sound.false) c.if-output-lt-LEAST_OUTPUT.false c.index_after.result c.index_after.ensures _ _ c.tell_at.ensures
