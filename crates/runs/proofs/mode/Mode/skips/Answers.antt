-- `runs::mode::Mode::skips` meets its contract.
use mathlib.Core.Path.{refl, sym}
use Rattle.octets.specs.Choice.{both, either}
use Rattle.octets.specs.declared.refusal.Refusal.TheVariants.{«Type», Group}
use Rattle.runs.specs.Modes.{is_skipped}
use Rattle.runs.proofs.Refusals.{refusal-same}
use Rattle.runs.proofs.Turns.{never-skipped}
use Rattle.runs.proofs.mode.Mode.skips.Goals as goal

pub returns-in-Type : goal.returns-in-Type
unfolding is_skipped both either
returns-in-Type c = rw (c.in-Skip.is, c.in-Type.is) refl

pub returns-in-Group : goal.returns-in-Group
unfolding is_skipped both either
returns-in-Group c = rw (c.in-Skip.is, c.in-Group.is) refl

pub returns-in_default : goal.returns-in_default
returns-in_default c = sym (never-skipped _ _ (λ e. c.in_default.not-Type (refusal-same _ «Type» e)) (λ e. c.in_default.not-Group (refusal-same _ Group e)))

pub returns-in-Old : goal.returns-in-Old
unfolding is_skipped both
returns-in-Old c = rw c.in-Old.is refl
