-- `changes::change::keep` meets its contract.
use mathlib.Core.Path.{sym, ◌∙◌}
use Rattle.octets.proofs.Lists.{placed-part}
use Rattle.changes.proofs.Keeps.{kept_at}
use Rattle.changes.proofs.change.keep.Goals as goal

pub returns-then-to-at : goal.returns-then-to-at
returns-then-to-at c = let a = c.args in rw c.if-to-at.true (sym (placed-part a.at 128 a.table.now c.requires.1))

pub returns : goal.returns
returns c = c.copy_within.ensures.after ∙ kept_at c.args.at c.args.to c.args.table.now c.requires.1
