-- `changes::find::stands_at` meets its contract.
use mathlib.Core.Path.{sym, ap, ◌∙◌}
use native.Mathlib.Omega.{arith}
use borrow.Author.Tests.{le-ltb}
use Rattle.octets.specs.Order.{same}
use Rattle.changes.proofs.Finds.{first-at, first_past}
use Rattle.changes.proofs.find.stands_at.Goals as goal

pub returns-then-index-count : goal.returns-then-index-count
returns-then-index-count c =
    let a = c.args in
    c.is_same.ensures ∙ ap (same a.nlri.now) c.nlri_at.ensures ∙ sym (first-at a.table.now a.nlri.now a.index (omega arith))

pub returns-else-index-count : goal.returns-else-index-count
returns-else-index-count c =
    let a = c.args in
    le-ltb _ _ (omega arith) ∙ sym (first_past a.table.now a.nlri.now a.index (omega arith))
