-- `table::restarting::settle` meets its contract.
use Rattle.changes.specs.Changing.{mark_number}
use Rattle.table.proofs.RenewCalls.{settled-other, settled-gone, settled-marked}
use Rattle.table.proofs.restarting.settle.Goals as goal

pub returns-then-not-is_of : goal.returns-then-not-is_of
returns-then-not-is_of c =
    let a = c.args in
    let both = settled-other (mark_number a.mark) a.router.now a.table.now _ a.at a.to _ c.nlri_from.ensures
    c.is_of.ensures c.if-not-is_of.true _ c.keep.ensures in
    record { value = both.0; table_after = both.1 }

pub returns-then-table-at : goal.returns-then-table-at
returns-then-table-at c =
    let a = c.args in
    let both = settled-gone (mark_number a.mark) a.router.now a.table.now _ a.at a.to _ c.nlri_from.ensures
    c.is_of.ensures c.if-not-is_of.false c.if-table-at.true in
    record { value = both.0; table_after = both.1 }

pub returns : goal.returns
returns c =
    let a = c.args in
    let both = settled-marked (mark_number a.mark) a.router.now a.table.now _ a.at a.to _
    c.nlri_from.ensures c.is_of.ensures
    c.if-not-is_of.false c.if-table-at.false _
    (rw c.octet.ensures at c.keep_marked.ensures) in
    record { value = both.0; table_after = both.1 }
