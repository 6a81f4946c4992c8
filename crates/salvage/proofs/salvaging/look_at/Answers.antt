-- `salvage::salvaging::look_at` meets its contract.
use Rattle.salvage.proofs.Salvages.{good-here, looked-good, looked-empty, looked-bad}
use Rattle.salvage.proofs.salvaging.look_at.Goals as goal

pub enter_place-requires : goal.enter_place-requires
enter_place-requires c =
    let a = c.args in
    let p = c.requires in
    record { table_value = (p.table_value.0, p.table_value.1); place_len = (p.place_len, good-here a.afi a.place.now a.table.now _ c.is_good.ensures p.table_value.2 c.if-is_good.true) }

pub returns-then-is_good : goal.returns-then-is_good
returns-then-is_good c =
    let a = c.args in
    let both = looked-good a.afi a.place.now a.table.now _ c.is_good.ensures c.if-is_good.true _ _ c.enter_place.ensures.value c.enter_place.ensures.table_after in
    record { value = both.0; table_after = both.1 }

pub returns-then-is_zero : goal.returns-then-is_zero
returns-then-is_zero c =
    let a = c.args in
    let both = looked-empty a.afi a.place.now a.table.now _ c.is_good.ensures c.if-is_good.false _ c.is_zero.ensures c.if-is_zero.true in
    record { value = both.0; table_after = both.1 }

pub returns : goal.returns
returns c =
    let a = c.args in
    let both = looked-bad a.afi a.place.now a.table.now _ c.is_good.ensures c.if-is_good.false _ c.is_zero.ensures c.if-is_zero.false in
    record { value = both.0; table_after = both.1 }
