-- `salvage::salvaging::try_salvage` meets its contract: the refusals in order, then the work.
use native.Mathlib.Omega.{arith}
use Rattle.places.proofs.Sounds.{header-room}
use Rattle.salvage.proofs.Salvages.{no-family, no_size, other-size, places-few, short-list, is-ready}
use Rattle.salvage.proofs.salvaging.try_salvage.Goals as goal

pub returns-then-not-is_family : goal.returns-then-not-is_family
returns-then-not-is_family c =
    let a = c.args in
    no-family a.afi a.damaged.now a.table.now a.dropped.now _ c.is_family.ensures c.if-not-is_family.true

pub returns-then-not-is_table_size : goal.returns-then-not-is_table_size
returns-then-not-is_table_size c =
    let a = c.args in
    no_size a.afi a.damaged.now a.table.now a.dropped.now _ c.is_family.ensures c.if-not-is_family.false _ c.is_table_size.ensures c.if-not-is_table_size.true

pub returns-then-table-damaged : goal.returns-then-table-damaged
returns-then-table-damaged c =
    let a = c.args in
    other-size a.afi a.damaged.now a.table.now a.dropped.now _ c.is_family.ensures c.if-not-is_family.false _ c.is_table_size.ensures c.if-not-is_table_size.false c.if-table-damaged.true

pub places_of-requires : goal.places_of-requires
places_of-requires c = header-room _ _ c.is_table_size.ensures c.if-not-is_table_size.false

pub overflow_mul-places_of : goal.overflow_mul-places_of
overflow_mul-places_of c =
    let a = c.args in
    let z = places-few a.afi a.damaged.now a.table.now a.dropped.now _ c.is_family.ensures c.if-not-is_family.false _ c.is_table_size.ensures c.if-not-is_table_size.false in
    omega (arith, c.places_of.ensures)

pub returns-then-dropped-places_of : goal.returns-then-dropped-places_of
returns-then-dropped-places_of c =
    let a = c.args in
    short-list a.afi a.damaged.now a.table.now a.dropped.now _ c.is_family.ensures c.if-not-is_family.false _ c.is_table_size.ensures c.if-not-is_table_size.false _ c.if-table-damaged.false c.places_of.ensures c.if-dropped-places_of.true

pub salvage_into-requires : goal.salvage_into-requires
salvage_into-requires c =
    let a = c.args in
    record { ready = is-ready a.afi a.damaged.now a.table.now a.dropped.now _ c.is_family.ensures c.if-not-is_family.false _ c.is_table_size.ensures c.if-not-is_table_size.false _ c.places_of.ensures (omega (arith, c.if-dropped-places_of.false)); table_len = c.if-table-damaged.false }
