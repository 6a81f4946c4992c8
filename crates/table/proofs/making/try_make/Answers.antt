-- `table::making::try_make` meets its contract.
use Rattle.table.proofs.Makes.{cleared-room, afi-octet, no-family, no_table, table-made}
use Rattle.places.proofs.Sounds.{header-room}
use Rattle.table.proofs.making.try_make.Goals as goal

pub returns-then-not-is_family : goal.returns-then-not-is_family
returns-then-not-is_family c = no-family _ _ c.is_family.ensures _ c.if-not-is_family.true

pub returns-then-not-is_table_size : goal.returns-then-not-is_table_size
returns-then-not-is_table_size c = no_table _ _ c.is_family.ensures _ c.if-not-is_family.false _ c.is_table_size.ensures c.if-not-is_table_size.true

pub clear_places-requires : goal.clear_places-requires
clear_places-requires c = header-room _ _ c.is_table_size.ensures c.if-not-is_table_size.false

pub write_header-requires : goal.write_header-requires
write_header-requires c = (afi-octet _ _ c.is_family.ensures c.if-not-is_family.false, cleared-room c.args.table.now _ _ c.is_table_size.ensures c.if-not-is_table_size.false c.clear_places.ensures)

pub returns : goal.returns
returns c = table-made _ _ c.is_family.ensures _ c.if-not-is_family.false _ c.is_table_size.ensures c.if-not-is_table_size.false _ _ c.clear_places.ensures c.write_header.ensures
