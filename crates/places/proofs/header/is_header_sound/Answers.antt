-- `places::header::is_header_sound` meets its contract.
use Rattle.std.proofs.Common.{ap, ◌∙◌}
use Rattle.octets.specs.Order.{same}
use Rattle.routes.specs.Table.{afi_in}
use native.Mathlib.Omega.{arith}
use Rattle.places.proofs.Sounds.{header-good, header-bad}
use Rattle.places.proofs.header.is_header_sound.Goals as goal

pub overflow_cast-table : goal.overflow_cast-table
overflow_cast-table c = omega (arith, c.type_inv.table 5)

pub returns-then-is_same : goal.returns-then-is_same
unfolding afi_in
returns-then-is_same c = header-good _ _ _ c.between.ensures (c.is_same.ensures ∙ ap (same c.between.result.now) c.start_of-start.ensures) _ c.if-is_same.true c.is_family.ensures

pub returns-else-is_same : goal.returns-else-is_same
unfolding afi_in
returns-else-is_same c = c.if-is_same.false ∙ header-bad _ _ _ c.between.ensures (c.is_same.ensures ∙ ap (same c.between.result.now) c.start_of-start.ensures) c.if-is_same.false
