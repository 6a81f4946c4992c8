-- `places::sound::is_rest_zero` meets its contract.
use mathlib.Core.Path.{ap, ◌∙◌}
use Rattle.octets.specs.Order.{all_zero}
use Rattle.places.proofs.Sounds.{rest-other, rest-zero}
use Rattle.places.proofs.sound.is_rest_zero.Goals as goal

pub returns-then-table-at-lt-WORD : goal.returns-then-table-at-lt-WORD
returns-then-table-at-lt-WORD c = c.is_zero.ensures ∙ ap all_zero c.after.ensures

pub returns-then-is_zero : goal.returns-then-is_zero
returns-then-is_zero c = rest-zero _ _ 8 _ _ c.after-2.ensures c.is_zero-2.ensures c.if-is_zero.true _ c.eight_low_first.ensures

pub returns-else-is_zero : goal.returns-else-is_zero
returns-else-is_zero c = let s = c.args in c.if-is_zero.false ∙ rest-other s.table.now s.at 8 _ _ c.after-2.ensures c.is_zero-2.ensures c.if-is_zero.false
