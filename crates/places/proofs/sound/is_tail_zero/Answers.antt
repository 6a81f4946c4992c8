-- `places::sound::is_tail_zero` meets its contract.
use mathlib.Core.Path.{ap, ◌∙◌}
use Rattle.octets.specs.Order.{all_zero}
use Rattle.places.proofs.sound.is_tail_zero.Goals as goal

pub returns-then-end : goal.returns-then-end
returns-then-end c = c.is_tail_zero_by.ensures

pub returns-then-end-2 : goal.returns-then-end-2
returns-then-end-2 c = c.is_tail_zero_by-then-end-2.ensures

pub returns-then-end-3 : goal.returns-then-end-3
returns-then-end-3 c = c.is_tail_zero_by-then-end-3.ensures

pub returns : goal.returns
returns c = c.is_zero.ensures ∙ ap all_zero c.after.ensures
