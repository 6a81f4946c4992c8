-- `places::sound::is_tail_zero_by` meets its contract.
use Prim.Native.Nat.{ℕ, ◌-◌}
use mathlib.Core.Path.{sym, ap, ap₂, ◌∙◌}
use mathlib.Core.List.{List}
use lib.ListN.{length}
use Rattle.octets.specs.Choice.{both}
use Rattle.octets.specs.Order.{all_zero}
use Rattle.octets.proofs.Lists.{length_part}
use Rattle.octets.proofs.Zeros.{zero-overlap}
use borrow.Author.Rules.{rules}
use Rattle.places.proofs.sound.is_tail_zero_by.Goals as goal

pub are_each_zero-requires : goal.are_each_zero-requires
are_each_zero-requires g c =
    let s = c.args in
    ap length c.between.ensures ∙ length_part _ (127 - g.row.BLOCK) g.row.BLOCK (search rules) ∙ sym (ap length c.between-2.ensures ∙ length_part _ s.end g.row.BLOCK (search rules))

pub returns : goal.returns
returns g c =
    let s = c.args in
    zero-overlap _ _ (127 - g.row.BLOCK) g.row.BLOCK s.end g.row.BLOCK (search rules) (search rules) (search rules)
    (c.are_each_zero.ensures ∙ ap₂ (λ (a b : List ℕ). both (all_zero a) (all_zero b)) c.between.ensures c.between-2.ensures)
