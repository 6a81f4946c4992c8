-- `places::sound::follows` meets its contract.
use Prim.Native.Nat.{◌+◌, ◌-◌}
use mathlib.Core.Path.{sym, ap, ap₂, ◌∙◌}
use native.Mathlib.Omega.{arith}
use borrow.Author.Tests.{lt-ltb, le-ltb}
use lib.ListN.{length, get_or}
use Rattle.octets.specs.Order.{before}
use Rattle.octets.proofs.Choice.{either_left, either-last}
use Rattle.octets.proofs.Lists.{length_part}
use Rattle.places.specs.Passing.{rises_at}
use borrow.Author.Rules.{rules}
use Rattle.places.proofs.sound.follows.Goals as goal

pub returns-then-at-lt-PLACE : goal.returns-then-at-lt-PLACE
unfolding rises_at
returns-then-at-lt-PLACE c = sym (either_left _ _ (lt-ltb _ 128 c.if-at-lt-PLACE.true))

pub rises-requires : goal.rises-requires
rises-requires c =
    let s = c.args in
    let size = get_or s.table.now s.at 0 in
    let one = ap length c.between.ensures ∙ length_part _ (s.at - 128 + 2) size (search rules) in
    let other = ap length c.between-2.ensures ∙ length_part _ (s.at + 2) size (search rules) in
    (one ∙ sym other, omega (arith, other))

pub returns : goal.returns
unfolding rises_at
returns c = either-last _ _ _ (le-ltb _ 128 c.if-at-lt-PLACE.false) (c.rises.ensures ∙ ap₂ before c.between.ensures c.between-2.ensures)
