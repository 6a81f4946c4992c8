-- `octets::order::is_zero` meets its contract: as far as the loop has come, all is zeros, and the last block leaves nothing out.
use Prim.Native.Nat.{ℕ, ◌*◌, ◌-◌}
use mathlib.Core.Path.{◌≡◌, refl, ◌∙◌, ap}
use lib.ListN.{length}
use borrow.Author.Rules.{rules}
use Rattle.octets.specs.Octets.{part}
use Rattle.octets.specs.Order.{all_zero}
use Rattle.octets.proofs.Lists.{next-block}
use Rattle.octets.proofs.Zeros.{zero-begins, zero-fails, zero-last}
use Rattle.octets.proofs.order.is_zero.Goals as goal

pub loop-i-init : goal.loop-i-init
unfolding all_zero
loop-i-init c = refl

pub returns-then-not-is_each_zero : goal.returns-then-not-is_each_zero
returns-then-not-is_each_zero c =
    zero-fails _ c.args.s.now (c.loop-i.i * 64) 64 (c.is_each_zero-in-loop-i.ensures ∙ ap all_zero c.between.ensures) c.if-not-is_each_zero.true

pub loop-i-preserved : goal.loop-i-preserved
loop-i-preserved c =
    let l = c.loop-i in
    rw (next-block l.i 64)
    (zero-begins _ c.args.s.now (l.i * 64) 64 l.invariant (c.is_each_zero-in-loop-i.ensures ∙ ap all_zero c.between.ensures) c.if-not-is_each_zero.false)

pub returns : goal.returns
returns c =
    let l = c.loop-i in
    let s = c.args.s.now in
    let last : ℕ = length s - 64 in
    let end : c.is_each_zero-2.result ≡ all_zero (part s last 64) = c.is_each_zero-2.ensures ∙ ap all_zero c.between-2.ensures in
    zero-last _ s last 64 (l.i * 64) (search rules) (search rules) l.invariant end
