-- `octets::order::rises` meets its contract.
use Prim.Native.Nat.{ℕ, ◌*◌, ◌-◌}
use mathlib.Core.Path.{◌≡◌, refl}
use lib.ListN.{length, take}
use Rattle.octets.specs.Octets.{low_first}
use Rattle.octets.proofs.AllOctets.{octets-of}
use Rattle.octets.proofs.Lists.{next-block}
use Rattle.octets.proofs.LowFirst.{same_low}
use Rattle.octets.proofs.Orders.{parts-decide, parts-differ, parts-alike, alike-before}
use Rattle.octets.proofs.Orders.{parts_last}
use borrow.Author.Rules.{rules}
use Rattle.octets.proofs.order.rises.Goals as goal

pub loop-i-init : goal.loop-i-init
loop-i-init c = refl

pub returns-then-eight_low_first : goal.returns-then-eight_low_first
returns-then-eight_low_first c =
    let s = c.args in
    let each-a = octets-of s.a.now (λ k. (c.type_inv.a k).fits) in
    let each-b = octets-of s.b.now (λ k. (c.type_inv.b k).fits) in
    parts-decide s.a.now s.b.now (c.loop-i.i * 8) 8 c.loop-i.invariant each-a each-b (search rules) (search rules) _ _ c.eight.ensures c.eight-then-eight_low_first.ensures
    (parts-differ low_first s.a.now s.b.now (c.loop-i.i * 8) 8 _ _ c.eight_low_first.ensures c.eight_low_first-in-loop-i.ensures c.if-eight_low_first.true)

pub loop-i-preserved : goal.loop-i-preserved
loop-i-preserved c =
    let s = c.args in
    let l = c.loop-i in
    let each-a = octets-of s.a.now (λ k. (c.type_inv.a k).fits) in
    let each-b = octets-of s.b.now (λ k. (c.type_inv.b k).fits) in
    rw (next-block l.i 8)
    (parts-alike low_first s.a.now s.b.now (l.i * 8) 8 _ _ c.eight_low_first.ensures c.eight_low_first-in-loop-i.ensures (same_low each-a each-b (l.i * 8) 8 (search rules) (search rules)) l.invariant c.if-eight_low_first.false)

pub returns : goal.returns
returns c =
    let s = c.args in
    let l = c.loop-i in
    let last : ℕ = length s.b.now - 8 in
    let each-a = octets-of s.a.now (λ k. (c.type_inv.a k).fits) in
    let each-b = octets-of s.b.now (λ k. (c.type_inv.b k).fits) in
    let front : take last s.a.now ≡ take last s.b.now = alike-before s.a.now s.b.now last (l.i * 8) (search rules) l.invariant in
    parts_last s.a.now s.b.now last 8 front each-a each-b (search rules) (search rules) _ _ c.eight-2.ensures c.eight-3.ensures
