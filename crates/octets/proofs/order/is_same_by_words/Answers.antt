-- `octets::order::is_same_by_words` meets its contract: as far as the loop has come, both begin alike.
use Prim.Native.Nat.{ℕ, ◌*◌, ◌-◌}
use mathlib.Core.Path.{◌≡◌, refl, sym}
use lib.ListN.{length, take}
use borrow.Author.Rules.{rules}
use Rattle.octets.specs.Octets.{low_first}
use Rattle.octets.proofs.AllOctets.{octets-of}
use Rattle.octets.proofs.Lists.{next-block}
use Rattle.octets.proofs.LowFirst.{same_low}
use Rattle.octets.proofs.Orders.{lengths_differ, parts-other, parts-alike, parts-end, alike-before}
use Rattle.octets.proofs.order.is_same_by_words.Goals as goal

pub returns-then-a-b : goal.returns-then-a-b
returns-then-a-b c = sym (lengths_differ _ _ c.if-a-b.true)

pub loop-i-init : goal.loop-i-init
loop-i-init c = refl

pub returns-then-eight_low_first : goal.returns-then-eight_low_first
returns-then-eight_low_first c =
    let l = c.loop-i in
    parts-other low_first _ _ (l.i * 8) 8 _ _ c.eight_low_first.ensures c.eight_low_first-in-loop-i.ensures c.if-eight_low_first.true

pub loop-i-preserved : goal.loop-i-preserved
loop-i-preserved c =
    let s = c.args in
    let l = c.loop-i in
    let each-a = octets-of s.a.now (λ k. (c.type_inv.a k).fits) in
    let each-b = octets-of s.b.now (λ k. (c.type_inv.b k).fits) in
    rw (next-block l.i 8)
    (parts-alike low_first s.a.now s.b.now (l.i * 8) 8 _ _ c.eight_low_first.ensures c.eight_low_first-in-loop-i.ensures (same_low each-a each-b (l.i * 8) 8 (search rules) (search rules)) l.invariant c.if-eight_low_first.false)

pub returns : goal.returns
returns c =
    let s = c.args in
    let l = c.loop-i in
    let last : ℕ = length s.a.now - 8 in
    let each-a = octets-of s.a.now (λ k. (c.type_inv.a k).fits) in
    let each-b = octets-of s.b.now (λ k. (c.type_inv.b k).fits) in
    let front : take last s.a.now ≡ take last s.b.now = alike-before s.a.now s.b.now last (l.i * 8) (search rules) l.invariant in
    parts-end low_first s.a.now s.b.now last 8 _ _ c.eight_low_first-2.ensures c.eight_low_first-3.ensures (same_low each-a each-b last 8 (search rules) (search rules)) front (search rules) (search rules)
