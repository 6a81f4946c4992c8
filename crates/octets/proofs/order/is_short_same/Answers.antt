-- `octets::order::is_short_same` meets its contract: as far as the loop has come, both begin alike.
use mathlib.Core.Path.{refl}
use borrow.Author.Rules.{rules}
use Rattle.octets.specs.Octets.{low_first}
use Rattle.octets.proofs.AllOctets.{octets-of}
use Rattle.octets.proofs.LowFirst.{same_low}
use Rattle.octets.proofs.Orders.{octet-alike, octet-other, alike-whole, parts-end}
use Rattle.octets.proofs.order.is_short_same.Goals as goal

pub returns-then-a-eq4 : goal.returns-then-a-eq4
returns-then-a-eq4 c =
    let s = c.args in
    let each-a = octets-of s.a.now (λ k. search rules) in
    let each-b = octets-of s.b.now (λ k. search rules) in
    parts-end low_first s.a.now s.b.now 0 4 _ _ c.four_low_first.ensures c.four_low_first-then-a-eq4.ensures (same_low each-a each-b 0 4 (search rules) (search rules)) refl (search rules) (search rules)

pub loop-i-init : goal.loop-i-init
loop-i-init c = refl

pub returns-then-a-i : goal.returns-then-a-i
returns-then-a-i c = octet-other _ _ c.loop-i.i c.if-a-i.true

pub loop-i-preserved : goal.loop-i-preserved
loop-i-preserved c = let l = c.loop-i in octet-alike _ _ l.i l.invariant (search rules) (search rules) c.if-a-i.false

pub returns : goal.returns
returns c = let l = c.loop-i in alike-whole _ _ l.i l.invariant (search rules) (search rules)
