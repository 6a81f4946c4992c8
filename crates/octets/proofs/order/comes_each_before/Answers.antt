-- `octets::order::comes_each_before` meets its contract: as far as the loop has come, both begin alike.
use mathlib.Core.Path.{refl}
use borrow.Author.Rules.{rules}
use Rattle.octets.proofs.Orders.{octet-decides, octet-alike, lengths-decide}
use Rattle.octets.proofs.order.comes_each_before.Goals as goal

pub loop-i-init : goal.loop-i-init
loop-i-init c = refl

pub returns-then-a-i : goal.returns-then-a-i
returns-then-a-i c = let l = c.loop-i in octet-decides _ _ l.i l.invariant (search rules) (search rules) c.if-a-i.true

pub loop-i-preserved : goal.loop-i-preserved
loop-i-preserved c = let l = c.loop-i in octet-alike _ _ l.i l.invariant (search rules) (search rules) c.if-a-i.false

pub returns : goal.returns
returns c = let l = c.loop-i in lengths-decide _ _ l.i (search rules) l.invariant _ refl
