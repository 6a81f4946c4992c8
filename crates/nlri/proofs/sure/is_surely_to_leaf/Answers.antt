-- `nlri::sure::is_surely_to_leaf` meets its contract.
use Rattle.std.proofs.Common.{refl, arith}
use Rattle.octets.proofs.Choice.{opposite}
use Rattle.nlri.proofs.Functions.Sure.{sure-number}
use Rattle.nlri.proofs.sure.is_surely_to_leaf.Goals as goal

pub returns-then-s-lt-ENOUGH : goal.returns-then-s-lt-ENOUGH
returns-then-s-lt-ENOUGH c t = absurd (opposite t refl)

pub returns-then-s-eq-LEAF : goal.returns-then-s-eq-LEAF
returns-then-s-eq-LEAF c t = sure-number _ 4 106 _ (c.is_surely_leaf.ensures t) c.if-s-eq-LEAF.true (omega (arith, c.if-s-lt-ENOUGH.false)) (λ five. omega arith)

pub returns : goal.returns
returns c t = let key = c.is_surely_keyable.ensures t in sure-number _ _ 88 _ key.1 refl (omega (arith, c.if-s-lt-ENOUGH.false)) (λ five. omega (arith, key.0))
