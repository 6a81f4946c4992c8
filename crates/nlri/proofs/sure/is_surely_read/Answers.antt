-- `nlri::sure::is_surely_read` meets its contract.
use Rattle.std.proofs.Common.{refl, arith}
use Rattle.octets.proofs.Choice.{opposite}
use Rattle.nlri.proofs.Functions.Sure.{sure-number}
use Rattle.nlri.proofs.sure.is_surely_read.Goals as goal

pub returns-then-s-lt-ENOUGH : goal.returns-then-s-lt-ENOUGH
returns-then-s-lt-ENOUGH c t = absurd (opposite t refl)

pub returns-then-route_type-eq-LEAF : goal.returns-then-route_type-eq-LEAF
returns-then-route_type-eq-LEAF c t = sure-number _ 4 106 _ (c.is_surely_leaf.ensures t) c.if-route_type-eq-LEAF.true (omega (arith, c.if-s-lt-ENOUGH.false)) (λ five. omega arith)

pub returns-then-route_type-gt-SOURCE_TREE_JOIN : goal.returns-then-route_type-gt-SOURCE_TREE_JOIN
returns-then-route_type-gt-SOURCE_TREE_JOIN c t = absurd (opposite t refl)

pub returns-then-route_type-gt-SOURCE_ACTIVE : goal.returns-then-route_type-gt-SOURCE_ACTIVE
returns-then-route_type-gt-SOURCE_ACTIVE c t = sure-number _ _ 76 _ (c.is_surely_join.ensures t _ c.if-route_type-gt-SOURCE_ACTIVE.true c.if-route_type-gt-SOURCE_TREE_JOIN.false) refl (omega (arith, c.if-s-lt-ENOUGH.false)) (λ five. omega (arith, c.if-route_type-gt-SOURCE_ACTIVE.true))

pub returns : goal.returns
returns c t = let key = c.is_surely_keyable.ensures t in sure-number _ _ 88 _ key.1 refl (omega (arith, c.if-s-lt-ENOUGH.false)) (λ five. omega (arith, key.0))
