-- `nlri_writing::write::is_leaf_long` meets its contract.
use borrow.Author.Tests.{lt-ltb}
use native.Mathlib.Omega.{arith}
use Rattle.octets.proofs.Choice.{both-last}
use Rattle.octets.proofs.Tests.{flags}
use Rattle.nlri_writing.proofs.Sizes.{is-over}
use Rattle.nlri_writing.proofs.write.is_leaf_long.Goals as goal

pub returns-then-route_type-le-SOURCE_TREE_JOIN : goal.returns-then-route_type-le-SOURCE_TREE_JOIN
returns-then-route_type-le-SOURCE_TREE_JOIN c = search flags

pub returns : goal.returns
returns c = both-last _ _ _ (lt-ltb _ _ c.if-route_type-le-SOURCE_TREE_JOIN.false) (is-over c.args.originator c.args.key (omega (arith, c.requires)))
