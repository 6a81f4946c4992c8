-- `shared_trees::eligible::is_eligible` meets its contract.
use Rattle.shared_trees.specs.Tree.{tree_of}
use Rattle.shared_trees.proofs.SourceActives.{fact-some, fact-none, condition-upstream, condition-bidirectional, condition-unused, condition-found}
use Rattle.shared_trees.proofs.eligible.is_eligible.Goals as goal

pub returns-then-facts-ne0 : goal.returns-then-facts-ne0
unfolding tree_of
returns-then-facts-ne0 c afi prefixes none = condition-upstream afi _ (fact-some _ c.if-facts-ne0.true)

pub returns-then-facts-ne0-2 : goal.returns-then-facts-ne0-2
unfolding tree_of
returns-then-facts-ne0-2 c afi prefixes none = condition-bidirectional afi _ (fact-some _ c.if-facts-ne0-2.true)

pub returns-then-facts-ne0-3 : goal.returns-then-facts-ne0-3
unfolding tree_of
returns-then-facts-ne0-3 c afi prefixes none = condition-unused afi _ (fact-some _ c.if-facts-ne0-3.true)

pub returns : goal.returns
unfolding tree_of
returns c afi prefixes none = condition-found afi _ (fact-none _ c.if-facts-ne0.false) (fact-none _ c.if-facts-ne0-2.false) (fact-none _ c.if-facts-ne0-3.false) none _ c.has_source.ensures
