-- The shared tree that the arguments of a call tell of (request W-201), as contracts cite it.
use Rattle.std.specs.Prelude.{ℕ, not, List, eqb}
use Rattle.routes.specs.SharedTree.{SharedTree}
use Rattle.shared_trees.specs.declared.TreeFacts.{TreeFacts}

-- the shared tree of a call's arguments: a fact holds where it is not 0
unfoldable pub tree_of : (prefixes router group : List ℕ) → TreeFacts → (source_actives states : List ℕ) → SharedTree
tree_of prefixes router group facts source_actives states =
    record {
      prefixes = prefixes;
      router = router;
      group = group;
      upstream = not (eqb facts.upstream 0);
      bidirectional = not (eqb facts.bidirectional 0);
      unused = not (eqb facts.source_active_unused 0);
      source_actives = source_actives;
      states = states;
    }
