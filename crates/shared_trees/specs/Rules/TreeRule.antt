-- What the shared tree of a call's arguments is. Proved in proofs/TreeRule.antt.
use Rattle.std.specs.Prelude.{ℕ, ◌≡◌, true, List, ◌↔◌, ◌≢◌}
use Rattle.shared_trees.specs.declared.TreeFacts.{TreeFacts}
use Rattle.shared_trees.specs.Tree.{tree_of}

-- the shared tree of every call's arguments
pub record TreeRule : Type 0 where
  -- the PE is upstream for the C-RP exactly when the number told of it is not 0
  pub upstream : (prefixes router group : List ℕ) (facts : TreeFacts) (source_actives states : List ℕ)
      → ((tree_of prefixes router group facts source_actives states).upstream ≡ true) ↔ (facts.upstream ≢ 0)
  -- so is the group a BIDIR-PIM group
  pub bidirectional : (prefixes router group : List ℕ) (facts : TreeFacts) (source_actives states : List ℕ)
      → ((tree_of prefixes router group facts source_actives states).bidirectional ≡ true) ↔ (facts.bidirectional ≢ 0)
  -- and so are Source Active routes not being used
  pub unused : (prefixes router group : List ℕ) (facts : TreeFacts) (source_actives states : List ℕ)
      → ((tree_of prefixes router group facts source_actives states).unused ≡ true) ↔ (facts.source_active_unused ≢ 0)
  -- the prefixes, the PE asked, the group and both lists are those of the call
  pub prefixes : (prefixes router group : List ℕ) (facts : TreeFacts) (source_actives states : List ℕ) → (tree_of prefixes router group facts source_actives states).prefixes ≡ prefixes
  pub router : (prefixes router group : List ℕ) (facts : TreeFacts) (source_actives states : List ℕ) → (tree_of prefixes router group facts source_actives states).router ≡ router
  pub group : (prefixes router group : List ℕ) (facts : TreeFacts) (source_actives states : List ℕ) → (tree_of prefixes router group facts source_actives states).group ≡ group
  pub source_actives : (prefixes router group : List ℕ) (facts : TreeFacts) (source_actives states : List ℕ) → (tree_of prefixes router group facts source_actives states).source_actives ≡ source_actives
  pub states : (prefixes router group : List ℕ) (facts : TreeFacts) (source_actives states : List ℕ) → (tree_of prefixes router group facts source_actives states).states ≡ states
