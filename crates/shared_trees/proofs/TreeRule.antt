-- What the shared tree of a call's arguments is (specs/Tree.antt).
use Prim.Native.Nat.{ℕ}
use mathlib.Core.Path.{◌≡◌, refl}
use mathlib.Core.Bool.{true, not}
use mathlib.Core.Logic.{◌↔◌, ◌≢◌}
use lib.Dec.{eqb}
use Rattle.octets.proofs.Choice.{opposite}
use Rattle.shared_trees.specs.Tree.{tree_of}
use Rattle.shared_trees.specs.Rules.TreeRule.{TreeRule}
use Rattle.shared_trees.proofs.SourceActives.{fact-some, fact-none}

-- a fact holds exactly when the number told of it is not 0
fact-exactly : (told : ℕ) → (not (eqb told 0) ≡ true) ↔ (told ≢ 0)
fact-exactly told = (λ t e. opposite t (fact-none told e), fact-some told)

pub tree_rule : TreeRule
unfolding tree_of
tree_rule =
    record {
      upstream = λ prefixes router group facts source_actives states. fact-exactly facts.upstream;
      bidirectional = λ prefixes router group facts source_actives states. fact-exactly facts.bidirectional;
      unused = λ prefixes router group facts source_actives states. fact-exactly facts.source_active_unused;
      prefixes = λ prefixes router group facts source_actives states. refl;
      router = λ prefixes router group facts source_actives states. refl;
      group = λ prefixes router group facts source_actives states. refl;
      source_actives = λ prefixes router group facts source_actives states. refl;
      states = λ prefixes router group facts source_actives states. refl;
    }
