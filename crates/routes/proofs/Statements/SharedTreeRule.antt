-- The match for a shared tree (specs/Rules/SharedTreeRule.antt): the route that it takes, each answer exactly when, and what is told.
use Prim.Native.Nat.{ℕ}
use mathlib.Core.Path.{◌≡◌, refl, sym, subst}
use mathlib.Core.Bool.{Bool, true, false}
use mathlib.Core.List.{List, []}
use mathlib.Core.Logic.{◌↔◌}
use lib.Dec.{eqb}
use borrow.Author.Tests.{eqb-true, eqb-false, eq-eqb}
use Rattle.octets.specs.Numbers.{DONE}
use Rattle.octets.specs.Outcome.{given}
use Rattle.octets.proofs.Choice.{opposite, tested, both-held, both_true}
use Rattle.nlri.specs.Fields.{Fields}
use Rattle.groups.specs.Rules.ClassRule.{Specific}
use Rattle.routes.specs.Query.{meets, Query}
use Rattle.routes.specs.SharedTree.{SharedTree, tree_open, tree_query, read_tree}
use Rattle.routes.specs.Asked.{of_shared_tree, read_asked}
use Rattle.routes.specs.Table.{afi_in, routes_of}
use Rattle.routes.specs.Calls.{match_of}
use Rattle.routes.specs.Rules.MatchRule.{MatchAnswer, one_told, none_told}
use Rattle.routes.specs.Rules.SharedTreeRule.{Condition, InSharedTier, shared_group, shared_wildcard, GoodTree, SharedTreeRefusal, SharedTreeRule}
use Rattle.routes.proofs.Definitions.Matching.OpenTiers.{Opened, opened1, opened2, opened3, opened4, tiers-exactly}
use Rattle.routes.proofs.Definitions.Matching.First.{wanted_at}
use Rattle.routes.proofs.Definitions.Matching.SharedTrees.{AskedTree, asked-tree-router, tree-asked, tree-given, tree-refused}
use Rattle.routes.proofs.Definitions.Matching.Eligible.{condition-exactly}
use Rattle.routes.proofs.Statements.MatchRule.{Asks, asks-found, asks_nothing, Served, table-match}

-- a tree's query wants what the conditions of the tiers say
module _ (afi : ℕ) (tree : SharedTree) (output : List ℕ) (q : Query) (a : AskedTree afi tree output q) (f : Fields) where
  abbrev on : Bool
  on = tree_open afi tree a.class

  meant : on ≡ true → (Specific afi tree.prefixes tree.group → ⊥) × Condition afi tree
  meant h = let b = both-held _ _ h in (a.classes.other.0 (eqb-true _ _ b.0), (condition-exactly afi tree a.good.lent).0 b.1)

  holds : (Specific afi tree.prefixes tree.group → ⊥) → Condition afi tree → on ≡ true
  holds asm c = both_true _ _ (eq-eqb _ _ (a.classes.other.1 asm)) ((condition-exactly afi tree a.good.lent).1 c)

  in-tier : {tier : ℕ} → Opened [] tree.group false false on on f tier → InSharedTier afi tree tier f
  in-tier (opened1 h s g) = absurd (opposite h refl)
  in-tier (opened2 h s g) = absurd (opposite h refl)
  in-tier (opened3 h s g) = shared_group s g (meant h).0 (meant h).1
  in-tier (opened4 h s g) = shared_wildcard s g (meant h).0 (meant h).1

  tier-opened : {tier : ℕ} → InSharedTier afi tree tier f → Opened [] tree.group false false on on f tier
  tier-opened (shared_group s g asm c) = opened3 (holds asm c) s g
  tier-opened (shared_wildcard s g asm c) = opened4 (holds asm c) s g

  tree-exactly : (tier : ℕ) → (meets (wanted_at 1 tier q.tiers) f ≡ true) ↔ InSharedTier afi tree tier f
  unfolding tree_query
  tree-exactly tier =
      let wants = tiers-exactly [] tree.group false false on on f tier in
      subst (λ (x : Query). (meets (wanted_at 1 tier x.tiers) f ≡ true) ↔ InSharedTier afi tree tier f) (sym a.is) (λ h. in-tier (wants.0 h), λ i. wants.1 (tier-opened i))

tree-asks : (afi : ℕ) (tree : SharedTree) (output : List ℕ) (q : Query) → read_tree afi tree output ≡ given q → Asks afi tree.router (InSharedTier afi tree) q
tree-asks afi tree output q e = let a = tree-asked afi tree output q e in record { of = asked-tree-router a; exactly = λ tier f. tree-exactly afi tree output q a f tier }

pub served-tree : (tree : SharedTree) → Served (of_shared_tree tree) tree.router (λ afi. GoodTree afi tree) (λ output afi. SharedTreeRefusal afi tree output) (λ afi. InSharedTier afi tree)
unfolding read_asked
served-tree tree =
    record {
      refuses = λ afi output n. tree-refused afi tree output n;
      takes = λ afi output. (λ p. let a = tree-asked afi tree output p.0 p.1 in (a.good, a.enough), λ h. tree-given afi tree output h.0 h.1);
      asks = λ afi output q e. tree-asks afi tree output q e;
    }

-- no route of any tier is eligible for an SSM group
shared-asm : {afi tier : ℕ} {tree : SharedTree} {f : Fields} → InSharedTier afi tree tier f → Specific afi tree.prefixes tree.group → ⊥
shared-asm (shared_group _ _ asm _) s = asm s
shared-asm (shared_wildcard _ _ asm _) s = asm s

none-specific : (t : List ℕ) (tree : SharedTree) (output : List ℕ) → Specific (afi_in t) tree.prefixes tree.group
    → MatchAnswer (afi_in t) tree.router (InSharedTier (afi_in t) tree) output (routes_of t) (match_of t (of_shared_tree tree) output) → (match_of t (of_shared_tree tree) output).answer.tier ≡ 0
none-specific t tree output s (one_told tier r k told) = absurd (shared-asm k.eligible.met s)
none-specific t tree output s (none_told none done u) = u.tierless

tree-specific : (t : List ℕ) (tree : SharedTree) (output : List ℕ) → Specific (afi_in t) tree.prefixes tree.group → (match_of t (of_shared_tree tree) output).answer.tier ≡ 0
tree-specific t tree output s =
    let rule = table-match (served-tree tree) in
    tested (eqb (match_of t (of_shared_tree tree) output).answer.number DONE) (λ e. none-specific t tree output s (rule.answers t output (eqb-true _ _ e))) (λ f. (rule.untold t output (eqb-false _ _ f)).tierless)

pub shared_tree_rule : SharedTreeRule
shared_tree_rule =
    record {
      chosen = λ afi tree output q rs e. asks-found (tree-asks afi tree output q e) rs;
      none = λ afi tree output q rs e. asks_nothing (tree-asks afi tree output q e) rs;
      specific = tree-specific;
      table = λ tree. table-match (served-tree tree);
    }
