-- What a match for a shared tree answers, case by case.
use Prim.Native.Nat.{ℕ, ◌≤◌, ◌<◌}
use mathlib.Core.Path.{◌≡◌, refl, sym, ◌∙◌, ap}
use mathlib.Core.Bool.{Bool, true, false}
use mathlib.Core.List.{List}
use borrow.Author.Tests.{lt-ltb, le-ltb}
use lib.ListN.{length}
use Rattle.octets.specs.Numbers.{SPACE}
use Rattle.octets.specs.Choice.{pick}
use Rattle.octets.specs.Outcome.{given, refused}
use Rattle.octets.proofs.Choice.{picks, skips, both_left, both-last}
use Rattle.octets.proofs.Outcome.{and-goes-on, and-stops}
use denote.Enum.Bare.{sameb}
use Rattle.nlri.specs.declared.group.GroupClass.{GroupClass}
use Rattle.nlri.specs.declared.group.GroupClass.TheVariants.{Asm, Ssm}
use Rattle.nlri.specs.contracts.group.GroupClass.{the_type as the_class}
use Rattle.nlri.specs.Groups.{class_number}
use Rattle.routes.specs.declared.Matched.{Matched}
use Rattle.routes.specs.Query.{tiers_of}
use Rattle.routes.specs.SharedTree.{SharedTree, judged_tree, condition_holds, tree_open, tree_query, read_tree}
use Rattle.routes.specs.Asked.{of_shared_tree, read_asked}
use Rattle.routes.specs.Table.{afi_in, routes_of, sound_of}
use Rattle.routes.specs.Matching.{match_in}
use Rattle.routes.specs.Answers.{empty_match, matched_by}
use Rattle.routes.specs.Calls.{match_of}
use Rattle.shared_trees.proofs.Judging.{Accepted, tree-accepted}
use Rattle.matches.specs.Scanning.{sought_of, tree_tiers, open_query}
use Rattle.octets.specs.Outputs.{Leaves}
use Rattle.matches.specs.declared.tier.Tiers.{Tiers}
use Rattle.matches.proofs.Matches.{match-stopped, match-searched}

-- what a shared tree asks, as tiers that are open; its group stands for a source, which no open tier looks at
tree-query : (afi : ℕ) (tree : SharedTree) (class : ℕ) → tree_query afi tree class ≡ open_query (sought_of tree.router tree.group tree.group) (tree_tiers (tree_open afi tree class))
unfolding tree_query open_query tiers_of pick
tree-query afi tree class = refl

-- the tiers, by the branches of the function that opens them
pub tiers-closed : (afi : ℕ) (tree : SharedTree) (class : GroupClass) (tiers : Tiers) → sameb the_class class Asm ≡ false → tiers ≡ tree_tiers false → tiers ≡ tree_tiers (tree_open afi tree (class_number class))
tiers-closed afi tree Asm tiers h e = cc
tiers-closed afi tree Ssm tiers h e = e ∙ ap tree_tiers (sym (both_left _ _ refl))

pub tiers-open : (afi : ℕ) (tree : SharedTree) (class : GroupClass) (tiers : Tiers) → sameb the_class class Asm ≡ true → (eligible : Bool) → eligible ≡ condition_holds afi tree → tiers ≡ tree_tiers eligible
    → tiers ≡ tree_tiers (tree_open afi tree (class_number class))
tiers-open afi tree Asm tiers h eligible q e = e ∙ ap tree_tiers (both-last _ _ _ refl q)
tiers-open afi tree Ssm tiers h eligible q e = cc

module _ (t : List ℕ) (tree : SharedTree) (output : List ℕ) (is : sound_of t ≡ true) (afi : ℕ) (bits : afi ≡ afi_in t) where
  -- by what judging the tree told
  pub shared-refused : (n : ℕ) → refused n ≡ judged_tree afi tree → (answer : Matched) → answer ≡ empty_match n → Leaves (match_of t (of_shared_tree tree) output) answer output
  unfolding read_asked read_tree
  shared-refused n judges answer a =
      match-stopped t (of_shared_tree tree) output answer is n (sym (and-stops _ _ _ (ap (λ (x : ℕ). judged_tree x tree) (sym bits) ∙ sym judges))) a

  module _ (class : ℕ) (judges : given class ≡ judged_tree afi tree) where
    judges-its : judged_tree (afi_in t) tree ≡ given class
    judges-its = ap (λ (x : ℕ). judged_tree x tree) (sym bits) ∙ sym judges

    pub shared-space : length output < 124 → (answer : Matched) → answer ≡ empty_match SPACE → Leaves (match_of t (of_shared_tree tree) output) answer output
    unfolding read_asked read_tree
    shared-space h answer a = match-stopped t (of_shared_tree tree) output answer is SPACE (sym (and-goes-on _ _ _ _ judges-its (picks _ _ _ _ (lt-ltb _ _ h) refl))) a

    pub shared-search : 124 ≤ length output → (tiers : Tiers) → tiers ≡ tree_tiers (tree_open (afi_in t) tree class) → (answer : Matched) (left : List ℕ)
        → Leaves (matched_by (given (match_in (afi_in t) (open_query (sought_of tree.router tree.group tree.group) tiers) (routes_of t))) output) answer left → Leaves (match_of t (of_shared_tree tree) output) answer left
    unfolding read_asked read_tree
    shared-search h tiers shows answer left a =
        match-searched t (of_shared_tree tree) output answer is (tree_query (afi_in t) tree class) (sym (and-goes-on _ _ _ _ judges-its (skips _ _ _ _ (le-ltb _ _ h) refl))) left
        (rw tree-query (rw shows at a))

    -- a tree that was accepted
    pub shared-accepted : Accepted (afi_in t) tree
    shared-accepted = tree-accepted (afi_in t) tree class judges-its
