-- The refusals of a shared tree, case by case, as `judged_tree` has them in their order.
use Prim.Native.Nat.{ℕ, ◌*◌, ◌/◌, ◌≤◌, ◌<◌}
use mathlib.Core.Path.{◌≡◌, refl, sym, ◌∙◌, ap, ap₂}
use mathlib.Core.Bool.{Bool, true, false, not}
use mathlib.Core.List.{List}
use mathlib.Core.Logic.{◌⊎◌, inl, inr, ⊎_elim}
use Rattle.std.proofs.Common.{Result, Ok, Err}
use Rattle.octets.specs.declared.refusal.Refusal.{Refusal}
use Rattle.octets.specs.Refusals.{refusal_number, result_number}
use Rattle.octets.proofs.Refusals.{refusal_number-not_done}
use Rattle.nlri.specs.declared.group.GroupClass.{GroupClass}
use native.Mathlib.Omega.{arith}
use borrow.Author.Tests.{eqb-true, eqb-false, eq-eqb, ne_eqb, not-true}
use lib.Dec.{leb, eqb}
use lib.ListN.{length}
use Rattle.octets.specs.Numbers.{DONE, SHORT, LONG, FLOW}
use Rattle.octets.specs.Choice.{pick, both}
use Rattle.octets.specs.Outcome.{Outcome, given, refused, and_then}
use Rattle.octets.proofs.Choice.{pick_true, pick-false, tested, opposite, both_true, both-true-left, both-true-right}
use Rattle.octets.proofs.Outcome.{and-goes-on, and-stops, given-unless, passed, given-same, refused-same, never}
use Rattle.lists.specs.LentLists.{Item, list_count, whole_list, list_items, read_list, every_item}
use Rattle.nlri.specs.Family.{is_originator_size}
use Rattle.nlri.specs.Groups.{class_under, class_number, class_outcome}
use Rattle.groups.specs.Classes.{class_in, class_by}
use Rattle.groups.proofs.ClassFirst.{Read, early-stops, refused-early, refused-flow, given-read, class-sized}
use Rattle.nlri.proofs.Definitions.Lengths.{family-octets, originator-sized}
use Rattle.nlri.proofs.Definitions.Families.{family-least}
use Rattle.routes.specs.SharedTree.{SharedTree, MOST_ITEMS, originator_sized, state_sized, source_active_fault, judged_tree}
use Rattle.shared_trees.specs.declared.TreeFacts.{TreeFacts}
use Rattle.shared_trees.specs.Tree.{tree_of}
use Rattle.shared_trees.specs.Told.{lists_fault, tree_addresses_sized, whole_fault, is_early, ListsJudged}
use Rattle.shared_trees.proofs.SourceActives.{all-bounded}

-- what a shared tree that is not refused is: its lists and their NLRIs as `is_eligible` asks, a group, and a router address of four octets or more
pub record Accepted (afi : ℕ) (tree : SharedTree) : Type 0 where
  pub judged : ListsJudged (length tree.group) tree.source_actives tree.states
  pub read : source_active_fault afi (list_items 2 tree.source_actives) ≡ DONE
  pub grouped : 0 < length tree.group
  pub routed : 4 ≤ length tree.router

-- a list that is read
list_read : (list : List ℕ) (items : List Item) → read_list 2 list ≡ given items → (whole_list 2 list ≡ true) × (list_items 2 list ≡ items)
unfolding read_list
list_read list items e = let p = given-unless _ _ _ _ e in (p.0, given-same p.1)

pub tree-accepted : (afi : ℕ) (tree : SharedTree) (class : ℕ) → judged_tree afi tree ≡ given class → Accepted afi tree
unfolding judged_tree class_in class_under
tree-accepted afi tree class e =
    let bits = passed _ _ _ e in
    let items = passed _ _ _ bits.second in
    let counts = given-unless _ _ _ _ (given-unless _ _ _ _ items.second).1 in
    let a = passed _ _ _ counts.1 in
    let b = passed _ _ _ a.second in
    let router = given-unless _ _ _ _ b.second in
    let sizes = given-unless _ _ _ _ (given-unless _ _ _ _ router.1).1 in
    let group = passed _ _ _ sizes.1 in
    let states = list_read _ _ b.first in
    let actives = list_read _ _ a.first in
    let none : source_active_fault afi (list_items 2 tree.source_actives) ≡ DONE = ap (source_active_fault afi) actives.1 ∙ done-of _ _ _ group.second in
    let sized : length tree.group ≡ bits.value / 8 = eqb-true _ _ (given-unless _ _ _ _ (passed _ _ _ group.first).first).0 in
    let least : 4 ≤ length tree.group = omega (arith, family-least afi bits.value bits.first) in
    let all : bits.value ≡ 8 * length tree.group = omega (arith, (family-octets afi bits.value bits.first).0) in
    let every-sized : every_item (state_sized (8 * length tree.group)) (list_items 2 tree.states) ≡ true =
    ap₂ (λ (n : ℕ) (xs : List Item). every_item (state_sized n) xs) (sym all) states.1 ∙ sizes.0 in
    record {
      judged = record { listed = actives.0; held = record { whole = states.0; sized = every-sized; least = least }; stand = all-bounded afi _ none };
      read = none;
      grouped = omega arith;
      routed = omega (arith, originator-sized _ router.0);
    }
  where
    done-of : (n class k : ℕ) → pick (eqb n DONE) (given class) (refused n) ≡ given k → n ≡ DONE
    done-of n class k e = eqb-true _ _ (given-unless _ _ _ _ e).0

-- a test of two by one after the other
both-unless : {A : Type 0} (a b : Bool) (x y : A) → pick (both a b) x y ≡ pick a (pick b x y) y
unfolding pick both
both-unless true b x y = refl
both-unless false b x y = refl

-- lists without a fault are whole
pub lists-whole : (source_actives states : List ℕ) → lists_fault source_actives states ≡ DONE → (whole_list 2 source_actives ≡ true) × (whole_list 2 states ≡ true)
unfolding lists_fault pick
lists-whole a b e =
    tested (leb (list_count a) MOST_ITEMS)
    (λ p. tested (leb (list_count b) MOST_ITEMS)
    (λ q. tested (whole_list 2 a)
    (λ c. tested (whole_list 2 b) (λ d. (c, d)) (λ d. let z : SHORT ≡ DONE = rw (p, q, c, d) at e in absurd (omega arith)))
    (λ c. let z : SHORT ≡ DONE = rw (p, q, c) at e in absurd (omega arith)))
    (λ q. let z : LONG ≡ DONE = rw (p, q) at e in absurd (omega arith)))
    (λ p. let z : LONG ≡ DONE = rw p at e in absurd (omega arith))

-- what follows once the prefixes were read: the refusals of the lists, then of the addresses, the group and each Source Active route
module _ (afi : ℕ) (tree : SharedTree) (r : Read afi tree.prefixes) where
  last : ℕ → Outcome ℕ
  last class = pick (eqb (source_active_fault afi (list_items 2 tree.source_actives)) DONE) (given class) (refused (source_active_fault afi (list_items 2 tree.source_actives)))

  sized-then : pick (tree_addresses_sized r.bits tree.router tree.source_actives tree.states) (and_then (class_in r.bits r.items tree.group) last) (refused FLOW)
      ≡ pick (is_originator_size (length tree.router))
      (pick (every_item originator_sized (list_items 2 tree.source_actives))
      (pick (every_item (state_sized r.bits) (list_items 2 tree.states))
      (and_then (class_in r.bits r.items tree.group) last)
      (refused FLOW)) (refused FLOW)) (refused FLOW)
  unfolding tree_addresses_sized
  sized-then = both-unless _ _ _ _ ∙ rw both-unless

  lists-then : judged_tree afi tree
      ≡ pick (eqb (lists_fault tree.source_actives tree.states) DONE)
      (pick (tree_addresses_sized r.bits tree.router tree.source_actives tree.states) (and_then (class_in r.bits r.items tree.group) last) (refused FLOW))
      (refused (lists_fault tree.source_actives tree.states))
  unfolding judged_tree lists_fault read_list and_then pick last
  lists-then =
      tested (leb (list_count tree.source_actives) MOST_ITEMS)
      (λ a. tested (leb (list_count tree.states) MOST_ITEMS)
      (λ b. tested (whole_list 2 tree.source_actives)
      (λ c. tested (whole_list 2 tree.states)
      (λ d. rw (r.of_family, r.read, a, b, c, d) (sym sized-then))
      (λ d. rw (r.of_family, r.read, a, b, c, d)))
      (λ c. rw (r.of_family, r.read, a, b, c)))
      (λ b. rw (r.of_family, r.read, a, b)))
      (λ a. rw (r.of_family, r.read, a))

  -- a fault of the lists
  lists-stop : (fault : ℕ) → fault ≡ lists_fault tree.source_actives tree.states → (fault ≡ DONE → ⊥) → judged_tree afi tree ≡ refused fault
  lists-stop fault told h = lists-then ∙ pick-false _ _ _ (ne_eqb _ _ (λ e. h (told ∙ e))) ∙ ap refused (sym told)

  module _ (none : lists_fault tree.source_actives tree.states ≡ DONE) where
    lists-done : judged_tree afi tree
        ≡ pick (tree_addresses_sized r.bits tree.router tree.source_actives tree.states) (and_then (class_in r.bits r.items tree.group) last) (refused FLOW)
    lists-done = lists-then ∙ pick_true _ _ _ (eq-eqb _ _ none)

    -- a group without a class
    group-stop : class_in r.bits r.items tree.group ≡ refused FLOW → judged_tree afi tree ≡ refused FLOW
    group-stop e =
        lists-done
        ∙ tested (tree_addresses_sized r.bits tree.router tree.source_actives tree.states) (λ t. pick_true _ _ _ t ∙ sym (and-stops _ _ _ e)) (λ f. pick-false _ _ _ f)

    -- one with a class
    group-goes : (class : ℕ) → class_in r.bits r.items tree.group ≡ given class → (fault : ℕ) → fault ≡ whole_fault afi r.bits tree.router tree.source_actives tree.states
        → judged_tree afi tree ≡ pick (eqb fault DONE) (given class) (refused fault)
    unfolding whole_fault last
    group-goes class e fault told =
        lists-done
        ∙ tested (tree_addresses_sized r.bits tree.router tree.source_actives tree.states)
        (λ t.
        let same : fault ≡ source_active_fault afi (list_items 2 tree.source_actives) = told ∙ pick_true _ _ _ t in
        pick_true _ _ _ t ∙ sym (and-goes-on _ _ _ _ e refl) ∙ ap (λ (n : ℕ). pick (eqb n DONE) (given class) (refused n)) (sym same))
        (λ f.
        let same : fault ≡ FLOW = told ∙ pick-false _ _ _ f in
        pick-false _ _ _ f ∙ sym (ap (λ (n : ℕ). pick (eqb n DONE) (given class) (refused n)) same ∙ pick-false _ _ _ (ne_eqb FLOW DONE (λ e. omega arith))))

-- a class that waits for the lists: it is told, or refused with FLOW
abbrev Late : Outcome ℕ → Type 0
Late o = (refused FLOW ≡ o) ⊎ ((class : ℕ) × (given class ≡ o))

pub late-class : (class : Result GroupClass Refusal) (flag : Bool) → flag ≡ is_early (result_number class) → flag ≡ false → (o : Outcome ℕ) → class_outcome class ≡ o → Late o
unfolding is_early
late-class (Ok k) flag told h o e = inr (class_number k, e)
late-class (Err x) flag told h o e =
    tested (eqb (refusal_number x) FLOW) (λ t. inl (ap refused (sym (eqb-true _ _ t)) ∙ e))
    (λ f. absurd (opposite (both_true _ _ (ap not (ne_eqb _ _ (refusal_number-not_done x))) (ap not f)) (sym told ∙ h)))

-- the branches of the function
module _ (afi : ℕ) (prefixes router group source_actives states : List ℕ) where
  -- every shared tree that is told so
  abbrev Comes : Outcome ℕ → Type 0
  Comes o = (facts : TreeFacts) → o ≡ judged_tree afi (tree_of prefixes router group facts source_actives states)

  pub tree-early : (class : Result GroupClass Refusal) → class_outcome class ≡ class_by afi prefixes group → (flag : Bool) → flag ≡ is_early (result_number class) → flag ≡ true → Comes (class_outcome class)
  unfolding judged_tree tree_of is_early
  tree-early (Ok k) is flag told h facts = absurd (opposite (both-true-left _ _ (sym told ∙ h)) refl)
  tree-early (Err x) is flag told h facts =
      early-stops afi prefixes _ (refused-early afi prefixes group _ (sym is) (eqb-false _ _ (not-true _ (both-true-right _ _ (sym told ∙ h)))))

  module _ (late : Late (class_by afi prefixes group)) where
    prefixes-read : Read afi prefixes
    prefixes-read = ⊎_elim (λ e. (refused-flow afi prefixes group (sym e)).0) (λ e. (given-read afi prefixes group e.0 (sym e.1)).0) late

    pub tree_lists : (n : ℕ) → n ≡ lists_fault source_actives states → (n ≡ DONE → ⊥) → Comes (refused n)
    unfolding tree_of
    tree_lists n told h facts = sym (lists-stop afi (tree_of prefixes router group facts source_actives states) prefixes-read n told h)

    module _ (whole : DONE ≡ lists_fault source_actives states) where
      pub tree-group : (n : ℕ) → refused n ≡ class_by afi prefixes group → Comes (refused n)
      unfolding tree_of
      tree-group n is facts =
          let flow : n ≡ FLOW = ⊎_elim (λ e. refused-same (is ∙ sym e)) (λ e. absurd (never (sym e.1) (sym is))) late in
          let r = refused-flow afi prefixes group (sym is ∙ ap refused flow) in
          ap refused flow ∙ sym (group-stop afi (tree_of prefixes router group facts source_actives states) r.0 (sym whole) r.1)

  module _ (whole : DONE ≡ lists_fault source_actives states) (class : ℕ) (is : given class ≡ class_by afi prefixes group) where
    by-class : (last : ℕ) → last ≡ whole_fault afi (8 * length group) router source_actives states → Comes (pick (eqb last DONE) (given class) (refused last))
    unfolding tree_of
    by-class last rest facts =
        let u = given-read afi prefixes group class (sym is) in
        let r = u.0 in
        let all = class-sized afi r.bits r.of_family r.items group class u.1 in
        sym (group-goes afi (tree_of prefixes router group facts source_actives states) r (sym whole) class u.1 last (rest ∙ ap (λ (n : ℕ). whole_fault afi n router source_actives states) all))

    pub tree-fault : (n : ℕ) → n ≡ whole_fault afi (8 * length group) router source_actives states → (n ≡ DONE → ⊥) → Comes (refused n)
    tree-fault n rest h facts = sym (pick-false _ _ _ (ne_eqb _ _ h)) ∙ by-class n rest facts

    pub tree-done : DONE ≡ whole_fault afi (8 * length group) router source_actives states → Comes (given class)
    tree-done rest facts = sym (pick_true _ _ _ refl) ∙ by-class DONE rest facts
