-- What makes a route eligible for a shared tree.
use Prim.Native.Nat.{ℕ}
use mathlib.Core.Path.{◌≡◌, refl, sym, ◌∙◌, ap, ap₂, subst}
use mathlib.Core.Bool.{true, false, not}
use mathlib.Core.List.{List, [], ◌∷◌}
use mathlib.Core.Logic.{◌↔◌, ⊎_elim}
use borrow.Author.Tests.{not-true}
use Rattle.octets.specs.Choice.{both}
use Rattle.octets.specs.Outcome.{Outcome, given, refused, on_outcome}
use Rattle.octets.specs.Order.{same}
use Rattle.octets.specs.Lists.{Among}
use Rattle.octets.proofs.Choice.{opposite, is_false, both-held, both_true, either_true, either_left, either_second}
use Rattle.octets.proofs.Orders.{same-equal, same-of-equal}
use Rattle.lists.specs.LentLists.{Item, item_field, list_items, some_item}
use Rattle.lists.proofs.Items.{some-item-exactly, read-list-given}
use Rattle.nlri.specs.Fields.{Fields}
use Rattle.routes.specs.SharedTree.{SharedTree, read_source_active, is_state, lacks_state, condition_holds}
use Rattle.routes.specs.Rules.SharedTreeRule.{Lent, WithoutState, Condition, is_upstream, is_without_state, is_bidirectional, is_unused}
use Rattle.routes.proofs.Statements.ArgumentRules.{type-exactly}
use Rattle.routes.proofs.Definitions.Matching.SharedTrees.{routes-pairs, states-pairs}

-- what makes a route eligible

module _ (afi : ℕ) (tree : SharedTree) where
  -- a state of this source and the group
  has-state : (lent : Lent tree) (source : List ℕ) → (some_item (is_state source tree.group) (list_items 2 tree.states) ≡ true) ↔ Among (source ∷ (tree.group ∷ [])) lent.states
  unfolding is_state item_field
  has-state lent source =
      let same-items : lent.states ≡ list_items 2 tree.states = read-list-given 2 _ _ lent.states_read in (
        λ h.
            let p = (some-item-exactly _ _).0 h in
            let x : Item = p.0 in
            let m : Among x lent.states = subst (λ (l : List Item). Among x l) (sym same-items) p.1 in
            let b = both-held _ _ p.2 in
            let pair : x ≡ item_field 0 x ∷ (item_field 1 x ∷ []) = states-pairs afi tree lent x m in
            let is : x ≡ source ∷ (tree.group ∷ []) = pair ∙ ap₂ (λ (s g : List ℕ). s ∷ (g ∷ [])) (same-equal _ _ b.0) (same-equal _ _ b.1) in
            subst (λ (z : Item). Among z lent.states) is m,
        λ m. (some-item-exactly _ _).1 (source ∷ (tree.group ∷ []), subst (λ (l : List Item). Among (source ∷ (tree.group ∷ [])) l) same-items m, both_true _ _ (same-of-equal source source refl) (same-of-equal tree.group tree.group refl)),
      )

  lacking : (lent : Lent tree) (x : Item) → Among x lent.source_actives → lacks_state afi tree x ≡ true → WithoutState afi tree
  unfolding lacks_state on_outcome read_source_active
  lacking lent x m = go (read_source_active afi x) refl
    where
      go : (o : Outcome Fields) → read_source_active afi x ≡ o
          → on_outcome (λ number. false)
          (λ f. both (same (item_field 0 x) tree.router) (both (same f.group tree.group) (not (some_item (is_state f.source tree.group) (list_items 2 tree.states))))) o ≡ true
          → WithoutState afi tree
      go (given f) e h =
          let b = both-held _ _ h in
          let c = both-held _ _ b.1 in
          let read = (type-exactly 5 afi (item_field 1 x) f).0 e in
          let is : x ≡ tree.router ∷ (item_field 1 x ∷ []) = routes-pairs afi tree lent x m ∙ ap (λ (o : List ℕ). o ∷ (item_field 1 x ∷ [])) (same-equal _ _ b.0) in
          record {
            lent = lent;
            nlri = item_field 1 x;
            installed = subst (λ (z : Item). Among z lent.source_actives) is m;
            named = record { fields = f; read = read.0; kind = read.1 };
            of_group = same-equal _ _ c.0;
            stateless = λ k. opposite ((has-state lent f.source).1 k) (not-true _ c.1);
          }
      go (refused n) e h = absurd (opposite {b = false} h refl)

  lacks : (w : WithoutState afi tree) → lacks_state afi tree (tree.router ∷ (w.nlri ∷ [])) ≡ true
  unfolding lacks_state on_outcome read_source_active item_field
  lacks w =
      let e = (type-exactly 5 afi w.nlri w.named.fields).1 (w.named.read, w.named.kind) in
      rw e
      (both_true _ _ (same-of-equal tree.router tree.router refl)
      (both_true _ _ (same-of-equal _ _ w.of_group) (ap not (is_false _ (λ h. w.stateless ((has-state w.lent w.named.fields.source).0 h))))))

  lacks-exactly : Lent tree → (some_item (lacks_state afi tree) (list_items 2 tree.source_actives) ≡ true) ↔ WithoutState afi tree
  lacks-exactly lent = (
    λ h. let p = (some-item-exactly _ _).0 h in lacking lent p.0 (subst (λ (l : List Item). Among p.0 l) (sym (read-list-given 2 _ _ lent.routes_read)) p.1) p.2,
    λ w. let x : Item = tree.router ∷ (w.nlri ∷ []) in (some-item-exactly _ _).1 (x, subst (λ (l : List Item). Among x l) (read-list-given 2 _ _ w.lent.routes_read) w.installed, lacks w),
  )

  condition-is : Lent tree → condition_holds afi tree ≡ true → Condition afi tree
  unfolding condition_holds
  condition-is lent h =
      ⊎_elim (λ u. is_upstream u)
      (λ r. ⊎_elim (λ w. is_without_state ((lacks-exactly lent).0 w)) (λ s. ⊎_elim (λ b. is_bidirectional b) (λ n. is_unused n) (either_true _ _ s)) (either_true _ _ r))
      (either_true _ _ h)

  condition-holds : Lent tree → Condition afi tree → condition_holds afi tree ≡ true
  unfolding condition_holds
  condition-holds lent (is_upstream u) = either_left _ _ u
  condition-holds lent (is_without_state w) = either_second _ _ (either_left _ _ ((lacks-exactly lent).1 w))
  condition-holds lent (is_bidirectional b) = either_second _ _ (either_second _ _ (either_left _ _ b))
  condition-holds lent (is_unused n) = either_second _ _ (either_second _ _ (either_second _ _ n))

  pub condition-exactly : Lent tree → (condition_holds afi tree ≡ true) ↔ Condition afi tree
  condition-exactly lent = (condition-is lent, condition-holds lent)
