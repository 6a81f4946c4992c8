-- Loops over the items of a whole list by how many are left and where the next of them stands, for a caller that counts where an item stands. (A loop
-- over an iterator is Along.) Such a loop is `first_item asked (λ x. true) false` of `list_items FIELDS list`; its measure is `left`, and its invariant
--     Going FIELDS (list_items FIELDS list) (first_item asked (λ x. true) false) (first_item asked (λ x. true) false) left (drop at list)
-- A turn that passes an item is `going_next`, the item that is found `going-stop`, and the end `going-last`; most needs are `search going`.
use Prim.Native.Nat.{ℕ, ◌-◌, ◌≤◌, ◌<◌}
use mathlib.Core.Path.{◌≡◌, refl, sym, ◌∙◌, ap}
use mathlib.Core.Bool.{Bool, true, false}
use mathlib.Core.List.{List, [], ◌∷◌}
use lib.ListN.{drop}
use Rattle.octets.specs.Choice.{both}
use Rattle.octets.proofs.Choice.{pick_true, pick-false, both-true-left, both-true-right, flag-not, not_is}
use Rattle.octets.proofs.Orders.{same-is, same-on, same-off}
use Rattle.octets.proofs.Tests.{refusals}
use Rattle.lists.specs.LentLists.{Item, front_item, after_item, whole_item, front_items, whole_items, list_count, whole_list, list_items, first_item}
use Rattle.lists.proofs.Fields.{item-field-of, whole-item-less}
use Rattle.lists.proofs.Walks.{left-some, left-none}

-- so many whole items are left at the cursor, and all the items come to what those that are left come to
pub record Going {A : Type 0} (fields : ℕ) (items : List Item) (all rest : List Item → A) (left : ℕ) (t : List ℕ) : Type 0 where
  pub whole : whole_items fields left t ≡ true
  pub same : all items ≡ rest (front_items fields left t)

pub going-first : {A : Type 0} (fields : ℕ) (list : List ℕ) (all : List Item → A) (left : ℕ) → whole_list fields list ≡ true → left ≡ list_count list
    → Going fields (list_items fields list) all all left (drop 2 list)
unfolding whole_list list_items
going-first fields list all left w e = rw e (record { whole = both-true-right _ _ w; same = refl })

-- a loop that starts at a cursor, over the items that are left there
pub going-from : {A : Type 0} (fields : ℕ) (all : List Item → A) (left : ℕ) (t : List ℕ) → whole_items fields left t ≡ true → Going fields (front_items fields left t) all all left t
going-from fields all left t w = record { whole = w; same = refl }

module _ {A : Type 0} {fields : ℕ} {items : List Item} {all rest : List Item → A} {left : ℕ} {t : List ℕ} (going : Going fields items all rest left t) where
  pub whole-first : 0 < left → both (whole_item fields t) (whole_items fields (left - 1) (after_item fields t)) ≡ true
  unfolding whole_items
  whole-first more = sym (ap (λ (n : ℕ). whole_items fields n t) (left-some left more)) ∙ going.whole

  pub going-here : 0 < left → whole_item fields t ≡ true
  going-here more = both-true-left _ _ (whole-first more)

  -- a turn: the item at the cursor, and those after it
  pub first-left : 0 < left → all items ≡ rest (front_item fields t ∷ front_items fields (left - 1) (after_item fields t))
  unfolding front_items
  first-left more = going.same ∙ ap (λ (n : ℕ). rest (front_items fields n t)) (left-some left more)

  pub none_left : left ≤ 0 → all items ≡ rest []
  unfolding front_items
  none_left end = going.same ∙ ap (λ (n : ℕ). rest (front_items fields n t)) (left-none left end)

  pub turned : (rest' : List Item → A) (t' : List ℕ) → 0 < left → t' ≡ after_item fields t
      → rest (front_item fields t ∷ front_items fields (left - 1) (after_item fields t)) ≡ rest' (front_items fields (left - 1) (after_item fields t)) → Going fields items all rest' (left - 1) t'
  turned rest' t' more e f = rw e (record { whole = both-true-right _ _ (whole-first more); same = first-left more ∙ f })

-- a loop that ends at the first item that meets a test
module _ {A : Type 0} (test : Item → Bool) (found : Item → A) (none : A) {fields : ℕ} {items : List Item} {left : ℕ} {t : List ℕ}
    (going : Going fields items (first_item test found none) (first_item test found none) left t) where
  pub going_next : 0 < left → test (front_item fields t) ≡ false → (t' : List ℕ) → t' ≡ after_item fields t → Going fields items (first_item test found none) (first_item test found none) (left - 1) t'
  unfolding first_item
  going_next more f t' e = turned going (first_item test found none) t' more e (pick-false _ _ _ f)

  pub going-stop : (r : A) → 0 < left → test (front_item fields t) ≡ true → r ≡ found (front_item fields t) → r ≡ first_item test found none items
  unfolding first_item
  going-stop r more f e = e ∙ sym (first-left going more ∙ pick_true _ _ _ f)

  pub going-last : left ≤ 0 → none ≡ first_item test found none items
  unfolding first_item
  going-last end = sym (none_left going end)

pub ruleset going =
    (refusals, whole-item-less, item-field-of, going-first, going-here, going_next, going-stop, going-last, flag-not, not_is, same-is, same-on, same-off)
