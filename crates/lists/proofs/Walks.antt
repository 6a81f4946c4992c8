-- Walks over fields: how `after_item` passes those of an item, and `is_whole` tests those of all the items. `t` is the list from the walk's cursor on.
use Prim.Native.Nat.{ℕ, zero, suc, ◌+◌, ◌*◌, ◌-◌, ◌≤◌, ◌<◌}
use mathlib.Core.Path.{◌≡◌, refl, sym, ◌∙◌, ap}
use mathlib.Core.Bool.{true, false}
use mathlib.Core.List.{List, [], ◌∷◌}
use native.Mathlib.Nat.{mul-le-mul}
use native.Mathlib.Omega.{arith}
use borrow.Author.Tests.{leb-true, le-leb, lt-leb}
use lib.ListN.{length, drop}
use Rattle.octets.specs.Choice.{both}
use Rattle.octets.proofs.Choice.{both_left, both-last, both-true-left, both-true-right}
use Rattle.octets.proofs.Tests.{refusals}
use Rattle.lists.specs.LentLists.{after_field, whole_field, front_item, after_item, whole_item, front_items, whole_items, list_count, whole_list}
use Rattle.lists.proofs.Fields.{whole-items-flat, whole-item-less, whole-item-last}

-- one of those that are left, and the others; none left
pub left-some : (left : ℕ) → 0 < left → left ≡ suc (left - 1)
left-some left h = omega arith

pub left-none : (left : ℕ) → left ≤ 0 → left ≡ 0
left-none left h = omega arith

whole-first : (left : ℕ) (t : List ℕ) → 0 < left → whole_item left t ≡ both (whole_field t) (whole_item (left - 1) (after_field t))
unfolding whole_item
whole-first left t more = ap (λ (n : ℕ). whole_item n t) (left-some left more)

-- fields are passed: what follows the item follows those that are left, which are whole
pub record Passing (fields : ℕ) (s : List ℕ) (left : ℕ) (t : List ℕ) : Type 0 where
  pub whole : whole_item left t ≡ true
  pub ends : after_item fields s ≡ after_item left t

pub passing-first : (fields : ℕ) (s : List ℕ) (left : ℕ) → whole_item fields s ≡ true → left ≡ fields → Passing fields s left s
passing-first fields s left w e = rw e (record { whole = w; ends = refl })

module _ {fields : ℕ} {s : List ℕ} {left : ℕ} {t : List ℕ} (p : Passing fields s left t) where
  pub passing-here : 0 < left → whole_field t ≡ true
  passing-here more = both-true-left _ _ (sym (whole-first left t more) ∙ p.whole)

  pub passing-next : (left' : ℕ) (t' : List ℕ) → left' + 1 ≡ left → t' ≡ after_field t → Passing fields s left' t'
  unfolding after_item
  passing-next left' t' less e =
      let h : left' ≡ left - 1 = omega arith in
      rw (h, e)
      (record {
        whole = both-true-right _ _ (sym (whole-first left t (omega arith)) ∙ p.whole);
        ends = p.ends ∙ ap (λ (n : ℕ). after_item n t) (left-some left (omega arith));
      })

  pub passing-last : left ≤ 0 → t ≡ after_item fields s
  unfolding after_item
  passing-last end = sym (p.ends ∙ ap (λ (n : ℕ). after_item n t) (left-none left end))

-- fields are tested: the list is whole where those that are left are
pub record Testing (fields : ℕ) (list : List ℕ) (left : ℕ) (t : List ℕ) : Type 0 where
  pub same : whole_list fields list ≡ whole_item left t

pub testing-none : (fields : ℕ) (list : List ℕ) → length list < 2 → false ≡ whole_list fields list
unfolding whole_list
testing-none fields list h = sym (both_left _ _ (lt-leb _ _ h))

pub testing-first : (fields n : ℕ) (list : List ℕ) (t : List ℕ) → 2 ≤ length list → n ≡ list_count list * fields → t ≡ drop 2 list → Testing fields list n t
unfolding whole_list
testing-first fields n list t h e f = rw (e, f) (record { same = sym (both-last _ _ _ (le-leb _ _ h) (sym (whole-items-flat fields (list_count list) (drop 2 list)))) })

module _ {fields : ℕ} {list : List ℕ} {left : ℕ} {t : List ℕ} (w : Testing fields list left t) where
  pub testing-next : (left' : ℕ) (t' : List ℕ) → left' + 1 ≡ left → whole_field t ≡ true → t' ≡ after_field t → Testing fields list left' t'
  unfolding both
  testing-next left' t' less y e = let h : left' ≡ left - 1 = omega arith in record { same = w.same ∙ whole-first left t (omega arith) ∙ rw (y, h, e) }

  pub testing-stop : 0 < left → whole_field t ≡ false → false ≡ whole_list fields list
  testing-stop more n = sym (w.same ∙ whole-first left t more ∙ both_left _ _ n)

  pub testing-last : left ≤ 0 → true ≡ whole_list fields list
  unfolding whole_item
  testing-last end = sym (w.same ∙ ap (λ (n : ℕ). whole_item n t) (left-none left end))

-- a count times a number of fields fits
pub product-fits : (a b : ℕ) → a < 65536 → b < 65536 → a * b ≤ 65536 * 65536
product-fits a b p q = mul-le-mul {n₂ = 65536} {m₂ = 65536} (omega arith) (omega arith)

pub ruleset walks =
    (refusals, whole-item-less, whole-item-last, passing-first, passing-here, passing-next, passing-last, testing-none, testing-first, testing-next, testing-stop, testing-last)

-- items one after the other: the first of those that are left, and the others; none left
module _ (fields left : ℕ) (t : List ℕ) where
  pub items-some : 0 < left → front_items fields left t ≡ front_item fields t ∷ front_items fields (left - 1) (after_item fields t)
  unfolding front_items
  items-some more = ap (λ (n : ℕ). front_items fields n t) (left-some left more)

  pub items-none : left ≤ 0 → front_items fields left t ≡ []
  unfolding front_items
  items-none end = ap (λ (n : ℕ). front_items fields n t) (left-none left end)

  whole-some : 0 < left → whole_items fields left t ≡ true → both (whole_item fields t) (whole_items fields (left - 1) (after_item fields t)) ≡ true
  unfolding whole_items
  whole-some more w = sym (ap (λ (n : ℕ). whole_items fields n t) (left-some left more)) ∙ w

  pub whole-item-first : 0 < left → whole_items fields left t ≡ true → whole_item fields t ≡ true
  whole-item-first more w = both-true-left _ _ (whole-some more w)

  pub whole-items-rest : 0 < left → whole_items fields left t ≡ true → whole_items fields (left - 1) (after_item fields t) ≡ true
  whole-items-rest more w = both-true-right _ _ (whole-some more w)

-- a list that is whole holds its count, and its items
module _ (fields : ℕ) (list : List ℕ) (w : whole_list fields list ≡ true) where
  pub whole-list-count : 2 ≤ length list
  unfolding whole_list
  whole-list-count = leb-true 2 (length list) (both-true-left _ _ w)

  pub whole-list-items : whole_items fields (list_count list) (drop 2 list) ≡ true
  unfolding whole_list
  whole-list-items = both-true-right _ _ w

-- so many items as the count says
pub items-count : (fields left : ℕ) (t : List ℕ) → length (front_items fields left t) ≡ left
unfolding front_items
items-count fields zero t = refl
items-count fields (suc left) t = ap suc (items-count fields left (after_item fields t))
