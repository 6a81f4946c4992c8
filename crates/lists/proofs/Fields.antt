-- Laws of fields and items.
use Prim.Native.Nat.{ℕ, zero, suc, ◌+◌, ◌*◌, ◌-◌, ◌≤◌, ◌<◌}
use mathlib.Core.Path.{◌≡◌, refl, sym, ◌∙◌, ap}
use mathlib.Core.Bool.{true, false}
use mathlib.Core.List.{List}
use native.Mathlib.Nat.{suc-mul}
use native.Mathlib.Omega.{arith}
use borrow.Author.Tests.{leb-true, leb-false, le-leb, lt-leb}
use lib.ListN.{length, drop, length-drop}
use lib.Seq.{drop-drop}
use lib.Dec.{leb}
use Rattle.octets.specs.Choice.{both}
use Rattle.octets.specs.Octets.{part, number_in}
use Rattle.octets.proofs.Choice.{tested, both-true-left, both-true-right, both-assoc}
use Rattle.lists.specs.LentLists.{item_field, front_number, front_field, after_field, whole_field, front_item, after_item, whole_item, whole_items}

-- the first field, whose size is the number in the first two octets
module _ (s : List ℕ) where
  pub whole-field-within : whole_field s ≡ true → 2 + number_in (part s 0 2) 0 ≤ length s
  unfolding whole_field front_number part
  whole-field-within h = leb-true (2 + front_number s) (length s) h

  pub whole-field-none : length s < 2 → false ≡ whole_field s
  unfolding whole_field
  whole-field-none h = sym (lt-leb (2 + front_number s) (length s) (omega arith))

  module _ (n : ℕ) (size : n ≡ number_in (part s 0 2) 0) where
    pub whole-field-is : 2 ≤ length s → leb n (length s - 2) ≡ whole_field s
    unfolding whole_field front_number part
    whole-field-is h = rw (← size) (shifted n (length s) h)
      where
        shifted : (m l : ℕ) → 2 ≤ l → leb m (l - 2) ≡ leb (2 + m) l
        shifted m l h =
            tested (leb m (l - 2))
            (λ t. t ∙ sym (le-leb (2 + m) l (omega (arith, leb-true m (l - 2) t))))
            (λ f. f ∙ sym (lt-leb (2 + m) l (omega (arith, leb-false m (l - 2) f))))

    pub after-field-is : (r : List ℕ) → r ≡ drop (2 + n) s → r ≡ after_field s
    unfolding after_field front_number part
    after-field-is r e = e ∙ rw size

    pub front-field-is : (r : List ℕ) → r ≡ part s 2 n → r ≡ front_field s
    unfolding front_field front_number part
    front-field-is r e = e ∙ rw size

-- the field at a cursor of a list, by the list itself
module _ (list : List ℕ) (at : ℕ) where
  pub whole-field-inside : whole_field (drop at list) ≡ true → at + (2 + number_in (part list at 2) 0) ≤ length list
  unfolding whole_field front_number part
  whole-field-inside h = omega (arith, leb-true (2 + front_number (drop at list)) (length (drop at list)) h, length-drop at list)

  pub after-field-at : (n : ℕ) → n ≡ number_in (part list at 2) 0 → drop (at + (2 + n)) list ≡ after_field (drop at list)
  unfolding after_field front_number part
  after-field-at n e = rw e (sym (drop-drop _ at list))

-- a field of an item stands after those before it
item-field : (i fields : ℕ) (s : List ℕ) → i < fields → item_field i (front_item fields s) ≡ front_field (after_item i s)
unfolding item_field front_item after_item
item-field i zero s h = absurd (omega arith)
item-field zero (suc fields) s h = refl
item-field (suc i) (suc fields) s h = item-field i fields (after_field s) (omega arith)

pub item-field-at : (i : ℕ) (s t r : List ℕ) → r ≡ front_field t → t ≡ after_item i s → r ≡ item_field i (front_item (i + 1) s)
item-field-at i s t r p q = p ∙ ap front_field q ∙ sym (item-field i (i + 1) s (omega arith))

-- a field of an item by those that the item has up to it
pub item-field-of : (i fields : ℕ) (s r : List ℕ) → r ≡ item_field i (front_item (i + 1) s) → i < fields → r ≡ item_field i (front_item fields s)
item-field-of i fields s r e h = e ∙ item-field i (i + 1) s (omega arith) ∙ sym (item-field i fields s h)

-- items one after the other: so many fields, and then so many more
whole-item-add : (k m : ℕ) (s : List ℕ) → whole_item (k + m) s ≡ both (whole_item k s) (whole_item m (after_item k s))
unfolding whole_item after_item both
whole-item-add zero m s = let e : 0 + m ≡ m = omega arith in rw e
whole-item-add (suc k) m s = let e : suc k + m ≡ suc (k + m) = omega arith in rw (e, whole-item-add k m (after_field s)) (sym (both-assoc (whole_field s) _ _))

pub whole-items-flat : (fields count : ℕ) (s : List ℕ) → whole_items fields count s ≡ whole_item (count * fields) s
unfolding whole_items whole_item
whole-items-flat fields zero s = let e : 0 * fields ≡ 0 = omega arith in rw e
whole-items-flat fields (suc count) s =
    let e : suc count * fields ≡ fields + count * fields = rw suc-mul (omega arith) in
    rw (e, whole-item-add fields (count * fields) s, whole-items-flat fields count (after_item fields s))

-- the first fields of a whole item are whole, and so is the one after them
pub whole-item-less : (i k : ℕ) (s : List ℕ) → whole_item k s ≡ true → i ≤ k → whole_item i s ≡ true
whole-item-less i k s w h = both-true-left _ _ (sym (whole-item-add i (k - i) s) ∙ ap (λ (n : ℕ). whole_item n s) (sum i k h) ∙ w)
  where
    sum : (a b : ℕ) → a ≤ b → a + (b - a) ≡ b
    sum a b l = omega arith

pub whole-item-last : (i : ℕ) (s t : List ℕ) → whole_item (i + 1) s ≡ true → t ≡ after_item i s → whole_field t ≡ true
unfolding whole_item
whole-item-last i s t w e = rw e (both-true-left _ _ (both-true-right _ _ (sym (whole-item-add i 1 s) ∙ w)))

-- a whole item of a field or more starts within the list
pub whole-item-within : (list : List ℕ) (at i : ℕ) → whole_item (i + 1) (drop at list) ≡ true → at ≤ length list
unfolding whole_item
whole-item-within list at i w =
    let one : whole_item 1 (drop at list) ≡ true = whole-item-less 1 (i + 1) (drop at list) w (omega arith) in
    let h = whole-field-within (drop at list) (both-true-left _ _ one) in
    omega (arith, length-drop at list)

pub ruleset fields = (whole-field-within, whole-field-none, whole-field-is, after-field-is, front-field-is)
