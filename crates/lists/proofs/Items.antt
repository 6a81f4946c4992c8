-- Laws of `first_item`, `every_item`, `some_item` and `read_list`, by what is among the items.
use Prim.Native.Nat.{ℕ, zero, suc}
use mathlib.Core.Path.{◌≡◌, refl, sym, ◌∙◌, ap, subst}
use mathlib.Core.Bool.{Bool, true, false, not}
use mathlib.Core.List.{List, [], ◌∷◌, ◌++◌}
use mathlib.Core.Logic.{◌↔◌, ◌⊎◌, inl, inr, ⊎_elim}
use borrow.Author.Tests.{not-false}
use lib.ListN.{length}
use Rattle.octets.specs.Numbers.{SHORT}
use Rattle.octets.specs.Outcome.{given, refused}
use Rattle.octets.specs.Lists.{Among, first, later}
use Rattle.octets.proofs.Choice.{opposite, pick_true, pick-false, pick-case, tested}
use Rattle.octets.proofs.Outcome.{given-same, given-unless, refuses-unless}
use Rattle.octets.proofs.Among.{among_none, among_cases, among-each}
use Rattle.lists.specs.LentLists.{Item, item_field, front_item, after_item, front_items, list_count, list_items, read_list, first_item, every_item, some_item}

-- the first item that meets a test: those before it do not
pub record FirstMet (test : Item → Bool) (items : List Item) (x : Item) : Type 0 where
  pub before : List Item
  pub after : List Item
  pub is : items ≡ before ++ (x ∷ after)
  pub unmet : (y : Item) → Among y before → test y ≡ false
  pub met : test x ≡ true

module _ {A : Type 0} (test : Item → Bool) (found : Item → A) (none : A) where
  pub first-item-met : (before : List Item) (x : Item) (after : List Item) → ((y : Item) → Among y before → test y ≡ false) → test x ≡ true
      → first_item test found none (before ++ (x ∷ after)) ≡ found x
  unfolding first_item
  first-item-met [] x after h t = pick_true _ _ _ t
  first-item-met (y ∷ before) x after h t = pick-false _ _ _ (h y (first refl)) ∙ first-item-met before x after (λ z m. h z (later m)) t

  pub first-item-unmet : (items : List Item) → ((x : Item) → Among x items → test x ≡ false) → first_item test found none items ≡ none
  unfolding first_item
  first-item-unmet [] h = refl
  first-item-unmet (x ∷ xs) h = pick-false _ _ _ (h x (first refl)) ∙ first-item-unmet xs (λ y m. h y (later m))

  -- what holds of both cases holds of the whole
  pub first-item-case : (P : A → Type 0) → P none → ((x : Item) → test x ≡ true → P (found x)) → (items : List Item) → P (first_item test found none items)
  unfolding first_item
  first-item-case P n f [] = n
  first-item-case P n f (x ∷ xs) = pick-case P _ _ _ (f x) (λ other. first-item-case P n f xs)

-- some item meets a test, and then there is a first one; or none does
module _ (test : Item → Bool) where
  pub first-met : (items : List Item) → ((x : Item) × FirstMet test items x) ⊎ ((x : Item) → Among x items → test x ≡ false)
  first-met [] = inr (λ x m. absurd (among_none m))
  first-met (x ∷ xs) =
      tested (test x)
      (λ t. inl (x, record { before = []; after = xs; is = refl; unmet = λ y m. absurd (among_none m); met = t }))
      (λ f. ⊎_elim
      (λ p. let m = p.1 in inl (p.0, record { before = x ∷ m.before; after = m.after; is = ap (λ (l : List Item). x ∷ l) m.is; unmet = among-each (λ y. test y ≡ false) f m.unmet; met = m.met }))
      (λ n. inr (among-each (λ y. test y ≡ false) f n))
      (first-met xs))

  some-item-of : {x : Item} {items : List Item} → Among x items → test x ≡ true → some_item test items ≡ true
  unfolding some_item first_item
  some-item-of {x} (first {y} e) t = pick_true _ _ _ (subst (λ (z : Item). test z ≡ true) e t)
  some-item-of (later {y} m) t = tested (test y) (λ u. pick_true _ _ _ u) (λ u. pick-false _ _ _ u ∙ some-item-of m t)

  some-item-met : (items : List Item) → some_item test items ≡ true → (x : Item) × Among x items × (test x ≡ true)
  unfolding some_item first_item
  some-item-met [] h = absurd (opposite {b = false} h refl)
  some-item-met (x ∷ xs) h =
      tested (test x) (λ t. (x, first refl, t)) (λ f. let p = some-item-met xs (sym (pick-false _ _ _ f) ∙ h) in (p.0, later p.1, p.2))

  pub some-item-exactly : (items : List Item) → (some_item test items ≡ true) ↔ ((x : Item) × Among x items × (test x ≡ true))
  some-item-exactly items = (some-item-met items, λ p. some-item-of p.1 p.2)

  every-item-each : (items : List Item) → every_item test items ≡ true → (x : Item) → Among x items → test x ≡ true
  unfolding every_item first_item
  every-item-each [] h = λ x m. absurd (among_none m)
  every-item-each (x ∷ xs) h =
      tested (not (test x)) (λ n. absurd (opposite h (pick_true _ _ _ n))) (λ y. among-each (λ z. test z ≡ true) (not-false _ y) (every-item-each xs (sym (pick-false _ _ _ y) ∙ h)))

  pub every-item-exactly : (items : List Item) → (every_item test items ≡ true) ↔ ((x : Item) → Among x items → test x ≡ true)
  unfolding every_item
  every-item-exactly items = (every-item-each items, λ h. first-item-unmet _ _ _ items (λ x m. ap not (h x m)))

-- a list that is read gives its items, and one that is refused is SHORT
pub read-list-given : (fields : ℕ) (list : List ℕ) (items : List Item) → read_list fields list ≡ given items → items ≡ list_items fields list
unfolding read_list
read-list-given fields list items e = sym (given-same (given-unless _ _ _ _ e).1)

pub read-list-refused : (fields : ℕ) (list : List ℕ) (n : ℕ) → read_list fields list ≡ refused n → n ≡ SHORT
unfolding read_list
read-list-refused fields list n e = (refuses-unless SHORT n _ _ e).1

-- items of two fields each
abbrev pub Pairs : List Item → Type 0
Pairs items = (x : Item) → Among x items → x ≡ item_field 0 x ∷ (item_field 1 x ∷ [])

-- what holds of each pair of fields holds of each item
pub pairs-each : (P : Item → Type 0) (items : List Item) → Pairs items → ((a b : List ℕ) → Among (a ∷ (b ∷ [])) items → P (a ∷ (b ∷ []))) → (x : Item) → Among x items → P x
pairs-each P items pairs h x m = let e = pairs x m in subst P (sym e) (h (item_field 0 x) (item_field 1 x) (subst (λ (z : Item). Among z items) e m))

-- every item meets a test exactly when each pair is what the test says
pub every-pair : (test : Item → Bool) (Is : List ℕ → List ℕ → Type 0) → ((a b : List ℕ) → (test (a ∷ (b ∷ [])) ≡ true) ↔ Is a b) → (items : List Item) → Pairs items
    → (every_item test items ≡ true) ↔ ((a b : List ℕ) → Among (a ∷ (b ∷ [])) items → Is a b)
every-pair test Is says items pairs = (
  λ h a b m. (says a b).0 ((every-item-exactly test items).0 h (a ∷ (b ∷ [])) m),
  λ h. (every-item-exactly test items).1 (pairs-each (λ x. test x ≡ true) items pairs (λ a b m. (says a b).1 (h a b m))),
)

-- a list of items of two fields gives such items
front-items-pairs : (count : ℕ) (s : List ℕ) → Pairs (front_items 2 count s)
unfolding front_items front_item item_field
front-items-pairs zero s x m = absurd (among_none m)
front-items-pairs (suc count) s x m = ⊎_elim (λ e. rw e) (front-items-pairs count (after_item 2 s) x) (among_cases m)

pub read-list-pairs : (list : List ℕ) (items : List Item) → read_list 2 list ≡ given items → Pairs items
unfolding list_items
read-list-pairs list items e x m = front-items-pairs (list_count list) _ x (subst (Among x) (read-list-given 2 list items e) m)

-- a list has as many items as it says

front-items-count : (fields count : ℕ) (s : List ℕ) → length (front_items fields count s) ≡ count
unfolding front_items
front-items-count fields zero s = refl
front-items-count fields (suc count) s = ap suc (front-items-count fields count _)

pub list-items-count : (fields : ℕ) (list : List ℕ) → length (list_items fields list) ≡ list_count list
unfolding list_items
list-items-count fields list = front-items-count fields (list_count list) _
