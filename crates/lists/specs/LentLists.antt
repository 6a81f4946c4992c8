-- A list that a caller lends: a count of two octets, then its items. An item is a fixed number of fields; a field is its size in two octets, and so
-- many octets. `s` is the list from a cursor on.
use Rattle.std.specs.Prelude.{ℕ, zero, suc, ◌+◌, Bool, true, false, not, List, [], ◌∷◌, length, get_or, take, drop, leb}
use Rattle.octets.specs.Numbers.{SHORT}
use Rattle.octets.specs.Choice.{pick, both}
use Rattle.octets.specs.Outcome.{Outcome, given, unless}
use Rattle.octets.specs.Octets.{part, number_in}

-- an item: the octets of each field
abbrev pub Item : Type 0
Item = List (List ℕ)

-- the octets of an item's field; none where it has fewer fields
unfoldable pub item_field : ℕ → Item → List ℕ
item_field i item = get_or item i []

-- the number in the first two octets: a count, or a field's size
unfoldable pub front_number : List ℕ → ℕ
front_number s = number_in (take 2 s) 0

-- the field at the front
unfoldable pub front_field : List ℕ → List ℕ
front_field s = part s 2 (front_number s)

-- what follows it
unfoldable pub after_field : List ℕ → List ℕ
after_field s = drop (2 + front_number s) s

-- it does not run past the list
unfoldable pub whole_field : List ℕ → Bool
whole_field s = leb (2 + front_number s) (length s)

-- the item of so many fields at the front
unfoldable pub front_item : (fields : ℕ) → List ℕ → Item
front_item zero s = []
front_item (suc fields) s = front_field s ∷ front_item fields (after_field s)

-- what follows it
unfoldable pub after_item : (fields : ℕ) → List ℕ → List ℕ
after_item zero s = s
after_item (suc fields) s = after_item fields (after_field s)

-- each of its fields is whole
unfoldable pub whole_item : (fields : ℕ) → List ℕ → Bool
whole_item zero s = true
whole_item (suc fields) s = both (whole_field s) (whole_item fields (after_field s))

-- the first `count` items of so many fields
unfoldable pub front_items : (fields count : ℕ) → List ℕ → List Item
front_items fields zero s = []
front_items fields (suc count) s = front_item fields s ∷ front_items fields count (after_item fields s)

-- each of them is whole
unfoldable pub whole_items : (fields count : ℕ) → List ℕ → Bool
whole_items fields zero s = true
whole_items fields (suc count) s = both (whole_item fields s) (whole_items fields count (after_item fields s))

-- a list's count; 0 where the list is shorter than that
unfoldable pub list_count : List ℕ → ℕ
list_count list = pick (leb 2 (length list)) (front_number list) 0

-- a list holds its count, and so many whole items
unfoldable pub whole_list : (fields : ℕ) → List ℕ → Bool
whole_list fields list = both (leb 2 (length list)) (whole_items fields (list_count list) (drop 2 list))

-- the items of a whole list
unfoldable pub list_items : (fields : ℕ) → List ℕ → List Item
list_items fields list = front_items fields (list_count list) (drop 2 list)

-- a list of items of so many fields, read; SHORT where it ends before its items do
unfoldable pub read_list : (fields : ℕ) → List ℕ → Outcome (List Item)
read_list fields list = unless (whole_list fields list) SHORT (given (list_items fields list))

-- what the first item that meets a test comes to, or `none` where none meets it: a search, a test of every item, the first fault
unfoldable pub first_item : {A : Type 0} → (test : Item → Bool) → (found : Item → A) → (none : A) → List Item → A
first_item test found none [] = none
first_item test found none (x ∷ xs) = pick (test x) (found x) (first_item test found none xs)

-- every item meets a test
unfoldable pub every_item : (Item → Bool) → List Item → Bool
every_item test items = first_item (λ x. not (test x)) (λ x. false) true items

-- some item meets a test
unfoldable pub some_item : (Item → Bool) → List Item → Bool
some_item test items = first_item test (λ x. true) false items
