-- The encoding of items as a list.
use Rattle.std.specs.Prelude.{ℕ, ◌<◌, ◌≡◌, List, [], ◌∷◌, ◌++◌, length}
use Rattle.octets.specs.Octets.{big_endian}
use Rattle.lists.specs.LentLists.{Item}

-- a field: its size in two octets, and its octets
unfoldable pub encode_item_field : List ℕ → List ℕ
encode_item_field f = big_endian 2 (length f) ++ f

-- an item: its fields one after the other
unfoldable pub encode_item : Item → List ℕ
encode_item [] = []
encode_item (f ∷ fs) = encode_item_field f ++ encode_item fs

-- items one after the other
unfoldable pub encode_items : List Item → List ℕ
encode_items [] = []
encode_items (x ∷ xs) = encode_item x ++ encode_items xs

-- a list: its count in two octets, and its items
unfoldable pub encode_list : List Item → List ℕ
encode_list items = big_endian 2 (length items) ++ encode_items items

-- an item of fields whose sizes fit two octets
pub data FieldsFit : Item → Type 0 where
  none : FieldsFit []
  one : {f : List ℕ} {fs : Item} → length f < 65536 → FieldsFit fs → FieldsFit (f ∷ fs)

-- items of so many such fields each
pub data ItemsFit (fields : ℕ) : List Item → Type 0 where
  none : ItemsFit fields []
  one : {x : Item} {xs : List Item} → length x ≡ fields → FieldsFit x → ItemsFit fields xs → ItemsFit fields (x ∷ xs)

-- items that a list can hold: so many fields each, and a count and sizes that fit two octets
pub record Listable (fields : ℕ) (items : List Item) : Type 0 where
  pub count : length items < 65536
  pub each : ItemsFit fields items
