-- Which lists are accepted and which are SHORT, said by the encoding of items. Proved in proofs/ListRule.antt.
use Rattle.std.specs.Prelude.{ℕ, ◌<◌, ◌≡◌, List, ◌++◌, ◌↔◌, ◌⊎◌, length}
use Rattle.octets.specs.Numbers.{SHORT}
use Rattle.octets.specs.Outcome.{given, refused}
use Rattle.octets.specs.Octets.{AllOctets, big_endian}
use Rattle.lists.specs.LentLists.{Item, list_count, read_list}
use Rattle.lists.specs.Encoding.{encode_list, Listable}

-- a list begins with the encoding of items of so many fields, whatever follows it
pub record Begins (fields : ℕ) (list : List ℕ) (items : List Item) : Type 0 where
  pub listable : Listable fields items
  pub rest : List ℕ
  pub is : list ≡ encode_list items ++ rest

-- a list ends before its items do: with octets that are missing, one at the least, it is the encoding of items of so many fields
pub record CutShort (fields : ℕ) (list : List ℕ) : Type 0 where
  pub items : List Item
  pub listable : Listable fields items
  pub missing : List ℕ
  pub octets : AllOctets missing
  pub some : 0 < length missing
  pub is : list ++ missing ≡ encode_list items

-- lists of items, whatever the number of fields
pub record ListRule : Type 0 where
  -- a list is accepted exactly when it begins with the encoding of as many items as its count, and it gives those items
  pub accepted : (fields : ℕ) (list : List ℕ) (items : List Item) → AllOctets list → (read_list fields list ≡ given items) ↔ Begins fields list items
  -- it is SHORT exactly when it ends before them, and gets no other number
  pub exactly : (fields : ℕ) (list : List ℕ) (n : ℕ) → AllOctets list → (read_list fields list ≡ refused n) ↔ ((n ≡ SHORT) × CutShort fields list)
  -- a list of octets is one or the other, and never both
  pub decided : (fields : ℕ) (list : List ℕ) → AllOctets list → ((items : List Item) × Begins fields list items) ⊎ CutShort fields list
  pub never : (fields : ℕ) (list : List ℕ) (items : List Item) → Begins fields list items → CutShort fields list → ⊥
  -- the count is that of the items encoded, also where the list ends before they do
  pub count : (n : ℕ) (rest : List ℕ) → n < 65536 → list_count (big_endian 2 n ++ rest) ≡ n
  -- and 0 in a list that is shorter than a count
  pub none : (list : List ℕ) → length list < 2 → list_count list ≡ 0
