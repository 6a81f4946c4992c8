-- Definitions that mirror the inner functions; laws tie them to those of `routes`.
use Rattle.std.specs.Prelude.{ℕ, ◌+◌, ◌*◌, ◌-◌, ◌≤◌, ◌≡◌, Bool, true, not, List, length, drop, leb, eqb}
use Rattle.octets.specs.Numbers.{DONE, SHORT, LONG, FLOW}
use Rattle.octets.specs.Choice.{pick, both}
use Rattle.octets.specs.Octets.{part, low_first}
use Rattle.octets.specs.Order.{same}
use Rattle.lists.specs.LentLists.{Item, item_field, front_items, whole_items, list_count, whole_list, list_items, every_item, some_item}
use Rattle.nlri.specs.Family.{is_originator_size}
use Rattle.nlri.specs.Standing.{group_end, standing}
use Rattle.routes.specs.SharedTree.{MOST_ITEMS, originator_sized, state_sized, source_active_fault, is_state}

-- the number of the two lists as lists
unfoldable pub lists_fault : (source_actives states : List ℕ) → ℕ
lists_fault source_actives states =
    pick (leb (list_count source_actives) MOST_ITEMS)
    (pick (leb (list_count states) MOST_ITEMS)
    (pick (whole_list 2 source_actives)
    (pick (whole_list 2 states) DONE SHORT) SHORT) LONG) LONG

-- the addresses but for the group asked have their sizes
unfoldable pub tree_addresses_sized : (bits : ℕ) → (router source_actives states : List ℕ) → Bool
tree_addresses_sized bits router source_actives states =
    both (is_originator_size (length router))
    (both (every_item originator_sized (list_items 2 source_actives))
    (every_item (state_sized bits) (list_items 2 states)))

-- the number once both lists are whole: of the addresses but for the group asked, then of each Source Active route in turn
unfoldable pub whole_fault : (afi bits : ℕ) → (router source_actives states : List ℕ) → ℕ
whole_fault afi bits router source_actives states = pick (tree_addresses_sized bits router source_actives states) (source_active_fault afi (list_items 2 source_actives)) FLOW

-- the number of a group's class stands before the lists': it is neither DONE nor FLOW
unfoldable pub is_early : (number : ℕ) → Bool
is_early number = both (not (eqb number DONE)) (not (eqb number FLOW))

-- source and group of a Source Active NLRI lie within it
pub record FieldsWithin (nlri : List ℕ) : Type 0 where
  pub within : group_end nlri ≤ length nlri

-- those of an item do
unfoldable pub fields_within : Item → Bool
fields_within x = leb (group_end (item_field 1 x)) (length (item_field 1 x))

-- the last four octets of a source that has as many, the least significant first
pub record Ending (source : List ℕ) (r : ℕ) : Type 0 where
  pub is : 4 ≤ length source → r ≡ low_first (part source (length source - 4) 4)

-- where the last `left` of so many states start, behind the list's count: source and group of each have `size` octets
unfoldable pub start_of_last : (size count left : ℕ) → ℕ
start_of_last size count left = 2 + (count - left) * (4 + 2 * size)

-- they stand there; an address has four octets or more
pub record StatesLeft (size count left : ℕ) (states : List ℕ) : Type 0 where
  pub among : left ≤ count
  pub whole : whole_items 2 left (drop (start_of_last size count left) states) ≡ true
  pub sized : every_item (state_sized (8 * size)) (front_items 2 left (drop (start_of_last size count left) states)) ≡ true
  pub least : 4 ≤ size

-- fewer of them: those in between are no state of a source that ends so
pub record Passed (size count ending left left' : ℕ) (states : List ℕ) : Type 0 where
  pub fewer : left' ≤ left
  pub stand : StatesLeft size count left' states
  pub alike : (source group : List ℕ) → Ending source ending
      → some_item (is_state source group) (front_items 2 left (drop (start_of_last size count left) states)) ≡ some_item (is_state source group) (front_items 2 left' (drop (start_of_last size count left') states))

-- a list of states whose source and group have so many octets, four or more
pub record StatesSized (size : ℕ) (states : List ℕ) : Type 0 where
  pub whole : whole_list 2 states ≡ true
  pub sized : every_item (state_sized (8 * size)) (list_items 2 states) ≡ true
  pub least : 4 ≤ size

-- both lists are whole, the states have addresses of so many octets, and in each Source Active NLRI source and group stand
pub record ListsJudged (size : ℕ) (source_actives states : List ℕ) : Type 0 where
  pub listed : whole_list 2 source_actives ≡ true
  pub held : StatesSized size states
  pub stand : every_item fields_within (list_items 2 source_actives) ≡ true

-- a Source Active NLRI is for the group, and no state has its source and group
unfoldable pub without_state : (group states nlri : List ℕ) → Bool
without_state group states nlri = both (same (standing nlri).group group) (not (some_item (is_state (standing nlri).source group) (list_items 2 states)))

-- an item's is, and its originator is the PE
unfoldable pub without_state_at : (router group states : List ℕ) → Item → Bool
without_state_at router group states x = both (same (item_field 0 x) router) (without_state group states (item_field 1 x))
