-- Definitions that mirror the inner functions; laws tie them to those in `Classes`.
use Rattle.std.specs.Prelude.{ℕ, ◌*◌, Bool, List, [], ◌∷◌, length, leb, eqb}
use Rattle.octets.specs.Numbers.{RANGE}
use Rattle.octets.specs.Choice.{pick, both}
use Rattle.octets.specs.Outcome.{Outcome, given, unless, and_then}
use Rattle.lists.specs.LentLists.{Item, item_field, list_count, read_list}
use Rattle.nlri.specs.Groups.{ASM, SSM}
use Rattle.groups.specs.Prefixes.{MOST_PREFIXES, holds_group, good_item}

-- no prefix is given: a whole list of no items
unfoldable pub none_given : (prefixes : List ℕ) → Bool
none_given prefixes = both (leb 2 (length prefixes)) (eqb (list_count prefixes) 0)

-- a prefix for addresses of so many octets holds a group: one of another size it does not
unfoldable pub holds_sized : (size : ℕ) → (prefix group : List ℕ) → Bool
holds_sized size prefix group = both (eqb (length group) size) (holds_group prefix group)

-- what the class comes to that goes by prefixes, where it was told by those before them: RANGE at the first that is not good
unfoldable pub class_along : (size : ℕ) → (group : List ℕ) → (class : ℕ) → List Item → Outcome ℕ
class_along size group class [] = given class
class_along size group class (x ∷ xs) = unless (good_item (8 * size) x) RANGE (class_along size group (pick (holds_sized size (item_field 0 x) group) SSM class) xs)

-- the class by a list of prefixes, one at the least, whatever the group is
unfoldable pub class_within : (size : ℕ) → (prefixes group : List ℕ) → Outcome ℕ
class_within size prefixes group =
    unless (leb (list_count prefixes) MOST_PREFIXES) RANGE
    (and_then (read_list 1 prefixes) (λ items. class_along size group ASM items))
