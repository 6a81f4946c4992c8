-- Prefixes that a caller gives for its own ranges of SSM (request W-209). A prefix is a length in bits and an address; as it is lent, an item of one
-- field: the length in one octet, then the address.
use Rattle.std.specs.Prelude.{ℕ, zero, suc, ◌+◌, ◌*◌, ◌-◌, ◌/◌, ◌%◌, ◌^◌, Bool, true, List, length, get_or, drop, leb, eqb}
use Rattle.octets.specs.Numbers.{RANGE}
use Rattle.octets.specs.Choice.{both}
use Rattle.octets.specs.Outcome.{Outcome, given, unless, and_then}
use Rattle.lists.specs.LentLists.{Item, item_field, list_count, read_list, every_item}

-- the most prefixes
abbrev pub MOST_PREFIXES : ℕ
MOST_PREFIXES = 8

-- bit `i` of octets, from 0: the most significant of the first octet is the first
unfoldable pub bit_at : List ℕ → ℕ → ℕ
bit_at s i = (get_or s (i / 8) 0 / 2 ^ (7 - i % 8)) % 2

-- the first so many bits are the same
unfoldable pub same_bits : (count : ℕ) → List ℕ → List ℕ → Bool
same_bits zero a b = true
same_bits (suc n) a b = both (same_bits n a b) (eqb (bit_at a n) (bit_at b n))

-- so many bits from `at` on are clear
unfoldable pub clear_bits : (count at : ℕ) → List ℕ → Bool
clear_bits zero at s = true
clear_bits (suc n) at s = both (clear_bits n at s) (eqb (bit_at s (at + n)) 0)

-- a prefix's length
abbrev pub prefix_length : List ℕ → ℕ
prefix_length prefix = get_or prefix 0 0

-- and its address
abbrev pub prefix_address : List ℕ → List ℕ
prefix_address prefix = drop 1 prefix

-- behind the length an address of so many bits, a length that is not over it, and no bit set past the length
unfoldable pub good_prefix : (bits : ℕ) → List ℕ → Bool
good_prefix bits prefix =
    both (eqb (8 * length prefix) (8 + bits))
    (both (leb (prefix_length prefix) bits)
    (clear_bits (bits - prefix_length prefix) (prefix_length prefix) (prefix_address prefix)))

-- a prefix holds a group: their first bits are the same, as many as the prefix's length
unfoldable pub holds_group : (prefix group : List ℕ) → Bool
holds_group prefix group = same_bits (prefix_length prefix) (prefix_address prefix) group

-- the same of an item: it is a good prefix
abbrev pub good_item : (bits : ℕ) → Item → Bool
good_item bits item = good_prefix bits (item_field 0 item)

-- and it holds a group
abbrev pub item_holds : (group : List ℕ) → Item → Bool
item_holds group item = holds_group (item_field 0 item) group

-- the prefixes under a family: RANGE for more than eight, SHORT, RANGE for one that is not good
unfoldable pub read_prefixes : (bits : ℕ) → (prefixes : List ℕ) → Outcome (List Item)
read_prefixes bits prefixes =
    unless (leb (list_count prefixes) MOST_PREFIXES) RANGE
    (and_then (read_list 1 prefixes) (λ items.
    unless (every_item (good_item bits) items) RANGE (given items)))
