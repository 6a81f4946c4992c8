-- Strings of 256 bits for the BFR-ids of a set (RFC 8279, as document 02, W-211, has it).
use Rattle.std.specs.Prelude.{ℕ, ◌+◌, ◌-◌, ◌/◌, ◌%◌, ◌^◌, Bool, false, List, [], ◌∷◌, get_or, set, eqb}
use Rattle.std.specs.Int.Bits.{bit_or}
use Rattle.std.specs.Int.Count.{ones}
use Rattle.octets.specs.Choice.{pick}
use Rattle.octets.specs.Order.{zeros}

-- the set of a BFR-id
unfoldable pub set_of : (id : ℕ) → ℕ
set_of id = (id - 1) / 256

-- its position in the set, from 1 on
unfoldable pub position_of : (id : ℕ) → ℕ
position_of id = (id - 1) % 256 + 1

-- a BFR-id has its bit in the string of a set: it is not 0, and the set is its own
unfoldable pub is_of_set : (set_number id : ℕ) → Bool
is_of_set set_number id = pick (eqb id 0) false (eqb (set_of id) set_number)

-- the octet in which a position stands: position 1 is the lowest bit of the last of 32 octets
unfoldable pub octet_of : (position : ℕ) → ℕ
octet_of position = 31 - (position - 1) / 8

-- a string with the bit at a position set
unfoldable pub with_bit : (string : List ℕ) (position : ℕ) → List ℕ
with_bit string position = set string (octet_of position) (bit_or (get_or string (octet_of position) 0) (2 ^ ((position - 1) % 8)))

-- a string with a BFR-id, where that is of the set
unfoldable pub with_id : (set_number : ℕ) (string : List ℕ) (id : ℕ) → List ℕ
with_id set_number string id = pick (is_of_set set_number id) (with_bit string (position_of id)) string

-- with each of these
unfoldable pub with_ids : (set_number : ℕ) (string ids : List ℕ) → List ℕ
with_ids set_number string [] = string
with_ids set_number string (id ∷ ids) = with_ids set_number (with_id set_number string id) ids

-- the string of a set
unfoldable pub string_of : (set_number : ℕ) (ids : List ℕ) → List ℕ
string_of set_number ids = with_ids set_number (zeros 32) ids

-- the ones of octets
unfoldable pub ones_of : List ℕ → ℕ
ones_of [] = 0
ones_of (x ∷ xs) = ones x + ones_of xs
