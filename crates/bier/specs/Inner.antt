-- Definitions that mirror the inner functions; laws tie them to those that contracts of the crate cite.
use Rattle.std.specs.Prelude.{ℕ, ◌+◌, ◌≤◌, ◌≡◌, List, [], ◌∷◌, length, get_or, leb, Option, Some, None, Result, Ok, Err}
use Rattle.octets.specs.Numbers.{LONG}
use Rattle.octets.specs.Choice.{pick}
use Rattle.octets.specs.Outcome.{Outcome, given, unless, and_then}
use Rattle.octets.specs.Octets.{part}
use Rattle.octets.specs.Order.{same}
use Rattle.lists.specs.LentLists.{Item, item_field, list_count, read_list}
use Rattle.tunnel.specs.Attribute.{fields_in, read_attribute}
use Rattle.octets.specs.declared.refusal.Refusal.{Refusal}
use Rattle.octets.specs.Refusals.{result_number}
use Rattle.bier.specs.declared.Egress.{Egress}
use Rattle.bier.specs.BitStrings.{with_id}
use Rattle.bier.specs.LeafRoutes.{MOST_LEAVES, read_leaf, bfr_id_in, counting_id}

-- the list as a list: LONG over 1,024, SHORT
unfoldable pub leaf_items : (leaves : List ℕ) → Outcome (List Item)
leaf_items leaves = unless (leb (list_count leaves) MOST_LEAVES) LONG (read_list 2 leaves)

-- the string that items come to, from this string on: the first that is refused decides
unfoldable pub gathered_from : (afi : ℕ) (nlri : List ℕ) (sub_domain set_number : ℕ) (string : List ℕ) → List Item → Outcome (List ℕ)
gathered_from afi nlri sub_domain set_number string [] = given string
gathered_from afi nlri sub_domain set_number string (x ∷ xs) =
    and_then (read_leaf afi x) (λ leaf. gathered_from afi nlri sub_domain set_number (with_id set_number string (counting_id nlri sub_domain leaf)) xs)

-- the key of a Leaf's NLRI: a whole NLRI, straight behind the header
unfoldable pub key_in : (nlri : List ℕ) → List ℕ
key_in nlri = part nlri 2 (2 + get_or nlri 3 0)

-- it lies within the NLRI
pub record KeyWithin (nlri : List ℕ) : Type 0 where
  pub within : 4 + get_or nlri 3 0 ≤ length nlri

-- an attribute that is read
pub record AttributeStands (attribute : List ℕ) : Type 0 where
  pub read : read_attribute attribute ≡ given (fields_in attribute)

-- a Leaf route whose key stands there, and whose attribute is read
pub record LeafStands (x : Item) : Type 0 where
  pub key : KeyWithin (item_field 0 x)
  pub attribute : AttributeStands (item_field 1 x)

-- a BFR-id, 0, which is of no set, where there is none
abbrev pub id_in : Option ℕ → ℕ
id_in None = 0
id_in (Some id) = id

-- the BFR-id by which it counts
unfoldable pub standing_id : (nlri : List ℕ) (sub_domain : ℕ) → Item → ℕ
standing_id nlri sub_domain x = pick (same (key_in (item_field 0 x)) nlri) (bfr_id_in sub_domain (fields_in (item_field 1 x))) 0

-- how many egress routers are in the string that was written; none on a refusal
abbrev pub routers_in : Result ℕ Refusal → ℕ
routers_in (Ok routers) = routers
routers_in (Err refusal) = 0

-- what the call answers
abbrev pub egress_in : Result ℕ Refusal → Egress
egress_in result = record { number = result_number result; routers = routers_in result }
