-- Leaf routes as they are lent, each an item of its NLRI and its attribute: how they are read, and by which BFR-id one counts (request W-211).
use Rattle.std.specs.Prelude.{ℕ, List, [], ◌∷◌, leb, eqb}
use Rattle.octets.specs.Numbers.{LONG}
use Rattle.octets.specs.Choice.{pick, both}
use Rattle.octets.specs.Outcome.{Outcome, given, unless, and_then}
use Rattle.octets.specs.Order.{same}
use Rattle.lists.specs.LentLists.{Item, item_field, list_count, read_list}
use Rattle.nlri.specs.Reading.{read_of_type}
use Rattle.tunnel.specs.Attribute.{AttributeFields, read_attribute}
use Rattle.tunnel.specs.Bier.{bier_in}

-- the most Leaf routes
abbrev pub MOST_LEAVES : ℕ
MOST_LEAVES = 1024

-- a Leaf route that was read: its key, and the fields of its attribute
pub record Leaf : Type 0 where
  pub key : List ℕ
  pub attribute : AttributeFields

-- NLRI reading with no octets after it, KIND where it is not type 4, attribute reading; its label is not looked at
unfoldable pub read_leaf : (afi : ℕ) → Item → Outcome Leaf
read_leaf afi x =
    and_then (read_of_type 4 afi (item_field 0 x)) (λ f.
    and_then (read_attribute (item_field 1 x)) (λ g. given (record { key = f.key; attribute = g })))

-- each of them in turn, whether it counts or not
unfoldable pub read_leaves : (afi : ℕ) → List Item → Outcome (List Leaf)
read_leaves afi [] = given []
read_leaves afi (x ∷ xs) = and_then (read_leaf afi x) (λ leaf. and_then (read_leaves afi xs) (λ leaves. given (leaf ∷ leaves)))

-- LONG over 1,024, SHORT, then each of them
unfoldable pub read_leaf_list : (afi : ℕ) → (leaves : List ℕ) → Outcome (List Leaf)
read_leaf_list afi leaves =
    unless (leb (list_count leaves) MOST_LEAVES) LONG
    (and_then (read_list 2 leaves) (λ items. read_leaves afi items))

-- the BFR-id of a tunnel that is BIER in this sub-domain, 0 of any other
unfoldable pub bfr_id_in : (sub_domain : ℕ) → AttributeFields → ℕ
bfr_id_in sub_domain f =
    pick (both (eqb f.tunnel_type 11) (eqb (bier_in f.identifier).sub_domain sub_domain)) (bier_in f.identifier).bfr_id 0

-- the BFR-id by which a Leaf counts for a route with this NLRI in this sub-domain; 0, which is of no set, where it does not
unfoldable pub counting_id : (nlri : List ℕ) (sub_domain : ℕ) → Leaf → ℕ
counting_id nlri sub_domain leaf = pick (same leaf.key nlri) (bfr_id_in sub_domain leaf.attribute) 0

-- those of Leaf routes
unfoldable pub counting_ids : (nlri : List ℕ) (sub_domain : ℕ) → List Leaf → List ℕ
counting_ids nlri sub_domain [] = []
counting_ids nlri sub_domain (leaf ∷ leaves) = counting_id nlri sub_domain leaf ∷ counting_ids nlri sub_domain leaves
