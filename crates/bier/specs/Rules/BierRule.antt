-- What holds of a BIER packet's bit string (request W-211), said by what the lent list holds, octet by octet: which Leaf routes count, each bit, how many
-- egress routers there are, each refusal in its order, and what the call answers. Bits are those of `BitRule`, lists those of `ListRule`, NLRIs and
-- attributes those of their own rules. Proved in proofs/BierRule.antt.
use Rattle.std.specs.Prelude.{ℕ, suc, ◌+◌, ◌*◌, ◌-◌, ◌/◌, ◌%◌, ◌≤◌, ◌<◌, ◌≡◌, List, [], ◌∷◌, ◌++◌, ◌↔◌, ◌≢◌, length, get_or, take}
use Rattle.octets.specs.Numbers.{SHORT, TUNNEL, LONG, SPACE}
use Rattle.octets.specs.Outcome.{given, refused}
use Rattle.octets.specs.Outputs.{Changed}
use Rattle.octets.specs.Octets.{AllOctets}
use Rattle.octets.specs.Lists.{Among, Once}
use Rattle.octets.specs.Rules.Answering.{Answering}
use Rattle.lists.specs.LentLists.{Item, list_count, read_list}
use Rattle.groups.specs.Prefixes.{bit_at}
use Rattle.tunnel.specs.Attribute.{AttributeFields, read_attribute}
use Rattle.routes.specs.Rules.ArgumentRules.{NlriOfType, SPmsi, Labelled, TypeRefusal, RouteRefusal}
use Rattle.bier.specs.declared.Egress.{Egress}
use Rattle.bier.specs.BierString.{egress_of}

-- a route that install takes, and whose tunnel type, the second octet, is BIER
pub record BierRoute (afi : ℕ) (nlri attribute : List ℕ) : Type 0 where
  pub named : SPmsi afi nlri
  pub labelled : Labelled attribute
  pub bier : get_or attribute 1 0 ≡ 11

-- a well-formed Leaf route: a Leaf NLRI, of type 4, and an attribute of any tunnel type and label
pub record LeafRoute (afi : ℕ) (nlri attribute : List ℕ) : Type 0 where
  pub named : NlriOfType 4 afi nlri
  pub fields : AttributeFields
  pub read : read_attribute attribute ≡ given fields

-- why one is refused: NLRI reading, then KIND, then attribute reading
pub data LeafRefusal (afi : ℕ) (nlri attribute : List ℕ) : ℕ → Type 0 where
  bad_leaf : {n : ℕ} → TypeRefusal 4 afi nlri n → LeafRefusal afi nlri attribute n
  bad_tunnel : {n : ℕ} → NlriOfType 4 afi nlri → read_attribute attribute ≡ refused n → LeafRefusal afi nlri attribute n

-- every one of these items is a well-formed Leaf route
abbrev pub AllLeaves : (afi : ℕ) → List Item → Type 0
AllLeaves afi items = (nlri attribute : List ℕ) → Among (nlri ∷ (attribute ∷ [])) items → LeafRoute afi nlri attribute

-- the first Leaf route that is refused decides: those before it are well-formed
pub record FirstRefusedLeaf (afi : ℕ) (items : List Item) (n : ℕ) : Type 0 where
  pub earlier : List Item
  pub nlri : List ℕ
  pub attribute : List ℕ
  pub later : List Item
  pub is : items ≡ earlier ++ ((nlri ∷ (attribute ∷ [])) ∷ later)
  pub read : AllLeaves afi earlier
  pub refuses : LeafRefusal afi nlri attribute n

-- Leaf routes that the call takes: 1,024 at the most, in a whole list, and each well-formed
pub record GoodLeaves (afi : ℕ) (leaves : List ℕ) : Type 0 where
  pub few : list_count leaves ≤ 1024
  pub items : List Item
  pub lent : read_list 2 leaves ≡ given items
  pub read : AllLeaves afi items

-- why the call refuses, in order: the route's own install numbers, TUNNEL, LONG, SHORT, each Leaf route in turn, SPACE
pub data BierRefusal (afi : ℕ) (nlri attribute leaves output : List ℕ) : ℕ → Type 0 where
  bad_route : {n : ℕ} → RouteRefusal afi nlri attribute n → BierRefusal afi nlri attribute leaves output n
  other_tunnel : SPmsi afi nlri → Labelled attribute → get_or attribute 1 0 ≢ 11 → BierRefusal afi nlri attribute leaves output TUNNEL
  long_list : BierRoute afi nlri attribute → 1024 < list_count leaves → BierRefusal afi nlri attribute leaves output LONG
  short_list : BierRoute afi nlri attribute → list_count leaves ≤ 1024 → read_list 2 leaves ≡ refused SHORT → BierRefusal afi nlri attribute leaves output SHORT
  bad_leaves : {n : ℕ} → BierRoute afi nlri attribute → list_count leaves ≤ 1024 → (items : List Item) → read_list 2 leaves ≡ given items → FirstRefusedLeaf afi items n
      → BierRefusal afi nlri attribute leaves output n
  no_space : BierRoute afi nlri attribute → GoodLeaves afi leaves → length output < 32 → BierRefusal afi nlri attribute leaves output SPACE

-- a Leaf route counts by a BFR-id: its key is the route's NLRI, its tunnel type BIER, its sub-domain, the first octet of the identifier, the route's, and
-- its BFR-id, the next two, not 0
pub record CountingLeaf (afi : ℕ) (nlri attribute leaf_nlri leaf_attribute : List ℕ) (id : ℕ) : Type 0 where
  pub named : NlriOfType 4 afi leaf_nlri
  pub key : named.fields.key ≡ nlri
  pub bier : get_or leaf_attribute 1 0 ≡ 11
  pub sub_domain : get_or leaf_attribute 5 0 ≡ get_or attribute 5 0
  pub bfr_id : id ≡ 256 * get_or leaf_attribute 6 0 + get_or leaf_attribute 7 0
  pub some : id ≢ 0

-- some Leaf route of the list counts by it
pub record CountedId (afi : ℕ) (nlri attribute : List ℕ) (items : List Item) (id : ℕ) : Type 0 where
  pub leaf_nlri : List ℕ
  pub leaf_attribute : List ℕ
  pub among : Among (leaf_nlri ∷ (leaf_attribute ∷ [])) items
  pub counts : CountingLeaf afi nlri attribute leaf_nlri leaf_attribute id

-- the bit at a position of a string, from 1 on: position 256 is the first bit, position 1 the last
abbrev pub bit_at_position : (string : List ℕ) → (position : ℕ) → ℕ
bit_at_position string position = bit_at string (256 - position)

-- the string of a set, by the BFR-ids that count: 32 octets, in which a bit is set exactly when some counting BFR-id of that set has its position
pub record StringFor (Counting : ℕ → Type 0) (set_number : ℕ) (string : List ℕ) : Type 0 where
  pub size : length string ≡ 32
  pub octets : AllOctets string
  pub bits : (position : ℕ) → 1 ≤ position → position ≤ 256
      → (bit_at_position string position ≡ 1) ↔ ((id : ℕ) × Counting id × ((id - 1) / 256 ≡ set_number) × ((id - 1) % 256 + 1 ≡ position))

-- how many distinct BFR-ids of a set count: a list of them, none twice, has this length
pub record DistinctIds (Counting : ℕ → Type 0) (set_number number : ℕ) : Type 0 where
  pub ids : List ℕ
  pub once : Once ids
  pub members : (id : ℕ) → Among id ids ↔ (Counting id × ((id - 1) / 256 ≡ set_number))
  pub counted : number ≡ length ids

-- of so many bits at the front of a string, this many are ones
pub data Ones (string : List ℕ) : (bits number : ℕ) → Type 0 where
  none : Ones string 0 0
  clear : {bits number : ℕ} → Ones string bits number → bit_at string bits ≡ 0 → Ones string (suc bits) number
  one : {bits number : ℕ} → Ones string bits number → bit_at string bits ≡ 1 → Ones string (suc bits) (suc number)

-- the call is done: the string at the front of the output, every octet past it as it was; the egress routers told are the distinct BFR-ids of the set
-- that count, and the ones of the string
pub record BierDone (afi : ℕ) (nlri attribute : List ℕ) (set_number : ℕ) (leaves output : List ℕ) (due : Changed Egress) : Type 0 where
  pub route : BierRoute afi nlri attribute
  pub lent : GoodLeaves afi leaves
  pub room : 32 ≤ length output
  pub string : StringFor (CountedId afi nlri attribute lent.items) set_number (take 32 due.octets)
  pub past : (i : ℕ) → 32 ≤ i → get_or due.octets i 0 ≡ get_or output i 0
  pub size : length due.octets ≡ length output
  pub routers : DistinctIds (CountedId afi nlri attribute lent.items) set_number due.answer.routers
  pub ones : Ones (take 32 due.octets) 256 due.answer.routers

-- a refusal tells no router and changes no octet
pub record BierNothing (output : List ℕ) (due : Changed Egress) : Type 0 where
  pub routers : due.answer.routers ≡ 0
  pub untouched : due.octets ≡ output

-- the call, and what its parts are
pub record BierRule : Type 0 where
  -- each answer exactly when, and what it leaves
  pub answers : (afi : ℕ) (nlri attribute : List ℕ) (set_number : ℕ) (leaves output : List ℕ)
      → let due : Changed Egress = egress_of afi nlri attribute set_number leaves output in
      Answering due.answer.number (BierRefusal afi nlri attribute leaves output) (BierDone afi nlri attribute set_number leaves output due) (BierNothing output due)
  -- the octets of a string by positions: eight to an octet from the last octet on, of which the lowest bit has the lowest; `k` octets stand behind it
  pub positions : (string : List ℕ) (k : ℕ) → AllOctets string → k ≤ 31
      → get_or string (31 - k) 0
      ≡ 128 * bit_at_position string (8 * k + 8) + 64 * bit_at_position string (8 * k + 7) + 32 * bit_at_position string (8 * k + 6) + 16 * bit_at_position string (8 * k + 5)
      + 8 * bit_at_position string (8 * k + 4) + 4 * bit_at_position string (8 * k + 3) + 2 * bit_at_position string (8 * k + 2) + bit_at_position string (8 * k + 1)
  -- no other octets are the string of a set
  pub only : (afi : ℕ) (nlri attribute : List ℕ) (items : List Item) (set_number : ℕ) (s t : List ℕ)
      → StringFor (CountedId afi nlri attribute items) set_number s → StringFor (CountedId afi nlri attribute items) set_number t → s ≡ t
  -- and every list of the distinct BFR-ids has the same length
  pub every : (afi : ℕ) (nlri attribute : List ℕ) (items : List Item) (set_number m n : ℕ)
      → DistinctIds (CountedId afi nlri attribute items) set_number m → DistinctIds (CountedId afi nlri attribute items) set_number n → m ≡ n
