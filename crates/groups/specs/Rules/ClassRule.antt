-- What holds of the class of a group with prefixes (request W-209): what a prefix is, when it holds a group, and each answer exactly when. Bits are
-- those of `BitRule`, lists those of `ListRule`. Proved in proofs/ClassRule.antt.
use Rattle.std.specs.Prelude.{ℕ, ◌*◌, ◌≤◌, ◌<◌, ◌≡◌, List, [], ◌∷◌, ◌↔◌, ◌≢◌, ◌⊎◌, length}
use Rattle.octets.specs.Numbers.{SHORT, FAMILY, FLOW, RANGE}
use Rattle.octets.specs.Outcome.{given, refused}
use Rattle.octets.specs.Rules.Answering.{Answering}
use Rattle.octets.specs.Lists.{Among}
use Rattle.lists.specs.LentLists.{Item, list_count, read_list}
use Rattle.nlri.specs.Groups.{Multicast, SourceSpecific, group_of}
use Rattle.groups.specs.Prefixes.{bit_at}
use Rattle.groups.specs.Classes.{prefixes_under, class_by}

-- no bit of an address is set past its first `bits`
abbrev pub ClearPast : (bits : ℕ) → (address : List ℕ) → Type 0
ClearPast bits address = (i : ℕ) → bits ≤ i → i < 8 * length address → bit_at address i ≡ 0

-- a prefix that is good under an AFI: behind its length an address of the family's size, a length that is not over it, and no bit set past the length
pub data Prefix : (afi : ℕ) → List ℕ → Type 0 where
  ipv4 : {bits : ℕ} {address : List ℕ} → length address ≡ 4 → bits ≤ 32 → ClearPast bits address → Prefix 1 (bits ∷ address)
  ipv6 : {bits : ℕ} {address : List ℕ} → length address ≡ 16 → bits ≤ 128 → ClearPast bits address → Prefix 2 (bits ∷ address)

-- prefixes that a call takes: eight at the most, in a whole list, and each good
pub record GoodPrefixes (afi : ℕ) (prefixes : List ℕ) : Type 0 where
  pub few : list_count prefixes ≤ 8
  pub items : List Item
  pub read : read_list 1 prefixes ≡ given items
  pub each : (prefix : List ℕ) → Among (prefix ∷ []) items → Prefix afi prefix

-- why prefixes are refused: RANGE for more than eight, then SHORT, then RANGE for one that is not good
pub data PrefixRefusal (afi : ℕ) (prefixes : List ℕ) : ℕ → Type 0 where
  too_many : 8 < list_count prefixes → PrefixRefusal afi prefixes RANGE
  ends_short : list_count prefixes ≤ 8 → read_list 1 prefixes ≡ refused SHORT → PrefixRefusal afi prefixes SHORT
  bad_prefix : list_count prefixes ≤ 8 → (items : List Item) → read_list 1 prefixes ≡ given items → (prefix : List ℕ) → Among (prefix ∷ []) items → (Prefix afi prefix → ⊥)
      → PrefixRefusal afi prefixes RANGE

-- why prefixes are refused under any AFI, whatever the group: FAMILY first
pub data UnderRefusal (afi : ℕ) (prefixes : List ℕ) : ℕ → Type 0 where
  other_family : afi ≢ 1 → afi ≢ 2 → UnderRefusal afi prefixes FAMILY
  refused_prefixes : {n : ℕ} → (afi ≡ 1) ⊎ (afi ≡ 2) → PrefixRefusal afi prefixes n → UnderRefusal afi prefixes n

-- a prefix of so many bits holds a group: the group has each of them
abbrev pub HoldsGroup : (bits : ℕ) → (address group : List ℕ) → Type 0
HoldsGroup bits address group = (i : ℕ) → i < bits → bit_at address i ≡ bit_at group i

-- a group is SSM: none is given and the standard range holds it, or it is multicast and some prefix given holds it
pub data Specific (afi : ℕ) (prefixes group : List ℕ) : Type 0 where
  by_standard : read_list 1 prefixes ≡ given [] → SourceSpecific afi group → Specific afi prefixes group
  by_prefix : (items : List Item) → read_list 1 prefixes ≡ given items → (bits : ℕ) (address : List ℕ) → Among ((bits ∷ address) ∷ []) items → HoldsGroup bits address group → Multicast afi group
      → Specific afi prefixes group

-- why a group has no class: FAMILY, then its prefixes, then FLOW
pub data ClassRefusal (afi : ℕ) (prefixes group : List ℕ) : ℕ → Type 0 where
  bad_family : afi ≢ 1 → afi ≢ 2 → ClassRefusal afi prefixes group FAMILY
  bad_prefixes : {n : ℕ} → (afi ≡ 1) ⊎ (afi ≡ 2) → PrefixRefusal afi prefixes n → ClassRefusal afi prefixes group n
  bad_group : (afi ≡ 1) ⊎ (afi ≡ 2) → GoodPrefixes afi prefixes → (Multicast afi group → ⊥) → ClassRefusal afi prefixes group FLOW

-- the class of a group: SSM is 2; ASM, of any other multicast group, is 1
pub data ClassTold (afi : ℕ) (prefixes group : List ℕ) : (class : ℕ) → Type 0 where
  ssm : GoodPrefixes afi prefixes → Specific afi prefixes group → ClassTold afi prefixes group 2
  asm : GoodPrefixes afi prefixes → Multicast afi group → (Specific afi prefixes group → ⊥) → ClassTold afi prefixes group 1

-- the class of a group: each number and each class exactly when
pub record ClassRule : Type 0 where
  -- prefixes by themselves
  pub prefixes_refused : (afi : ℕ) (prefixes : List ℕ) (n : ℕ) → (prefixes_under afi prefixes ≡ refused n) ↔ UnderRefusal afi prefixes n
  pub prefixes_given : (afi : ℕ) (prefixes : List ℕ) → ((items : List Item) × (prefixes_under afi prefixes ≡ given items)) ↔ (((afi ≡ 1) ⊎ (afi ≡ 2)) × GoodPrefixes afi prefixes)
  pub refuses : (afi : ℕ) (prefixes group : List ℕ) (n : ℕ) → (class_by afi prefixes group ≡ refused n) ↔ ClassRefusal afi prefixes group n
  pub gives : (afi : ℕ) (prefixes group : List ℕ) (class : ℕ) → (class_by afi prefixes group ≡ given class) ↔ ClassTold afi prefixes group class
  -- as the call answers it: class 0 on a refusal
  pub answers : (afi : ℕ) (prefixes group : List ℕ)
      → Answering (group_of (class_by afi prefixes group)).number (ClassRefusal afi prefixes group)
      (ClassTold afi prefixes group (group_of (class_by afi prefixes group)).group_class) ((group_of (class_by afi prefixes group)).group_class ≡ 0)
