-- The class of a customer group by the standard range (document 01, "Which route a flow takes"; RFC 4607), and how a class is answered.
use Rattle.std.specs.Prelude.{◌≡◌, ℕ, Result, Ok, Err, ◌/◌, ◌≤◌, Bool, List, length, ◌==◌, nat_le, slice_index}
use Rattle.octets.specs.Numbers.{FLOW}
use Rattle.octets.specs.Choice.{pick, both}
use Rattle.octets.specs.Outcome.{Outcome, given, refused, on_outcome, unless, and_then, number_of}
use Rattle.octets.specs.declared.refusal.Refusal.{Refusal}
use Rattle.octets.specs.Refusals.{refusal_number}
use Rattle.nlri.specs.declared.group.Group.{Group}
use Rattle.nlri.specs.declared.group.GroupClass.{GroupClass}
use Rattle.nlri.specs.declared.group.GroupClass.TheVariants.{Asm, Ssm}
use Rattle.nlri.specs.Family.{family_bits}

-- the classes: any-source multicast
abbrev pub ASM : ℕ
ASM = 1

-- source-specific multicast
abbrev pub SSM : ℕ
SSM = 2

-- 224.0.0.0/4, FF00::/8
unfoldable pub multicast : ℕ → List ℕ → Bool
multicast bits g = pick (bits == 32) (both (nat_le 224 (slice_index g 0)) (nat_le (slice_index g 0) 239)) (slice_index g 0 == 255)

-- 232.0.0.0/8, FF3x::/32
unfoldable pub source_specific : ℕ → List ℕ → Bool
source_specific bits g =
    pick (bits == 32) (slice_index g 0 == 232)
    (both (slice_index g 0 == 255) (both (slice_index g 1 / 16 == 3) (both (slice_index g 2 == 0) (slice_index g 3 == 0))))

-- octets that are a group of that range: four or more, of which the first are in it (document 02, W-210). Of an address of the family's size it is
-- `SourceSpecific`
unfoldable pub is_ssm : (bits : ℕ) → List ℕ → Bool
is_ssm bits g = both (nat_le 4 (length g)) (source_specific bits g)

-- multicast as a fact of an address of the AFI's family: 224.0.0.0/4, FF00::/8
pub data Multicast : (afi : ℕ) → List ℕ → Type 0 where
  ipv4 : {g : List ℕ} → length g ≡ 4 → 224 ≤ slice_index g 0 → slice_index g 0 ≤ 239 → Multicast 1 g
  ipv6 : {g : List ℕ} → length g ≡ 16 → slice_index g 0 ≡ 255 → Multicast 2 g

-- source-specific, likewise: 232.0.0.0/8, FF3x::/32
pub data SourceSpecific : (afi : ℕ) → List ℕ → Type 0 where
  ipv4 : {g : List ℕ} → length g ≡ 4 → slice_index g 0 ≡ 232 → SourceSpecific 1 g
  ipv6 : {g : List ℕ} → length g ≡ 16 → slice_index g 0 ≡ 255 → slice_index g 1 / 16 ≡ 3 → slice_index g 2 ≡ 0 → slice_index g 3 ≡ 0 → SourceSpecific 2 g

-- under a family: FLOW for a group of another size or one that is not multicast; any multicast group that is not SSM is ASM
unfoldable pub class_under : ℕ → List ℕ → Outcome ℕ
class_under bits g =
    unless (length g == bits / 8) FLOW
    (unless (multicast bits g) FLOW
    (pick (source_specific bits g) (given SSM) (given ASM)))

-- FAMILY first
unfoldable pub class_of : ℕ → List ℕ → Outcome ℕ
class_of afi g = and_then (family_bits afi) (λ bits. class_under bits g)

-- the number of each class
abbrev pub class_number : GroupClass → ℕ
class_number Asm = ASM
class_number Ssm = SSM

-- a class that is told, by its number, or the number that refuses the group
abbrev pub class_outcome : Result GroupClass Refusal → Outcome ℕ
class_outcome (Ok class) = given (class_number class)
class_outcome (Err refusal) = refused (refusal_number refusal)

-- a class as it is answered: on a refusal the number, and class 0
unfoldable pub group_of : Outcome ℕ → Group
group_of class = record { number = number_of class; group_class = on_outcome (λ number. 0) (λ c. c) class }
