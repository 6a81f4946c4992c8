-- Families and address lengths (document 01, "NLRI on the wire").
use Rattle.std.specs.Prelude.{◌≡◌, ℕ, Bool, Result, Ok, Err, MatchResult, ◌==◌}
use Rattle.octets.specs.Numbers.{FAMILY}
use Rattle.octets.specs.Choice.{pick, both, either}
use Rattle.octets.specs.Outcome.{Outcome, given, refused}
use Rattle.octets.specs.declared.refusal.Refusal.{Refusal}
use Rattle.octets.specs.declared.refusal.Refusal.TheVariants as refusal
use Rattle.nlri.specs.declared.family.AddressFamily.{AddressFamily}
use Rattle.nlri.specs.declared.family.AddressFamily.TheVariants.{Ipv4, Ipv6}
use Rattle.octets.specs.Refusals.{refusal_number}
use Rattle.nlri.specs.declared.address.AddressKind.{AddressKind}

-- the AFI of each family
abbrev pub afi_of : AddressFamily → ℕ
afi_of Ipv4 = 1
afi_of Ipv6 = 2

-- the family of an AFI, or FAMILY for any other AFI
abbrev pub FamilyTold : ℕ → Result AddressFamily Refusal → Type 0
FamilyTold afi told = MatchResult told (λ family. afi_of family ≡ afi) (λ r. (r ≡ refusal.Family) × ((afi ≡ 1 → ⊥) × (afi ≡ 2 → ⊥)))

-- the bits of the family's addresses: 32 for AFI 1, 128 for AFI 2; FAMILY for any other AFI
unfoldable pub family_bits : ℕ → Outcome ℕ
family_bits afi = pick (afi == 1) (given 32) (pick (afi == 2) (given 128) (refused FAMILY))

-- a family that is told: the bits of its addresses, or the number that refuses the AFI
abbrev pub family_outcome : Result AddressKind Refusal → Outcome ℕ
family_outcome (Ok kind) = given kind.bits
family_outcome (Err refusal) = refused (refusal_number refusal)

-- the address family of the family's roots, as a FEC has it (RFC 7441, section 3): 1 for addresses of 32 bits, 2 for those of 128
unfoldable pub root_family : (bits : ℕ) → ℕ
root_family bits = pick (bits == 32) 1 2

-- a source or group length is the family's; in type 3 only it may be 0, the wildcard
unfoldable pub allowed : (bits type octet : ℕ) → Bool
allowed bits type octet = either (octet == bits) (both (type == 3) (octet == 0))

-- an originator has 4 or 16 octets, independent of the family
unfoldable pub is_originator_size : ℕ → Bool
is_originator_size size = either (size == 4) (size == 16)
