-- These definitions mirror inner functions of src/, and no public contract cites them; laws tie them to those in `Reading`.
use Rattle.std.specs.Prelude.{ℕ, ◌+◌, ◌-◌, ◌≤◌, ◌≡◌, Bool, true, false, List, Option, MatchOption, ltb, leb, eqb, length, get_or, drop}
use Rattle.octets.specs.Choice.{both}
use Rattle.octets.specs.Octets.{part, number_in}
use Rattle.fec_elements.specs.declared.Standing.{Standing}
use Rattle.fec_elements.specs.declared.shape.RootFamily.{RootFamily}
use Rattle.fec_elements.specs.declared.shape.RootFamily.TheVariants.{Ipv4, Ipv6}
use Rattle.fec_elements.specs.Fields.{Suits}
use Rattle.fec_elements.specs.declared.nested.Holder.{Holder}
use Rattle.fec_elements.specs.declared.nested.Holder.TheVariants.{Recursive, VpnRecursive}
use Rattle.std.specs.Borrow.{Bor}
use Rattle.fec_elements.specs.Reading.{must_fill, opens, held_start, holds_fec}

-- from `start` on as many octets as the opaque length before it says
unfoldable pub ends_from : List ℕ → (start : ℕ) → Bool
ends_from i start = both (leb start (length i)) (eqb (start + number_in (part i (start - 2) 2) 0) (length i))

-- a FEC whose opaque value starts at `start` lies within the octets, and nothing follows it where nothing may
pub record EndsWell (p : Standing) (start : ℕ) (s : List ℕ) : Type 0 where
  pub starts : start ≤ length s
  pub ends : start + number_in (part s (start - 2) 2) 0 ≤ length s
  pub filled : both (ltb (start + number_in (part s (start - 2) 2) 0) (length s)) (must_fill p) ≡ false

-- the octet of a root's family, the size of such a root, and where the opaque value behind it starts
abbrev pub family_number : RootFamily → ℕ
family_number Ipv4 = 1
family_number Ipv6 = 2

abbrev pub root_size : RootFamily → ℕ
root_size Ipv4 = 4
root_size Ipv6 = 16

abbrev pub start_after : RootFamily → ℕ
start_after Ipv4 = 10
start_after Ipv6 = 22

-- address family and address length are those of such a root
abbrev pub HasRoot : List ℕ → RootFamily → Type 0
HasRoot s family = (number_in (part s 1 2) 0 ≡ family_number family) × (get_or s 3 0 ≡ root_size family)

-- the root's family, where there is one that the address length suits
abbrev pub IsRootFamily : List ℕ → Option RootFamily → Type 0
IsRootFamily s found = MatchOption found (Suits (number_in (part s 1 2) 0) (get_or s 3 0) → ⊥) (HasRoot s)

-- where the FEC starts that an opaque value holds
abbrev pub start_in : Holder → ℕ
start_in Recursive = 3
start_in VpnRecursive = 11

-- what an opaque value opens as
abbrev pub IsHolder : List ℕ → Option Holder → Type 0
IsHolder s found = MatchOption found (opens s ≡ false) (λ holder. (opens s ≡ true) × (start_in holder ≡ held_start s))

-- the FEC that it holds
abbrev pub Holds : List ℕ → Option (Bor (List ℕ)) → Type 0
Holds s found = MatchOption found (holds_fec s ≡ false) (λ fec. (holds_fec s ≡ true) × (fec.now ≡ drop (held_start s) s))
