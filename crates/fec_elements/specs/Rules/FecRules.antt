-- What holds of the definitions as a whole, in the notions of document 01 and of request W-207. Stated here, proved in proofs/.
use Rattle.std.specs.Prelude.{ℕ, suc, ◌+◌, ◌≤◌, ◌<◌, ◌≡◌, true, ◌↔◌, ◌⊎◌, List, [], ◌++◌, length, get_or}
use Rattle.octets.specs.Numbers.{LENGTH, IDENT, DEEP}
use Rattle.octets.specs.Outcome.{given, refused}
use Rattle.octets.specs.Octets.{AllOctets, part, number_in}
use Rattle.fec_elements.specs.declared.Standing.{Standing}
use Rattle.fec_elements.specs.declared.Standing.TheVariants.{InBody, Lent, Filling}
use Rattle.fec_elements.specs.Fields.{FecFields, encode_fec, Suits, WellFormedFec, FecType}
use Rattle.fec_elements.specs.Nested.{Head, Holder, Element, head_of, with_opaque, encode_holder, encode_element, Opens, WellFormedHolder, WellFormedHead, WellFormedElement, KeptOctets}
use Rattle.fec_elements.specs.Reading.{fec_in, whole_fec, read_fec}

-- A FEC whose opaque value is not read: octets are one exactly when they are the encoding of a well-formed FEC, and the fields where they stand are that FEC's.
pub record FecRule : Type 0 where
  pub accepted : (i : List ℕ) (f : FecFields) → AllOctets i → ((whole_fec i ≡ true) × (fec_in i ≡ f)) ↔ (WellFormedFec f × (i ≡ encode_fec f))

-- the families that the root of a FEC may have by how it stands
pub data OfFamily : Standing → (address_family : ℕ) → Type 0 where
  in_body : {afi : ℕ} → OfFamily (InBody afi) afi
  lent : {afi : ℕ} → OfFamily (Lent afi) afi
  filling : {address_family : ℕ} → OfFamily Filling address_family

-- what may follow it: in a body anything, else nothing
pub data Followed : Standing → List ℕ → Type 0 where
  anything : {afi : ℕ} {rest : List ℕ} → Followed (InBody afi) rest
  nothing_lent : {afi : ℕ} → Followed (Lent afi) []
  nothing : Followed Filling []

-- the number where the octets end inside it
pub data Ended : Standing → ℕ → Type 0 where
  inside : {afi : ℕ} → Ended (InBody afi) LENGTH
  inside_lent : {afi : ℕ} → Ended (Lent afi) IDENT
  inside_filling : Ended Filling IDENT

-- s begins with the encoding of FECs `depth` deep of `size` octets, well-formed but for the innermost opaque octets, which are as `Innermost` says
pub record BeginsFec (Innermost : List ℕ → Type 0) (depth : ℕ) (p : Standing) (s : List ℕ) (size : ℕ) : Type 0 where
  pub element : Element
  pub rest : List ℕ
  pub well_formed : WellFormedElement Innermost depth element
  pub octets : s ≡ encode_element element ++ rest
  pub sized : size ≡ length (encode_element element)
  pub family : OfFamily p (head_of element).address_family
  pub followed : Followed p rest

-- octets that begin with a FEC whose opaque value is o, whatever stands in that
pub record FecAt (p : Standing) (s o : List ℕ) : Type 0 where
  pub head : Head
  pub rest : List ℕ
  pub well_formed : WellFormedHead head o
  pub octets : s ≡ encode_fec (with_opaque head o) ++ rest
  pub family : OfFamily p head.address_family
  pub followed : Followed p rest

-- the type is there and right
pub record TypeStands (s : List ℕ) : Type 0 where
  pub there : 1 ≤ length s
  pub right : FecType (get_or s 0 0)

-- and the address family after it
pub record FamilyStands (p : Standing) (s : List ℕ) : Type 0 where
  pub before : TypeStands s
  pub there : 3 ≤ length s
  pub right : OfFamily p (number_in (part s 1 2) 0)

-- and the address length after that
pub record SizeStands (p : Standing) (s : List ℕ) : Type 0 where
  pub before : FamilyStands p s
  pub there : 4 ≤ length s
  pub right : Suits (number_in (part s 1 2) 0) (get_or s 3 0)

-- the opaque length, which stands after the root
abbrev pub opaque_length : List ℕ → ℕ
opaque_length s = number_in (part s (4 + get_or s 3 0) 2) 0

-- the first fault of a FEC up to its opaque value: the octets end inside a field, or a whole field is wrong
pub data HeaderFault (p : Standing) (s : List ℕ) : ℕ → Type 0 where
  type_ends : {n : ℕ} → length s < 1 → Ended p n → HeaderFault p s n
  bad_type : 1 ≤ length s → (FecType (get_or s 0 0) → ⊥) → HeaderFault p s IDENT
  family_ends : {n : ℕ} → TypeStands s → length s < 3 → Ended p n → HeaderFault p s n
  bad_family : TypeStands s → 3 ≤ length s → (OfFamily p (number_in (part s 1 2) 0) → ⊥) → HeaderFault p s IDENT
  size_ends : {n : ℕ} → FamilyStands p s → length s < 4 → Ended p n → HeaderFault p s n
  bad_size : FamilyStands p s → 4 ≤ length s → (Suits (number_in (part s 1 2) 0) (get_or s 3 0) → ⊥) → HeaderFault p s IDENT
  -- inside the root or the opaque length
  root_ends : {n : ℕ} → SizeStands p s → length s < 6 + get_or s 3 0 → Ended p n → HeaderFault p s n
  opaque_ends : {n : ℕ} → SizeStands p s → 6 + get_or s 3 0 ≤ length s → length s < 6 + get_or s 3 0 + opaque_length s → Ended p n → HeaderFault p s n
  -- octets follow the opaque value where nothing may
  overfull : SizeStands p s → 6 + get_or s 3 0 + opaque_length s < length s → ((rest : List ℕ) → Followed p rest → rest ≡ []) → HeaderFault p s IDENT

-- the first fault from left to right of a FEC inside which FECs may stand `depth` deep
pub data FirstFault : (depth : ℕ) → Standing → List ℕ → ℕ → Type 0 where
  header : {depth : ℕ} {p : Standing} {s : List ℕ} {n : ℕ} → HeaderFault p s n → FirstFault depth p s n
  -- an opaque type 7 or 8 where no FEC may stand, whatever follows it
  too_deep : {p : Standing} {s o : List ℕ} → FecAt p s o → Opens o → FirstFault 0 p s DEEP
  -- one that is cut, or whose length is not the opaque value's
  bad_holder : {depth : ℕ} {p : Standing} {s o : List ℕ} → FecAt p s o → Opens o → ((k : Holder) (fec : List ℕ) → WellFormedHolder k → o ≡ encode_holder k fec → ⊥) → FirstFault (suc depth) p s IDENT
  -- a fault of the FEC held
  held : {depth : ℕ} {p : Standing} {s fec : List ℕ} {n : ℕ} (k : Holder) → WellFormedHolder k → FecAt p s (encode_holder k fec) → FirstFault depth Filling fec n → FirstFault (suc depth) p s n

-- the same of a FEC inside which FECs may stand three deep, so that four stand in one another
abbrev pub NestedFault : Standing → List ℕ → ℕ → Type 0
NestedFault p s n = FirstFault 3 p s n

-- FECs that hold one another, to four deep.
pub record NestedFecRule : Type 0 where
  -- octets are accepted exactly when they begin with the encoding of FECs at most four deep that stand so, and the size told is that encoding's
  pub accepted : (p : Standing) (s : List ℕ) (size : ℕ) → AllOctets s → (read_fec p s ≡ given size) ↔ ((depth : ℕ) × (depth ≤ 4) × BeginsFec KeptOctets depth p s size)
  -- lent to be written they are accepted exactly when they are one such encoding, of the AFI's family
  pub lent : (afi : ℕ) (s : List ℕ) → AllOctets s
      → (read_fec (Lent afi) s ≡ given (length s)) ↔ ((depth : ℕ) × (depth ≤ 4) × (e : Element) × WellFormedElement KeptOctets depth e × ((head_of e).address_family ≡ afi) × (s ≡ encode_element e))
  -- any others are refused by the number of the first fault from left to right
  pub exactly : (p : Standing) (s : List ℕ) (n : ℕ) → AllOctets s → (read_fec p s ≡ refused n) ↔ NestedFault p s n
  -- DEEP exactly where four FECs are well-formed but that the opaque value of the fourth opens as one that holds a FEC
  pub deep : (p : Standing) (s : List ℕ) → AllOctets s → (read_fec p s ≡ refused DEEP) ↔ ((size : ℕ) × BeginsFec Opens 4 p s size)
  -- there are no other numbers
  pub numbers : (p : Standing) (s : List ℕ) (n : ℕ) → read_fec p s ≡ refused n → (n ≡ LENGTH) ⊎ (n ≡ IDENT) ⊎ (n ≡ DEEP)
  -- an encoding is octets
  pub octets : (depth : ℕ) (e : Element) → WellFormedElement KeptOctets depth e → AllOctets (encode_element e)
