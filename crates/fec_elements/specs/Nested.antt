-- FEC elements that hold one another (request W-207; document 01, "RFC 6512's opaque types 7 and 8"; RFC 6512, section 3). Nothing here reads.
use Rattle.std.specs.Prelude.{ℕ, suc, ◌≡◌, List, [], ◌∷◌, ◌++◌, length}
use Rattle.octets.specs.Octets.{AllOctets, big_endian}
use Rattle.fec_elements.specs.Fields.{FecFields, encode_fec, WellFormedFec, FecType}

-- what stands in a FEC before its opaque value
pub record Head : Type 0 where
  pub fec_type : ℕ
  pub address_family : ℕ
  pub root : List ℕ

-- an opaque value that holds a FEC: recursive, type 7; VPN-recursive, type 8, with a route distinguisher before the FEC
pub data Holder : Type 0 where
  recursive : Holder
  vpn_recursive : (distinguisher : List ℕ) → Holder

-- a FEC: its opaque value is octets kept as they came, or holds another FEC
pub data Element : Type 0 where
  keeping : Head → List ℕ → Element
  holding : Head → Holder → Element → Element

-- what stands in it before its opaque value
unfoldable pub head_of : Element → Head
head_of (keeping h o) = h
head_of (holding h k e) = h

-- the fields of a FEC with this opaque value
abbrev pub with_opaque : Head → List ℕ → FecFields
with_opaque h o = record { fec_type = h.fec_type; address_family = h.address_family; root = h.root; opaque_value = o }

-- the type of an opaque value that holds a FEC
unfoldable pub holder_type : Holder → ℕ
holder_type recursive = 7
holder_type (vpn_recursive distinguisher) = 8

-- what stands in it before the FEC
unfoldable pub before_held : Holder → List ℕ
before_held recursive = []
before_held (vpn_recursive distinguisher) = distinguisher

-- type 1, length 2, content
unfoldable pub encode_opaque : (type : ℕ) (content : List ℕ) → List ℕ
encode_opaque type content = type ∷ (big_endian 2 (length content) ++ content)

-- the opaque value that holds a FEC of these octets
unfoldable pub encode_holder : Holder → List ℕ → List ℕ
encode_holder k fec = encode_opaque (holder_type k) (before_held k ++ fec)

-- a FEC with all that it holds
unfoldable pub encode_element : Element → List ℕ
encode_element (keeping h o) = encode_fec (with_opaque h o)
encode_element (holding h k e) = encode_fec (with_opaque h (encode_holder k (encode_element e)))

-- an opaque value that opens as one that holds a FEC, whatever follows
pub data Opens : List ℕ → Type 0 where
  seven : {o : List ℕ} → Opens (7 ∷ o)
  eight : {o : List ℕ} → Opens (8 ∷ o)

-- the distinguisher has eight octets
pub data WellFormedHolder : Holder → Type 0 where
  bare : WellFormedHolder recursive
  distinguished : {distinguisher : List ℕ} → length distinguisher ≡ 8 → AllOctets distinguisher → WellFormedHolder (vpn_recursive distinguisher)

-- a FEC of type 6, 7 or 8 with this opaque value is well-formed
pub record WellFormedHead (h : Head) (o : List ℕ) : Type 0 where
  pub typed : FecType h.fec_type
  pub fields : WellFormedFec (with_opaque h o)

-- FECs `depth` deep, well-formed, where the opaque octets of the innermost are as `Innermost` says
pub data WellFormedElement (Innermost : List ℕ → Type 0) : (depth : ℕ) → Element → Type 0 where
  innermost : {h : Head} {o : List ℕ} → WellFormedHead h o → Innermost o → WellFormedElement Innermost 1 (keeping h o)
  around : {depth : ℕ} {h : Head} {k : Holder} {e : Element} → WellFormedHead h (encode_holder k (encode_element e)) → WellFormedHolder k → WellFormedElement Innermost depth e
      → WellFormedElement Innermost (suc depth) (holding h k e)

-- other openings, or none, are kept as octets
abbrev pub KeptOctets : List ℕ → Type 0
KeptOctets o = Opens o → ⊥
