-- An mLDP FEC element on the wire, its opaque value as octets (document 01, "PMSI Tunnel attribute"; RFC 6388, section 2.2). Nothing here reads.
use Rattle.std.specs.Prelude.{ℕ, ◌<◌, List, ◌∷◌, ◌++◌, length}
use Rattle.octets.specs.Octets.{AllOctets, big_endian}

-- the fields of a FEC
pub record FecFields : Type 0 where
  pub fec_type : ℕ
  pub address_family : ℕ
  pub root : List ℕ
  pub opaque_value : List ℕ

-- type 1, address family 2, address length 1, root, opaque length 2, opaque octets
unfoldable pub encode_fec : FecFields → List ℕ
encode_fec f = f.fec_type ∷ (big_endian 2 f.address_family ++ (length f.root ∷ (f.root ++ (big_endian 2 (length f.opaque_value) ++ f.opaque_value))))

-- address family 1 with addresses of 4 octets, or 2 with addresses of 16
pub data Suits : (address_family size : ℕ) → Type 0 where
  ipv4 : Suits 1 4
  ipv6 : Suits 2 16

-- what fields must be to stand on the wire; which types there may be is said where a FEC stands
pub record WellFormedFec (f : FecFields) : Type 0 where
  pub type_fits : f.fec_type < 256
  pub root_suits : Suits f.address_family (length f.root)
  pub root_octets : AllOctets f.root
  pub opaque_fits : length f.opaque_value < 65536
  pub opaque_octets : AllOctets f.opaque_value

-- the types of mLDP FECs: P2MP, MP2MP upstream, MP2MP downstream
pub data FecType : ℕ → Type 0 where
  p2mp : FecType 6
  mp2mp_up : FecType 7
  mp2mp_down : FecType 8
