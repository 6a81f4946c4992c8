-- An NLRI's fields, their encoding, and which are well-formed (document 01, "NLRI on the wire"; document 02, W-207, W-210). Nothing here reads or writes.
use Rattle.std.specs.Prelude.{◌≡◌, ℕ, ◌*◌, ◌^◌, ◌<◌, ◌≤◌, Bool, true, List, [], ◌∷◌, ◌++◌, length, ◌==◌}
use Rattle.octets.specs.Choice.{pick, both}
use Rattle.octets.specs.Outcome.{given}
use Rattle.octets.specs.Octets.{AllOctets, big_endian}
use Rattle.fec_elements.specs.Nested.{Element, head_of, encode_element, WellFormedElement, KeptOctets}
use Rattle.nlri.specs.Family.{family_bits, root_family, allowed, is_originator_size}
use Rattle.nlri.specs.Groups.{is_ssm, SourceSpecific}
use Rattle.nlri.specs.Bodies.{FieldKind, distinguisher, source_as, source, group, originator, key, fec, KnownType, body_of, has_field}

-- the fields of an NLRI as lists of octets; a wildcard is no octets, and so is a field that the type lacks
pub record Fields : Type 0 where
  pub type : ℕ
  pub distinguisher : List ℕ
  pub source_as : ℕ
  pub source : List ℕ
  pub group : List ℕ
  pub originator : List ℕ
  pub key : List ℕ
  pub fec : List ℕ

-- a source or group: a length octet in bits, then that many bits
unfoldable pub encode_address : List ℕ → List ℕ
encode_address a = 8 * length a ∷ a

-- a field on the wire
unfoldable pub encode_field : Fields → FieldKind → List ℕ
encode_field f distinguisher = f.distinguisher
encode_field f source_as = big_endian 4 f.source_as
encode_field f source = encode_address f.source
encode_field f group = encode_address f.group
encode_field f originator = f.originator
encode_field f key = f.key
encode_field f fec = f.fec

-- the fields of a body, one after the other
unfoldable pub encode_body : Fields → List FieldKind → List ℕ
encode_body f [] = []
encode_body f (k ∷ body) = encode_field f k ++ encode_body f body

-- Route Type (1), Length (1), then the body
unfoldable pub encode_nlri : Fields → List ℕ
encode_nlri f = f.type ∷ length (encode_body f (body_of f.type)) ∷ encode_body f (body_of f.type)

-- octets that are one FEC, which may hold others, at most four deep, its root of the family's addresses (RFC 7441, section 3)
pub record FecOf (bits : ℕ) (octets : List ℕ) : Type 0 where
  pub element : Element
  pub depth : ℕ
  pub shallow : depth ≤ 4
  pub well_formed : WellFormedElement KeptOctets depth element
  pub family : (head_of element).address_family ≡ root_family bits
  pub encoded : octets ≡ encode_element element

-- a field of the size that the type and the family's bits allow, its octets octets; of a key, what `Key` says of it in that type
abbrev pub WellFormedField : (ℕ → List ℕ → Type 0) → ℕ → Fields → FieldKind → Type 0
WellFormedField Key bits f distinguisher = (length f.distinguisher ≡ 8) × AllOctets f.distinguisher
WellFormedField Key bits f source_as = f.source_as < 2 ^ 32
WellFormedField Key bits f source = (allowed bits f.type (8 * length f.source) ≡ true) × AllOctets f.source
WellFormedField Key bits f group = (allowed bits f.type (8 * length f.group) ≡ true) × AllOctets f.group
WellFormedField Key bits f originator = (is_originator_size (length f.originator) ≡ true) × AllOctets f.originator
WellFormedField Key bits f key = Key f.type f.key
WellFormedField Key bits f fec = FecOf bits f.fec

-- every field of a body is well-formed
abbrev pub WellFormedBody : (ℕ → List ℕ → Type 0) → ℕ → Fields → List FieldKind → Type 0
WellFormedBody Key bits f [] = Unit {0}
WellFormedBody Key bits f (k ∷ body) = WellFormedField Key bits f k × WellFormedBody Key bits f body

-- the Length of the body fits its octet
abbrev pub LengthFits : Fields → Type 0
LengthFits f = length (encode_body f (body_of f.type)) < 256

-- no octets are a key: of the NLRIs that may stand in a key, none has a key
abbrev pub NoKey : ℕ → List ℕ → Type 0
NoKey type octets = ⊥

-- the types of NLRIs that may stand in the key of a type: in a Leaf's 1, 2 and 3, in a 0x44's 0x43
pub data KeyType : (type in_key : ℕ) → Type 0 where
  leaf : {in_key : ℕ} → 1 ≤ in_key → in_key ≤ 3 → KeyType 4 in_key
  mldp_leaf : KeyType 68 67

-- octets that are the key of an NLRI of a type: a whole NLRI of the same family, header included
pub record KeyOf (bits type : ℕ) (octets : List ℕ) : Type 0 where
  pub fields : Fields
  pub typed : KeyType type fields.type
  pub well_formed : WellFormedBody NoKey bits fields (body_of fields.type)
  pub fits : LengthFits fields
  pub encoded : octets ≡ encode_nlri fields

-- fields of an NLRI of a known type of which every field of its body is well-formed: those whose encoding can be laid out
pub record Encodable (bits : ℕ) (f : Fields) : Type 0 where
  pub typed : KnownType f.type
  pub body : WellFormedBody (KeyOf bits) bits f (body_of f.type)
  pub fits : LengthFits f

-- a Source Active route whose group is source-specific, by the standard range alone: it is discarded (RFC 6514, by document 02, W-210)
pub record Discarded (bits : ℕ) (f : Fields) : Type 0 where
  pub afi : ℕ
  pub of_family : family_bits afi ≡ given bits
  pub source_active : f.type ≡ 5
  pub specific : SourceSpecific afi f.group

-- the same of encodable fields, as a test
unfoldable pub is_discarded : (bits : ℕ) → Fields → Bool
is_discarded bits f = both (f.type == 5) (is_ssm bits f.group)

-- fields of an NLRI that is accepted: encodable, and not discarded
pub record WellFormed (bits : ℕ) (f : Fields) : Type 0 where
  pub encodable : Encodable bits f
  pub not_discarded : Discarded bits f → ⊥

-- f with the fields that its type lacks emptied
unfoldable pub restricted : Fields → Fields
restricted f =
    let body : List FieldKind = body_of f.type in
    record {
      type = f.type;
      distinguisher = pick (has_field distinguisher body) f.distinguisher [];
      source_as = pick (has_field source_as body) f.source_as 0;
      source = pick (has_field source body) f.source [];
      group = pick (has_field group body) f.group [];
      originator = pick (has_field originator body) f.originator [];
      key = pick (has_field key body) f.key [];
      fec = pick (has_field fec body) f.fec [];
    }
