-- What holds of the definitions as a whole, in document 01's notions. Stated here, proved in proofs/.
use Rattle.std.specs.Prelude.{◌≡◌, ℕ, Result, ◌+◌, ◌-◌, ◌*◌, ◌/◌, ◌^◌, ◌<◌, ◌≤◌, true, false, ◌≢◌, ◌⊎◌, ◌↔◌, List, [], ◌∷◌, ◌++◌, length, take, slice_index}
use Rattle.octets.specs.Lists.{Among}
use Rattle.octets.specs.Numbers.{DONE, SHORT, TYPE, LENGTH, WIDTH, KEY, IDENT, LONG, FAMILY, FLOW, SPACE, DEEP, GROUP}
use Rattle.octets.specs.Outcome.{given, refused}
use Rattle.octets.specs.Octets.{AllOctets, part}
use Rattle.octets.specs.Refusals.{outcome_in}
use Rattle.octets.specs.declared.refusal.Refusal.{Refusal}
use Rattle.fec_elements.specs.declared.Standing.TheVariants.{InBody, Lent}
use Rattle.fec_elements.specs.Rules.FecRules.{NestedFault}
use Rattle.nlri.specs.Family.{family_bits, family_outcome, root_family, allowed, is_originator_size}
use Rattle.nlri.specs.Bodies.{FieldKind, distinguisher, source_as, source, group, originator, key, fec, KnownType, body_of, has_field}
use Rattle.nlri.specs.Fields.{Fields, encode_body, encode_nlri, FecOf, Encodable, Discarded, WellFormed, KeyOf, restricted}
use Rattle.nlri.specs.Reading.{accepted_at, read_nlri}
use Rattle.nlri.specs.Layouts.{layout_single, no_layout}
use Rattle.nlri.specs.Inner.{header_outcome}
use Rattle.nlri.specs.Writing.{write_nlri}
use Rattle.nlri.specs.Groups.{Multicast, SourceSpecific, class_of, class_outcome}
use Rattle.nlri.specs.declared.address.AddressKind.{AddressKind}
use Rattle.nlri.specs.declared.fields.Nlri.{Nlri}
use Rattle.nlri.specs.declared.group.GroupClass.{GroupClass}
use Rattle.nlri.specs.declared.header.Header.{Header}
use Rattle.nlri.specs.declared.layout.Layout.{Layout}
use Rattle.nlri.specs.Answers.{nlri_struct, struct_fields, key_span, fec_span, nlri_answer}

-- "NLRI on the wire": the lengths
pub record Lengths : Type 0 where
  -- 32 bits for AFI 1, 128 for AFI 2
  pub families : (afi bits : ℕ) → (family_bits afi ≡ given bits) ↔ (((afi ≡ 1) × (bits ≡ 32)) ⊎ ((afi ≡ 2) × (bits ≡ 128)))
  -- a source or group length is the family's, or 0 in type 3
  pub addresses : (bits type octet : ℕ) → (allowed bits type octet ≡ true) ↔ ((octet ≡ bits) ⊎ ((type ≡ 3) × (octet ≡ 0)))
  -- an originator has 4 or 16 octets
  pub originators : (size : ℕ) → (is_originator_size size ≡ true) ↔ ((size ≡ 4) ⊎ (size ≡ 16))
  -- the roots of a family's FECs are of the AFI (RFC 7441, section 3)
  pub roots : (afi bits : ℕ) → family_bits afi ≡ given bits → root_family bits ≡ afi
  -- families of the same number and bits are equal
  pub apart : (a b : Result AddressKind Refusal) → family_outcome a ≡ family_outcome b → a ≡ b

-- a field where the body may lack it: as it is where the body has it, else empty
pub data KeptIf {A : Type 0} (Has : Type 0) (field empty : A) : A → Type 0 where
  has : Has → KeptIf Has field empty field
  lacks : (Has → ⊥) → KeptIf Has field empty empty

-- fields without those that their type lacks
pub record RestrictedTo (f g : Fields) : Type 0 where
  pub type : g.type ≡ f.type
  pub distinguisher : KeptIf (Among distinguisher (body_of f.type)) f.distinguisher [] g.distinguisher
  pub source_as : KeptIf (Among source_as (body_of f.type)) f.source_as 0 g.source_as
  pub source : KeptIf (Among source (body_of f.type)) f.source [] g.source
  pub group : KeptIf (Among group (body_of f.type)) f.group [] g.group
  pub originator : KeptIf (Among originator (body_of f.type)) f.originator [] g.originator
  pub key : KeptIf (Among key (body_of f.type)) f.key [] g.key
  pub fec : KeptIf (Among fec (body_of f.type)) f.fec [] g.fec

-- "NLRI on the wire": the bodies
pub record BodyRule : Type 0 where
  -- the fields of each route type, in their order
  pub one : body_of 1 ≡ distinguisher ∷ (originator ∷ [])
  pub two : body_of 2 ≡ distinguisher ∷ (source_as ∷ [])
  pub three : body_of 3 ≡ distinguisher ∷ (source ∷ (group ∷ (originator ∷ [])))
  pub four : body_of 4 ≡ key ∷ (originator ∷ [])
  pub five : body_of 5 ≡ distinguisher ∷ (source ∷ (group ∷ []))
  pub six : body_of 6 ≡ distinguisher ∷ (source_as ∷ (source ∷ (group ∷ [])))
  pub seven : body_of 7 ≡ distinguisher ∷ (source_as ∷ (source ∷ (group ∷ [])))
  pub mldp_s_pmsi : body_of 67 ≡ distinguisher ∷ (fec ∷ (originator ∷ []))
  pub mldp_leaf : body_of 68 ≡ key ∷ (originator ∷ [])
  pub mldp_source_tree_join : body_of 71 ≡ distinguisher ∷ (source_as ∷ (fec ∷ []))
  -- a body has a kind of field exactly when it is among its fields
  pub has : (kind : FieldKind) (body : List FieldKind) → (has_field kind body ≡ true) ↔ Among kind body
  -- what is read, and told, of an NLRI has the fields of its type and no others
  pub restricts : (f : Fields) → RestrictedTo f (restricted f)

-- octets that are the encoding of well-formed fields of the AFI's family, fields that the type lacks being empty
pub record ReadAs (afi : ℕ) (s : List ℕ) (f : Fields) : Type 0 where
  pub bits : ℕ
  pub of_family : family_bits afi ≡ given bits
  pub well_formed : WellFormed bits f
  pub whole : restricted f ≡ f
  pub encoded : s ≡ encode_nlri f

-- "NLRI on the wire": octets are accepted exactly when they are the encoding of well-formed fields, and reading gives those fields
pub record Acceptance : Type 0 where
  -- accepted as these fields exactly when the octets are their encoding
  pub exactly : (afi : ℕ) (s : List ℕ) (f : Fields) → AllOctets s → (read_nlri afi s ≡ given f) ↔ ReadAs afi s f
  -- whatever stands in the fields that the type lacks, their encoding is read as the fields without these
  pub encoded : (afi bits : ℕ) (f : Fields) → family_bits afi ≡ given bits → WellFormed bits f → read_nlri afi (encode_nlri f) ≡ given (restricted f)
  -- an encoding is octets: its Length fits one
  pub octets : (afi bits : ℕ) (f : Fields) → family_bits afi ≡ given bits → WellFormed bits f → AllOctets (encode_nlri f)
  -- an encoding has at most 257 octets, of types 1 to 7 at most 78, and of these at most 60 where it is no Leaf's
  pub longest : (afi bits : ℕ) (f : Fields) → family_bits afi ≡ given bits → WellFormed bits f → length (encode_nlri f) ≤ 257
  pub most : (afi bits : ℕ) (f : Fields) → family_bits afi ≡ given bits → WellFormed bits f → f.type ≤ 7 → length (encode_nlri f) ≤ 78
  pub plain : (afi bits : ℕ) (f : Fields) → family_bits afi ≡ given bits → WellFormed bits f → f.type ≤ 7 → f.type ≢ 4 → length (encode_nlri f) ≤ 60
  -- one encoding is of one NLRI
  pub same : (afi bits : ℕ) (f g : Fields) → family_bits afi ≡ given bits → WellFormed bits f → WellFormed bits g → encode_nlri f ≡ encode_nlri g → restricted f ≡ restricted g

-- fields that hold octets and a 32-bit number, and a distinguisher of eight octets where the type has one: as those do that reading gives, and those that a struct and a buffer of octets stand for
pub record HoldsOctets (f : Fields) : Type 0 where
  pub distinguisher_size : has_field distinguisher (body_of f.type) ≡ true → length f.distinguisher ≡ 8
  pub distinguisher : AllOctets f.distinguisher
  pub source_as : f.source_as < 2 ^ 32
  pub source : AllOctets f.source
  pub group : AllOctets f.group
  pub originator : AllOctets f.originator
  pub key : AllOctets f.key
  pub fec : AllOctets f.fec

-- an NLRI struct that holds octets and a 32-bit number
pub record StructHoldsOctets (nlri : Nlri) : Type 0 where
  pub distinguisher : (length nlri.distinguisher.octets ≡ 8) × AllOctets nlri.distinguisher.octets
  pub source_as : nlri.source_as < 2 ^ 32
  pub source : AllOctets nlri.source.octets
  pub group : AllOctets nlri.group.octets
  pub originator : AllOctets nlri.originator.octets

-- reading and writing undo each other ("NLRI on the wire", and the order of NLRI writing)
pub record RoundTrips : Type 0 where
  -- writing what was read gives the same octets
  pub written : (afi : ℕ) (s : List ℕ) (f : Fields) (space : ℕ) → AllOctets s → read_nlri afi s ≡ given f → length s ≤ space → write_nlri afi f space ≡ given s
  -- reading what was written gives the same fields, those that the type lacks being empty
  pub read : (afi : ℕ) (f : Fields) (space : ℕ) (e : List ℕ) → HoldsOctets f → write_nlri afi f space ≡ given e → read_nlri afi e ≡ given (restricted f)
  -- and fields that reading gave hold octets, so that they come back when they were written
  pub held : (afi : ℕ) (s : List ℕ) (f : Fields) → AllOctets s → read_nlri afi s ≡ given f → HoldsOctets f
  -- a writer does not look at fields that the type lacks
  pub unseen : (afi : ℕ) (f : Fields) (space : ℕ) → write_nlri afi (restricted f) space ≡ write_nlri afi f space
  -- the struct and the octets of key and FEC that reading answers stand for the fields read
  pub struct : (afi : ℕ) (s : List ℕ) (f : Fields) → AllOctets s → read_nlri afi s ≡ given f → restricted (struct_fields (nlri_struct f) f.key f.fec) ≡ f
  -- the key's octets stand where the answer's span says
  pub spanned : (afi : ℕ) (s : List ℕ) (f : Fields) → AllOctets s → read_nlri afi s ≡ given f → part s (key_span f).start (key_span f).size ≡ f.key
  -- and so do the FEC's
  pub fec_spanned : (afi : ℕ) (s : List ℕ) (f : Fields) → AllOctets s → read_nlri afi s ≡ given f → part s (fec_span f).start (fec_span f).size ≡ f.fec
  -- writing the struct and the octets of key and FEC gives the same octets
  pub struct_written : (afi : ℕ) (s : List ℕ) (f : Fields) (space : ℕ) → AllOctets s → read_nlri afi s ≡ given f → length s ≤ space → write_nlri afi (struct_fields (nlri_struct f) f.key f.fec) space ≡ given s
  -- so writing what the call of reading answers, key and FEC taken from the octets read, gives these octets
  pub answered : (afi : ℕ) (s : List ℕ) (space : ℕ) → AllOctets s → (nlri_answer (read_nlri afi s)).number ≡ DONE → length s ≤ space
      → write_nlri afi (struct_fields (nlri_answer (read_nlri afi s)).nlri (part s (nlri_answer (read_nlri afi s)).key.start (nlri_answer (read_nlri afi s)).key.size)
      (part s (nlri_answer (read_nlri afi s)).fec.start (nlri_answer (read_nlri afi s)).fec.size)) space ≡ given s
  -- what a struct and the octets of key and FEC stand for comes back when it was written
  pub struct_read : (afi : ℕ) (nlri : Nlri) (key fec : List ℕ) (space : ℕ) (e : List ℕ) → StructHoldsOctets nlri → AllOctets key → AllOctets fec → write_nlri afi (struct_fields nlri key fec) space ≡ given e
      → read_nlri afi e ≡ given (restricted (struct_fields nlri key fec))

-- octets that are a source or group: a length octet that the type and family allow, and that many bits
abbrev pub AddressAt : (bits type : ℕ) → List ℕ → Type 0
AddressAt bits type x = (1 ≤ length x) × (allowed bits type (slice_index x 0) ≡ true) × (8 * (length x - 1) ≡ slice_index x 0)

-- octets x that are a field of one kind, with t after them; an originator is what remains
abbrev pub FieldAt : (bits type : ℕ) → FieldKind → (x t : List ℕ) → Type 0
FieldAt bits type distinguisher x t = length x ≡ 8
FieldAt bits type source_as x t = length x ≡ 4
FieldAt bits type source x t = AddressAt bits type x
FieldAt bits type group x t = AddressAt bits type x
FieldAt bits type originator x t = (is_originator_size (length x) ≡ true) × (t ≡ [])
FieldAt bits type key x t = KeyOf bits type x
FieldAt bits type fec x t = FecOf bits x

-- the fault of a source or group where s is what remains of the body: a missing length octet; a bad one, before its address is looked for; an end inside the address
pub data AddressFault (bits type : ℕ) (s : List ℕ) : ℕ → Type 0 where
  missing : length s ≡ 0 → AddressFault bits type s LENGTH
  width : 1 ≤ length s → allowed bits type (slice_index s 0) ≡ false → AddressFault bits type s WIDTH
  ends : 1 ≤ length s → allowed bits type (slice_index s 0) ≡ true → length s < 1 + slice_index s 0 / 8 → AddressFault bits type s LENGTH

-- the fault of a field where s is what remains of the body, and its number; a key's is that no octets at the front are a key, and a FEC's its first from left to right
abbrev pub Fault : (bits type : ℕ) → FieldKind → List ℕ → ℕ → Type 0
Fault bits type distinguisher s n = (length s < 8) × (n ≡ LENGTH)
Fault bits type source_as s n = (length s < 4) × (n ≡ LENGTH)
Fault bits type source s n = AddressFault bits type s n
Fault bits type group s n = AddressFault bits type s n
Fault bits type originator s n = (is_originator_size (length s) ≡ false) × (n ≡ LENGTH)
Fault bits type key s n = ((size : ℕ) → size ≤ length s → KeyOf bits type (take size s) → ⊥) × (n ≡ KEY)
Fault bits type fec s n = NestedFault (InBody (root_family bits)) s n

-- the first fault of a body from left to right: octets remain after its last field, its first field faults, or its first field stands and a later one faults
pub data Faulty (bits type : ℕ) : List FieldKind → List ℕ → ℕ → Type 0 where
  remains : {s : List ℕ} → 0 < length s → Faulty bits type [] s LENGTH
  here : {k : FieldKind} {body : List FieldKind} {s : List ℕ} {n : ℕ} → Fault bits type k s n → Faulty bits type (k ∷ body) s n
  later : {k : FieldKind} {body : List FieldKind} {s : List ℕ} {n : ℕ} (x t : List ℕ) → s ≡ x ++ t → FieldAt bits type k x t → Faulty bits type body t n → Faulty bits type (k ∷ body) s n

-- fewer octets than the header, or than the Length field, asks
abbrev pub TooShort : List ℕ → Type 0
TooShort s = (length s < 2) ⊎ (length s - 2 < slice_index s 1)

-- why the NLRI at the front of octets is not laid out: SHORT, TYPE, then the body
pub data LaidRefusal (bits : ℕ) (s : List ℕ) : ℕ → Type 0 where
  short : TooShort s → LaidRefusal bits s SHORT
  bad_type : (TooShort s → ⊥) → (KnownType (slice_index s 0) → ⊥) → LaidRefusal bits s TYPE
  bad_body : {n : ℕ} → (TooShort s → ⊥) → KnownType (slice_index s 0) → Faulty bits (slice_index s 0) (body_of (slice_index s 0)) (part s 2 (slice_index s 1)) n → LaidRefusal bits s n

-- why the NLRI at the front of octets is not accepted: it is not laid out, or it is discarded
pub data FrontRefusal (bits : ℕ) (s : List ℕ) : ℕ → Type 0 where
  unlaid : {n : ℕ} → LaidRefusal bits s n → FrontRefusal bits s n
  discarded : (f : Fields) (t : List ℕ) → Encodable bits f → Discarded bits f → s ≡ encode_nlri f ++ t → FrontRefusal bits s GROUP

-- why reading a single NLRI refuses: FAMILY, then its front, then octets after it, then GROUP
pub data ReadRefusal (afi : ℕ) (s : List ℕ) : ℕ → Type 0 where
  bad_family : afi ≢ 1 → afi ≢ 2 → ReadRefusal afi s FAMILY
  front : (bits : ℕ) {n : ℕ} → family_bits afi ≡ given bits → LaidRefusal bits s n → ReadRefusal afi s n
  after : (bits : ℕ) (f : Fields) (t : List ℕ) → family_bits afi ≡ given bits → Encodable bits f → s ≡ encode_nlri f ++ t → 0 < length t → ReadRefusal afi s LENGTH
  discarded : (bits : ℕ) (f : Fields) → family_bits afi ≡ given bits → Encodable bits f → Discarded bits f → s ≡ encode_nlri f → ReadRefusal afi s GROUP

-- the numbers of bodies
abbrev pub BodyFault : ℕ → Type 0
BodyFault n = (n ≡ LENGTH) ⊎ (n ≡ WIDTH) ⊎ (n ≡ KEY) ⊎ (n ≡ IDENT) ⊎ (n ≡ DEEP)

-- "The numbers a call gives back", at NLRI reading: every list of octets is accepted or refused by one number, each given exactly when document 01, W-207 and W-210 say
pub record ReadRefusals : Type 0 where
  -- each number exactly when document 01, W-207 and W-210 say
  pub exactly : (afi : ℕ) (s : List ℕ) (n : ℕ) → AllOctets s → (read_nlri afi s ≡ refused n) ↔ ReadRefusal afi s n
  -- the NLRI at the front of octets, whatever stands after it
  pub front : (afi bits : ℕ) (s : List ℕ) (n : ℕ) → family_bits afi ≡ given bits → AllOctets s → (accepted_at bits s ≡ refused n) ↔ FrontRefusal bits s n
  -- octets are accepted or refused, by one number, and never both
  pub decided : (afi : ℕ) (s : List ℕ) → AllOctets s → ((f : Fields) × ReadAs afi s f) ⊎ ((n : ℕ) × ReadRefusal afi s n)
  pub one : (afi : ℕ) (s : List ℕ) (m n : ℕ) → AllOctets s → ReadRefusal afi s m → ReadRefusal afi s n → m ≡ n
  pub never : (afi : ℕ) (s : List ℕ) (f : Fields) (n : ℕ) → AllOctets s → ReadAs afi s f → ReadRefusal afi s n → ⊥
  -- no refusal is DONE
  pub done : (afi : ℕ) (s : List ℕ) → ReadRefusal afi s DONE → ⊥
  -- a body's fault is LENGTH, WIDTH, KEY, IDENT or DEEP
  pub bodies : (bits type : ℕ) (body : List FieldKind) (s : List ℕ) (n : ℕ) → Faulty bits type body s n → BodyFault n

-- the layout of an NLRI's encoding: its type, its Length, and the sizes that vary, of addresses without their length octet
unfoldable pub layout_for : Fields → Layout
layout_for f =
    record {
      route_type = f.type;
      length = length (encode_nlri f) - 2;
      source = length (restricted f).source;
      group = length (restricted f).group;
      originator = length (restricted f).originator;
      key = length (restricted f).key;
      fec = length (restricted f).fec;
    }

-- the layout of a single NLRI: octets that are accepted have that of the fields encoded, and any others are refused as reading refuses them
pub record LayoutRule : Type 0 where
  pub exactly : (afi : ℕ) (s : List ℕ) (l : Layout) → AllOctets s → (layout_single afi s ≡ given l) ↔ ((f : Fields) × ReadAs afi s f × (l ≡ layout_for f))
  pub refuses : (afi : ℕ) (s : List ℕ) (n : ℕ) → AllOctets s → (layout_single afi s ≡ refused n) ↔ ReadRefusal afi s n
  -- no layout has every number 0
  pub none : no_layout ≡ record { route_type = 0; length = 0; source = 0; group = 0; originator = 0; key = 0; fec = 0 }
  -- answers with the same number and values are equal
  pub apart : (a b : Result Layout Refusal) → outcome_in a ≡ outcome_in b → a ≡ b
  -- and so are headers
  pub headers_apart : (a b : Result Header Refusal) → header_outcome a ≡ header_outcome b → a ≡ b

-- a source or group of a length that the type and family do not allow, an originator not of 4 or 16 octets
abbrev pub WidthFault : ℕ → Fields → FieldKind → Type 0
WidthFault bits f distinguisher = ⊥
WidthFault bits f source_as = ⊥
WidthFault bits f source = allowed bits f.type (8 * length f.source) ≡ false
WidthFault bits f group = allowed bits f.type (8 * length f.group) ≡ false
WidthFault bits f originator = is_originator_size (length f.originator) ≡ false
WidthFault bits f key = ⊥
WidthFault bits f fec = ⊥

-- no address of the type's body has a wrong width
abbrev pub WidthsFit : ℕ → Fields → Type 0
WidthsFit bits f = (k : FieldKind) → has_field k (body_of f.type) ≡ true → WidthFault bits f k → ⊥

-- the FEC of the type's body, if it has one, is one
abbrev pub FecFits : ℕ → Fields → Type 0
FecFits bits f = has_field fec (body_of f.type) ≡ true → FecOf bits f.fec

-- a body of RFC 7441 of more than 255 octets
abbrev pub TooLong : Fields → Type 0
TooLong f = (7 < f.type) × (255 < length (encode_body f (body_of f.type)))

-- why writing refuses, in the order FAMILY, TYPE, WIDTH, IDENT and DEEP, LONG, KEY, GROUP, SPACE; only fields of the type's body are judged
pub data WriteRefusal (afi : ℕ) (f : Fields) (space : ℕ) : ℕ → Type 0 where
  bad_family : afi ≢ 1 → afi ≢ 2 → WriteRefusal afi f space FAMILY
  bad_type : (bits : ℕ) → family_bits afi ≡ given bits → (KnownType f.type → ⊥) → WriteRefusal afi f space TYPE
  bad_width : (bits : ℕ) → family_bits afi ≡ given bits → KnownType f.type → (k : FieldKind) → has_field k (body_of f.type) ≡ true → WidthFault bits f k → WriteRefusal afi f space WIDTH
  bad_fec : (bits : ℕ) {n : ℕ} → family_bits afi ≡ given bits → KnownType f.type → WidthsFit bits f → has_field fec (body_of f.type) ≡ true → NestedFault (Lent (root_family bits)) f.fec n
      → WriteRefusal afi f space n
  long : (bits : ℕ) → family_bits afi ≡ given bits → KnownType f.type → WidthsFit bits f → FecFits bits f → TooLong f → WriteRefusal afi f space LONG
  bad_key : (bits : ℕ) → family_bits afi ≡ given bits → KnownType f.type → WidthsFit bits f → FecFits bits f → (TooLong f → ⊥)
      → has_field key (body_of f.type) ≡ true → (KeyOf bits f.type f.key → ⊥) → WriteRefusal afi f space KEY
  discarded : (bits : ℕ) → family_bits afi ≡ given bits → Encodable bits f → Discarded bits f → WriteRefusal afi f space GROUP
  no_space : (bits : ℕ) → family_bits afi ≡ given bits → WellFormed bits f → space < length (encode_nlri f) → WriteRefusal afi f space SPACE

-- "The numbers a call gives back", at NLRI writing: well-formed fields are written where there is space, and any others are refused by one number
pub record WriteRefusals : Type 0 where
  -- each number exactly when document 01, W-207 and W-210 say
  pub exactly : (afi : ℕ) (f : Fields) (space n : ℕ) → HoldsOctets f → (write_nlri afi f space ≡ refused n) ↔ WriteRefusal afi f space n
  -- the octets given are the encoding, exactly when the fields are well-formed and it fits
  pub accepted : (afi : ℕ) (f : Fields) (space : ℕ) (e : List ℕ) → HoldsOctets f
      → (write_nlri afi f space ≡ given e) ↔ ((bits : ℕ) × (family_bits afi ≡ given bits) × WellFormed bits f × (length e ≤ space) × (e ≡ encode_nlri f))

-- why a group has no class: FAMILY, then FLOW
pub data GroupRefusal (afi : ℕ) (g : List ℕ) : ℕ → Type 0 where
  bad_family : afi ≢ 1 → afi ≢ 2 → GroupRefusal afi g FAMILY
  bad_group : (bits : ℕ) → family_bits afi ≡ given bits → (Multicast afi g → ⊥) → GroupRefusal afi g FLOW

-- the class of a group by the standard range: each number exactly when document 01 says, SSM, 2, by its ranges, and ASM, 1, for any other multicast group
pub record GroupRule : Type 0 where
  pub refuses : (afi : ℕ) (g : List ℕ) (n : ℕ) → (class_of afi g ≡ refused n) ↔ GroupRefusal afi g n
  pub ssm : (afi : ℕ) (g : List ℕ) → (class_of afi g ≡ given 2) ↔ SourceSpecific afi g
  pub asm : (afi : ℕ) (g : List ℕ) → (class_of afi g ≡ given 1) ↔ (Multicast afi g × (SourceSpecific afi g → ⊥))
  -- answers with the same number and class are equal
  pub apart : (a b : Result GroupClass Refusal) → class_outcome a ≡ class_outcome b → a ≡ b
