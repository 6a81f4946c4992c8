-- What holds of the definitions as a whole, in document 01's notions. Stated here, proved in the files that `proofs/Theorems.antt` names.
use Rattle.std.specs.Prelude.{ℕ, ◌+◌, ◌/◌, ◌%◌, ◌<◌, ◌≤◌, ◌≡◌, ◌↔◌, ◌≢◌, List, Result, length, get_or, drop}
use Rattle.octets.specs.Lists.{Among}
use Rattle.octets.specs.Numbers.{SHORT, TUNNEL, IDENT, LONG, LABEL, SPACE}
use Rattle.octets.specs.Outcome.{given, refused}
use Rattle.octets.specs.Octets.{AllOctets, part}
use Rattle.octets.specs.Outputs.{Wrote}
use Rattle.octets.specs.Rules.Answering.{Answering, WrittenAtFront, NothingWritten}
use Rattle.octets.specs.declared.Span.{Span}
use Rattle.octets.specs.declared.Written.{Written}
use Rattle.octets.specs.declared.refusal.Refusal.{Refusal}
use Rattle.tunnel.specs.declared.Attribute.{Attribute}
use Rattle.tunnel.specs.declared.fec.Fec.{Fec}
use Rattle.fec_elements.specs.Fields.{FecFields, encode_fec, WellFormedFec}
use Rattle.tunnel.specs.Identifier.{IdentifierForm, sizes, fec_types, row_of, identifier_forms, OfType}
use Rattle.tunnel.specs.Attribute.{AttributeFields, WellFormedAttribute, encode_attribute, read_attribute, write_attribute}
use Rattle.tunnel.specs.Answers.{outcome_of, read_struct, argument_fields, write_outcome}

-- a tunnel type that the table lacks
pub record Unknown (t : ℕ) : Type 0 where
  pub over : 7 < t
  pub not_bier : t ≢ 11

-- octets that are neither too many nor too few for an attribute
pub record ReadableSize (s : List ℕ) : Type 0 where
  pub most : length s ≤ 64
  pub least : 5 ≤ length s

-- why reading refuses: LONG, SHORT, TUNNEL, IDENT
pub data AttributeReadRefusal (s : List ℕ) : ℕ → Type 0 where
  long : 64 < length s → AttributeReadRefusal s LONG
  short : length s < 5 → AttributeReadRefusal s SHORT
  bad_tunnel : ReadableSize s → Unknown (get_or s 1 0) → AttributeReadRefusal s TUNNEL
  bad_identifier : ReadableSize s → (Unknown (get_or s 1 0) → ⊥) → (OfType (get_or s 1 0) (drop 5 s) → ⊥) → AttributeReadRefusal s IDENT

-- Reading: octets are accepted exactly when they are the encoding of well-formed fields, and reading gives those; any
-- others are refused by one number, each exactly when document 01 says.
pub record AttributeReadRule : Type 0 where
  pub accepted : (s : List ℕ) (f : AttributeFields) → AllOctets s → (read_attribute s ≡ given f) ↔ (WellFormedAttribute f × (s ≡ encode_attribute f))
  pub exactly : (s : List ℕ) (n : ℕ) → AllOctets s → (read_attribute s ≡ refused n) ↔ AttributeReadRefusal s n

-- fields whose flags and identifier are octets, as a writer's arguments are
pub record OctetFields (f : AttributeFields) : Type 0 where
  pub flags_fit : f.flags < 256
  pub identifier_octets : AllOctets f.identifier

-- why writing into `space` octets refuses: LONG, TUNNEL, IDENT, LABEL, SPACE
pub data AttributeWriteRefusal (f : AttributeFields) (space : ℕ) : ℕ → Type 0 where
  long : 59 < length f.identifier → AttributeWriteRefusal f space LONG
  bad_tunnel : length f.identifier ≤ 59 → Unknown f.tunnel_type → AttributeWriteRefusal f space TUNNEL
  bad_identifier : length f.identifier ≤ 59 → (Unknown f.tunnel_type → ⊥) → (OfType f.tunnel_type f.identifier → ⊥) → AttributeWriteRefusal f space IDENT
  bad_label : length f.identifier ≤ 59 → OfType f.tunnel_type f.identifier → 16777215 < f.label_field → AttributeWriteRefusal f space LABEL
  no_space : WellFormedAttribute f → space < length (encode_attribute f) → AttributeWriteRefusal f space SPACE

-- an attribute written: well-formed fields, their encoding at the front of the output
pub record AttributeWritten (f : AttributeFields) (before : List ℕ) (answer : Written) (after : List ℕ) : Type 0 where
  pub well_formed : WellFormedAttribute f
  pub encoded : WrittenAtFront (encode_attribute f) before answer after

-- Writing: the encoding is given exactly of well-formed fields that there is space for; any others are refused by one
-- number, each exactly when document 01 says.
pub record AttributeWriteRule : Type 0 where
  pub accepted : (f : AttributeFields) (space : ℕ) (e : List ℕ) → OctetFields f
      → (write_attribute f space ≡ given e) ↔ (WellFormedAttribute f × (length (encode_attribute f) ≤ space) × (e ≡ encode_attribute f))
  pub exactly : (f : AttributeFields) (space n : ℕ) → OctetFields f → (write_attribute f space ≡ refused n) ↔ AttributeWriteRefusal f space n
  -- the call of writing, by its own arguments: whatever answer and output its contract allows
  pub writes : (flags type label : ℕ) (identifier before : List ℕ) (answer : Written) (after : List ℕ) → flags < 256 → AllOctets identifier
      → Wrote (write_outcome flags type label identifier before) before answer after
      → let f : AttributeFields = record { flags = flags; tunnel_type = type; label_field = label; identifier = identifier } in
      Answering answer.number (AttributeWriteRefusal f (length before)) (AttributeWritten f before answer after) (NothingWritten before answer after)

-- the octets of s at a span
abbrev pub octets_at : List ℕ → Span → List ℕ
octets_at s span = part s span.start span.size

-- the fields that an answer tells of s: its own numbers, and the octets at its identifier's span
abbrev pub fields_told : List ℕ → Attribute → AttributeFields
fields_told s a = argument_fields a.flags a.tunnel_type a.label_field (octets_at s a.identifier)

-- the FEC that an answer tells of s: its own numbers, and the octets at the spans of its root and opaque value
abbrev pub fec_told : List ℕ → Fec → FecFields
fec_told s fec = record { fec_type = fec.fec_type; address_family = fec.address_family; root = octets_at s fec.root; opaque_value = octets_at s fec.opaque }

-- reading and writing undo each other
pub record AttributeRoundTrips : Type 0 where
  -- reading what was written gives the same fields
  pub read : (f : AttributeFields) (space : ℕ) (e : List ℕ) → OctetFields f → write_attribute f space ≡ given e → read_attribute e ≡ given f
  -- writing what was read gives the same octets
  pub written : (s : List ℕ) (f : AttributeFields) (space : ℕ) → AllOctets s → read_attribute s ≡ given f → length s ≤ space → write_attribute f space ≡ given s
  -- so writing what the call of reading answers, the identifier taken from the octets read, gives these octets
  pub answered : (s : List ℕ) (a : Attribute) (space : ℕ) → AllOctets s → read_struct s ≡ given a → length s ≤ space → write_attribute (fields_told s a) space ≡ given s

-- an answer's FEC where the identifier is one: root, opaque length 2, and an opaque value that ends where the octets end
pub record AnsweredFec (s : List ℕ) (a : Attribute) : Type 0 where
  pub well_formed : WellFormedFec (fec_told s a.fec)
  pub encoded : octets_at s a.identifier ≡ encode_fec (fec_told s a.fec)
  pub root_ends : a.fec.root.start + a.fec.root.size + 2 ≡ a.fec.opaque.start
  pub opaque_ends : a.fec.opaque.start + a.fec.opaque.size ≡ length s

-- an answer's FEC by the form of its tunnel type's identifiers; where it is no FEC, all 0
pub data AnsweredForm (s : List ℕ) (a : Attribute) : IdentifierForm → Type 0 where
  not_fec : {ns : List ℕ} → a.fec ≡ record { fec_type = 0; address_family = 0; root = record { start = 0; size = 0 }; opaque = record { start = 0; size = 0 } }
      → AnsweredForm s a (sizes ns)
  is_fec : {ns : List ℕ} → AnsweredFec s a → AnsweredForm s a (fec_types ns)

-- what an answer is to say of octets: they are the encoding of the well-formed fields that it tells, the identifier ends
-- where they end, and label, LIR and FEC are those of these fields
pub record AnsweredAttribute (s : List ℕ) (a : Attribute) : Type 0 where
  pub well_formed : WellFormedAttribute (fields_told s a)
  pub encoded : s ≡ encode_attribute (fields_told s a)
  pub identifier_ends : a.identifier.start + a.identifier.size ≡ length s
  pub label : a.label ≡ a.label_field / 16
  pub leaf_information_required : a.leaf_information_required ≡ a.flags % 2
  pub fec : (form : IdentifierForm) → Among (row_of a.tunnel_type form) identifier_forms → AnsweredForm s a form

-- The call of reading: its answer is the only one that says of the octets what it is to say; it refuses as reading does.
pub record AttributeAnswerRule : Type 0 where
  pub accepted : (s : List ℕ) (a : Attribute) → AllOctets s → (read_struct s ≡ given a) ↔ AnsweredAttribute s a
  pub exactly : (s : List ℕ) (n : ℕ) → AllOctets s → (read_struct s ≡ refused n) ↔ AttributeReadRefusal s n
  -- answers of the same number and values are equal
  pub apart : (a b : Result Attribute Refusal) → outcome_of a ≡ outcome_of b → a ≡ b
