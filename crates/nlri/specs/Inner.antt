-- Definitions that mirror the inner functions of reading, and those that lead from them to document 01's in `Reading`; laws tie them together.
use Rattle.std.specs.Prelude.{◌≡◌, ℕ, Result, Ok, Err, ◌+◌, ◌-◌, ◌/◌, ◌<◌, ◌≤◌, Bool, true, false, not, List, [], ◌∷◌, length, drop, ◌==◌, ◌≢◌, nat_le, nat_lt, slice_index, slice_index_or}
use Rattle.octets.specs.Numbers.{DONE, SHORT, TYPE, LENGTH, KEY, GROUP}
use Rattle.octets.specs.Choice.{pick, either, both}
use Rattle.octets.specs.Outcome.{Outcome, given, refused, unless, and_then, number_of}
use Rattle.octets.specs.Octets.{part, number_in}
use Rattle.octets.specs.declared.Span.{Span}
use Rattle.octets.specs.declared.refusal.Refusal.{Refusal}
use Rattle.octets.specs.Refusals.{refusal_number}
use Rattle.fec_elements.specs.Reading.{opaque_start, fec_size}
use Rattle.nlri.specs.declared.layout.Layout.{Layout}
use Rattle.nlri.specs.declared.header.Header.{Header}
use Rattle.nlri.specs.Bodies.{FieldKind, source, group, originator, key, fec, bodies, on_body, body_of, has_field}
use Rattle.nlri.specs.Fields.{Fields}
use Rattle.nlri.specs.Reading.{field_size, sizes_of, key_field}
use Rattle.nlri.specs.Groups.{is_ssm}
use Rattle.nlri.specs.declared.fields.NlriReading.{NlriReading}
use Rattle.nlri.specs.Answers.{nlri_struct}
use Rattle.nlri.specs.Layouts.{laid_layout}

-- a header that is read: its route type and Length, or the refusal's number
abbrev pub header_outcome : Result Header Refusal → Outcome (ℕ × ℕ)
header_outcome (Ok header) = given (header.route_type, header.length)
header_outcome (Err refusal) = refused (refusal_number refusal)

-- a key that is read by its header: its size, header included; any fault inside it is KEY
abbrev pub key_outcome : Result Header Refusal → Outcome ℕ
key_outcome (Ok header) = given (2 + header.length)
key_outcome (Err refusal) = refused KEY

-- a layout by its type, Length and sizes
unfoldable pub layout_with : (type size source group originator key fec : ℕ) → Layout
layout_with type size a b o k c = record { route_type = type; length = size; source = a; group = b; originator = o; key = k; fec = c }

-- the number of the fields that are left of a body, `kinds`, where those before them end at `at`: LENGTH where they end past the octets
unfoldable pub left_fault : (bits type : ℕ) → List FieldKind → (at : ℕ) → List ℕ → ℕ
left_fault bits type kinds at s =
    pick (nat_lt (length s) at) LENGTH (number_of (sizes_of (field_size (key_field bits) bits type) kinds (drop at s)))

-- the number of a body
unfoldable pub body_fault : (bits type : ℕ) → List ℕ → ℕ
body_fault bits type s = on_body bodies type TYPE (λ body. left_fault bits type body 0 s)

-- an address's size by its length octet
unfoldable pub size_at : List ℕ → ℕ → ℕ
size_at s at = slice_index s at / 8

-- the group of a body of type 5 that is laid out, behind the source's length octet and its own
unfoldable pub body_group : List ℕ → List ℕ
body_group s = part s (10 + size_at s 8) (size_at s (9 + size_at s 8))

-- the number of a body of type 5: GROUP after every other
unfoldable pub source_active_body_fault : ℕ → List ℕ → ℕ
source_active_body_fault bits s = pick (body_fault bits 5 s == DONE) (pick (is_ssm bits (body_group s)) GROUP DONE) (body_fault bits 5 s)

-- the number of a body of any type, with GROUP
unfoldable pub accepted_fault : (bits type : ℕ) → List ℕ → ℕ
accepted_fault bits type s = pick (type == 5) (source_active_body_fault bits s) (body_fault bits type s)

-- what follows source and group: in type 3 the originator, else nothing
unfoldable pub after_flow : ℕ → List FieldKind
after_flow type = pick (type == 3) (originator ∷ []) []

-- what follows a FEC: in 0x43 the originator, else nothing
unfoldable pub after_fec : ℕ → List FieldKind
after_fec type = pick (type == 67) (originator ∷ []) []

-- type and Length of the NLRI at the front of s
unfoldable pub header_at : List ℕ → Outcome (ℕ × ℕ)
header_at s =
    pick (nat_lt (length s) 2) (refused SHORT)
    (pick (nat_lt (length s - 2) (slice_index s 1)) (refused SHORT) (given (slice_index s 0, slice_index s 1)))

-- whether a key stands first: in 4 and 0x44
unfoldable pub with_key : ℕ → Bool
with_key type = either (type == 4) (type == 68)

-- the types of RFC 7441: 0x43, 0x44 and 0x47
unfoldable pub is_mldp : ℕ → Bool
is_mldp type = either (type == 67) (either (type == 68) (type == 71))

-- whether there is a FEC: in 0x43 and 0x47
unfoldable pub with_fec : ℕ → Bool
with_fec type = either (type == 67) (type == 71)

-- whether a source AS stands behind the route distinguisher
unfoldable pub with_source_as : ℕ → Bool
with_source_as type = either (type == 2) (either (type == 6) (either (type == 7) (type == 71)))

-- where the octets of a source begin in an NLRI, behind its length octet: in types 6 and 7 the source AS stands before that
unfoldable pub source_start : ℕ → ℕ
source_start type = pick (either (type == 6) (type == 7)) 15 11

-- the layout of an accepted NLRI with source and group by its octets, where the source's length octet stands at `at`
unfoldable pub flow_layout : (type at : ℕ) → List ℕ → Layout
flow_layout type at s =
    layout_with type (slice_index s 1) (size_at s at) (size_at s (at + 1 + size_at s at)) (slice_index s 1 - at - size_at s at - size_at s (at + 1 + size_at s at)) 0 0

-- the layout of an accepted NLRI with a key by its octets
unfoldable pub leaf_layout : ℕ → List ℕ → Layout
leaf_layout type s = layout_with type (slice_index s 1) 0 0 (slice_index s 1 - (2 + slice_index s 3)) (2 + slice_index s 3) 0

-- where a FEC starts in an NLRI: in 0x47 behind the source AS
unfoldable pub fec_start : ℕ → ℕ
fec_start type = pick (type == 71) 14 10

-- the octets of the NLRI from there on
unfoldable pub from_fec : ℕ → List ℕ → List ℕ
from_fec type s = part s (fec_start type) (2 + slice_index s 1 - fec_start type)

-- the layout of an accepted NLRI with a FEC by its octets
unfoldable pub fec_layout : ℕ → List ℕ → Layout
fec_layout type s = layout_with type (slice_index s 1) 0 0 (2 + slice_index s 1 - fec_start type - fec_size (from_fec type s)) 0 (fec_size (from_fec type s))

-- the layout of an accepted NLRI of a type above 7
unfoldable pub mldp_layout : ℕ → List ℕ → Layout
mldp_layout type s = pick (type == 68) (leaf_layout type s) (fec_layout type s)

-- the layout of an accepted NLRI by its octets
unfoldable pub layout_in : List ℕ → Layout
layout_in s =
    pick (slice_index s 0 == 1) (layout_with 1 (slice_index s 1) 0 0 (slice_index s 1 - 8) 0 0)
    (pick (slice_index s 0 == 2) (layout_with 2 (slice_index s 1) 0 0 0 0 0)
    (pick (slice_index s 0 == 4) (leaf_layout 4 s)
    (pick (nat_lt 7 (slice_index s 0)) (mldp_layout (slice_index s 0) s) (flow_layout (slice_index s 0) (source_start (slice_index s 0) - 1) s))))

-- source and group lie within the body
pub record FlowStands (at : ℕ) (s : List ℕ) : Type 0 where
  pub group : at + 1 + size_at s at < length s
  pub sizes : at + size_at s at + size_at s (at + 1 + size_at s at) ≤ slice_index s 1

-- the group of a body of type 5 lies within it
pub record GroupStands (s : List ℕ) : Type 0 where
  pub group : 9 + size_at s 8 < length s
  pub sizes : 10 + size_at s 8 + size_at s (9 + size_at s 8) ≤ length s

-- a FEC lies within the body, and the body within the octets
pub record FecStands (type : ℕ) (s : List ℕ) : Type 0 where
  pub body : 2 + slice_index s 1 ≤ length s
  pub start : fec_start type ≤ 2 + slice_index s 1
  pub opaque : opaque_start (from_fec type s) ≤ length (from_fec type s)
  pub sizes : fec_size (from_fec type s) ≤ 2 + slice_index s 1 - fec_start type

-- a key lies within the body, and its header within the octets
abbrev pub KeyStands : List ℕ → Type 0
KeyStands s = (4 ≤ length s) × (2 + slice_index s 3 ≤ slice_index s 1)

-- the key or FEC of an NLRI of a type above 7
pub record MldpStands (type : ℕ) (s : List ℕ) : Type 0 where
  pub leaf : type ≡ 68 → KeyStands s
  pub held : (type ≢ 68) → with_fec type ≡ true
  pub fec : (type ≢ 68) → FecStands type s

-- the octets that a layout goes by stand there
pub record Stands (s : List ℕ) : Type 0 where
  pub header : 2 ≤ length s
  pub intra_as : slice_index_or s 0 0 ≡ 1 → 8 ≤ slice_index s 1
  pub leaf : slice_index_or s 0 0 ≡ 4 → KeyStands s
  pub mldp : 7 < slice_index s 0 → MldpStands (slice_index s 0) s
  pub flow : (slice_index s 0 ≢ 1) → (slice_index s 0 ≢ 2) → (slice_index s 0 ≢ 4) → slice_index s 0 ≤ 7 → FlowStands (source_start (slice_index s 0) - 1) s

-- the route distinguisher of an NLRI; one with a key has none
unfoldable pub distinguisher_at : ℕ → List ℕ → List ℕ
distinguisher_at type s = pick (with_key type) [] (part s 2 8)

-- the source AS of an NLRI, or 0 where its type has none
unfoldable pub source_as_at : ℕ → List ℕ → ℕ
source_as_at type s = pick (with_source_as type) (number_in (part s 10 4) 0) 0

-- the fields of a single NLRI by its layout
unfoldable pub fields_at : Layout → List ℕ → Fields
fields_at l s =
    record {
      type = l.route_type;
      distinguisher = distinguisher_at l.route_type s;
      source_as = source_as_at l.route_type s;
      source = part s (source_start l.route_type) l.source;
      group = part s (source_start l.route_type + l.source + 1) l.group;
      originator = part s (length s - l.originator) l.originator;
      key = part s 2 l.key;
      fec = part s (fec_start l.route_type) l.fec;
    }

-- a key stands straight after the header
unfoldable pub key_at : Layout → Span
key_at l = record { start = pick (with_key l.route_type) 2 0; size = l.key }

-- a FEC stands behind the route distinguisher or the source AS
unfoldable pub fec_in_layout : Layout → Span
fec_in_layout l = record { start = pick (with_fec l.route_type) (fec_start l.route_type) 0; size = l.fec }

-- a layout's fields lie within the NLRI, and have the sizes of addresses
pub record LayoutWithin (l : Layout) (s : List ℕ) : Type 0 where
  pub typed : l.route_type < 256
  pub distinguished : with_key l.route_type ≡ false → 10 ≤ length s
  pub numbered : with_source_as l.route_type ≡ true → 14 ≤ length s
  pub source : (l.source ≤ 16) × (0 < l.source → source_start l.route_type + l.source ≤ length s)
  pub group : (l.group ≤ 16) × (0 < l.group → source_start l.route_type + l.source + 1 + l.group ≤ length s)
  pub originator : (l.originator ≤ 16) × (l.originator ≤ length s)
  pub fec_kind : has_field fec (body_of l.route_type) ≡ with_fec l.route_type
  pub fec_end : 0 < l.fec → fec_start l.route_type + l.fec ≤ length s
  pub key_kind : has_field key (body_of l.route_type) ≡ with_key l.route_type
  pub key : 2 + l.key ≤ length s

-- what reading a single NLRI answers, by its layout
unfoldable pub answer_at : Layout → List ℕ → NlriReading
answer_at l s = record { number = DONE; nlri = nlri_struct (fields_at l s); key = key_at l; fec = fec_in_layout l }

-- by the octets of an NLRI that is laid out: it is discarded, being of type 5 with an SSM group behind the source's and its own length octet
unfoldable pub is_discarded_at : ℕ → List ℕ → Bool
is_discarded_at bits s = both (slice_index s 0 == 5) (is_ssm bits (part s (12 + size_at s 10) (size_at s (11 + size_at s 10))))

-- octets stand behind the NLRI at the front, or too few stand there, where either answer will do
unfoldable pub is_followed : List ℕ → Bool
is_followed s = both (nat_le 2 (length s)) (not (length s - 2 == slice_index s 1))

-- by the number of the NLRI at the front: LENGTH for octets after it, before GROUP
unfoldable pub followed_fault : ℕ → ℕ
followed_fault number = pick (number == DONE) LENGTH (pick (number == GROUP) LENGTH number)

-- a single NLRI's layout by the layout at its front: nothing stands behind it
unfoldable pub single : ℕ → List ℕ → Outcome Layout
single bits s = and_then (laid_layout bits s) (λ l. unless (length s - 2 == l.length) LENGTH (pick (is_discarded_at bits s) (refused GROUP) (given l)))

-- a single NLRI of type 3 by its octets: the header, then source, group and what remains
unfoldable pub s_pmsi_under : ℕ → List ℕ → Bool
s_pmsi_under bits s =
    both (nat_le 10 (length s))
    (both (slice_index s 0 == 3)
    (both (slice_index s 1 == length s - 2)
    (left_fault bits 3 (source ∷ group ∷ after_flow 3) 10 s == DONE)))

-- the NLRI at the front, whose Length is at most `most`, has the octets of a body of this type
pub record SurelyRead (bits type most : ℕ) (s : List ℕ) : Type 0 where
  pub short : slice_index_or s 1 0 ≤ most
  pub good : body_fault bits type (part s 2 (slice_index s 1)) ≡ DONE
