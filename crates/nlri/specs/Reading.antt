-- Reading an NLRI (document 01, "NLRI on the wire" and the order of NLRI reading; W-207, W-210): first where its fields lie, then whether it is accepted, then the fields.
use Rattle.std.specs.Prelude.{ℕ, ◌+◌, ◌-◌, ◌/◌, Bool, false, List, [], ◌∷◌, length, take, drop, ◌==◌, nat_eq, nat_le, nat_lt, slice_index}
use Rattle.octets.specs.Numbers.{SHORT, TYPE, LENGTH, WIDTH, KEY, KIND, GROUP}
use Rattle.octets.specs.Choice.{pick}
use Rattle.octets.specs.Outcome.{Outcome, given, refused, on_outcome, unless, and_then}
use Rattle.octets.specs.Octets.{part, number_in}
use Rattle.fec_elements.specs.declared.Standing.TheVariants.{InBody}
use Rattle.fec_elements.specs.Reading.{read_fec}
use Rattle.nlri.specs.Family.{family_bits, root_family, allowed, is_originator_size}
use Rattle.nlri.specs.Bodies.{FieldKind, distinguisher, source_as, source, group, originator, key, fec, keyable, bodies, on_body, field_in}
use Rattle.nlri.specs.Fields.{Fields, is_discarded}

-- a field of n octets, n known
unfoldable pub fixed_field : ℕ → List ℕ → Outcome ℕ
fixed_field n s = pick (nat_lt (length s) n) (refused LENGTH) (given n)

-- an address of so many octets after its length octet, where s begins with that length octet
unfoldable pub address_end : ℕ → List ℕ → Outcome ℕ
address_end octets s = pick (nat_le (length s) octets) (refused LENGTH) (given (1 + octets))

-- a source or group; a bad length octet is WIDTH before its address is looked for
unfoldable pub address_field : (bits type : ℕ) → List ℕ → Outcome ℕ
address_field bits type s =
    pick (length s == 0) (refused LENGTH)
    (unless (allowed bits type (slice_index s 0)) WIDTH
    (address_end (slice_index s 0 / 8) s))

-- the originator is what remains
unfoldable pub originator_field : List ℕ → Outcome ℕ
originator_field s = unless (is_originator_size (length s)) LENGTH (given (length s))

-- how many octets the field at the front of s takes, or the number that refuses it; `key_field` judges the key of a type
unfoldable pub field_size : (ℕ → List ℕ → Outcome ℕ) → (bits type : ℕ) → FieldKind → List ℕ → Outcome ℕ
field_size key_field bits type distinguisher s = fixed_field 8 s
field_size key_field bits type source_as s = fixed_field 4 s
field_size key_field bits type source s = address_field bits type s
field_size key_field bits type group s = address_field bits type s
field_size key_field bits type originator s = originator_field s
field_size key_field bits type key s = key_field type s
field_size key_field bits type fec s = read_fec (InBody (root_family bits)) s

-- the sizes of a body's fields from left to right, the first fault deciding; nothing may remain
unfoldable pub sizes_of : (FieldKind → List ℕ → Outcome ℕ) → List FieldKind → List ℕ → Outcome (List ℕ)
sizes_of size [] s = pick (length s == 0) (given []) (refused LENGTH)
sizes_of size (k ∷ body) s = and_then (size k s) (λ n. and_then (sizes_of size body (drop n s)) (λ sizes. given (n ∷ sizes)))

-- where the fields of an NLRI lie: its type, its Length (`size`), its body's kinds of fields, and the size of each
pub record Laid : Type 0 where
  pub type : ℕ
  pub size : ℕ
  pub body : List FieldKind
  pub sizes : List ℕ

-- the NLRI at the front of s: SHORT, TYPE, then its body
unfoldable pub laid_with : (ℕ → List ℕ → Outcome ℕ) → ℕ → List ℕ → Outcome Laid
laid_with key_field bits s =
    pick (nat_lt (length s) 2) (refused SHORT)
    (pick (nat_lt (length s - 2) (slice_index s 1)) (refused SHORT)
    (on_body bodies (slice_index s 0) (refused TYPE)
    (λ body. and_then (sizes_of (field_size key_field bits (slice_index s 0)) body (part s 2 (slice_index s 1)))
    (λ sizes. given (record { type = slice_index s 0; size = slice_index s 1; body = body; sizes = sizes })))))

-- a key inside an NLRI that may stand in a key: there is none
unfoldable pub no_key : ℕ → List ℕ → Outcome ℕ
no_key type s = refused KEY

-- the key of a type is a whole NLRI of a type that may stand there, header included; any fault inside it is KEY
unfoldable pub key_field : (bits type : ℕ) → List ℕ → Outcome ℕ
key_field bits type s =
    on_outcome (λ fault. refused KEY) (λ laid. unless (keyable type laid.type) KEY (given (2 + laid.size)))
    (laid_with no_key bits s)

-- the NLRI at the front of s, of any type
unfoldable pub laid_at : ℕ → List ℕ → Outcome Laid
laid_at bits s = laid_with (key_field bits) bits s

-- a list cut into pieces of the sizes given
unfoldable pub cut : List ℕ → List ℕ → List (List ℕ)
cut [] s = []
cut (n ∷ sizes) s = take n s ∷ cut sizes (drop n s)

-- the fields of an NLRI whose body goes as `laid` says
unfoldable pub fields_of : Laid → List ℕ → Fields
fields_of laid s =
    let field : FieldKind → List ℕ = λ kind. field_in [] kind laid.body (cut laid.sizes (drop 2 s)) in
    record {
      type = laid.type;
      distinguisher = field distinguisher;
      source_as = number_in (field source_as) 0;
      source = drop 1 (field source);
      group = drop 1 (field group);
      originator = field originator;
      key = field key;
      fec = field fec;
    }

-- an NLRI laid out at the front of s is accepted, unless it is discarded: GROUP, after every other number (document 02, W-210)
unfoldable pub accepted : (bits : ℕ) → List ℕ → Laid → Outcome Laid
accepted bits s laid = pick (is_discarded bits (fields_of laid s)) (refused GROUP) (given laid)

-- the NLRI at the front of s, whatever stands after it
unfoldable pub accepted_at : ℕ → List ℕ → Outcome Laid
accepted_at bits s = and_then (laid_at bits s) (accepted bits s)

-- a single NLRI under a family: laid out, then LENGTH for octets after it, then GROUP
unfoldable pub accepted_single : ℕ → List ℕ → Outcome Laid
accepted_single bits s = and_then (laid_at bits s) (λ laid. unless (length s - 2 == laid.size) LENGTH (accepted bits s laid))

-- the fields of a single NLRI; FAMILY first
unfoldable pub read_nlri : ℕ → List ℕ → Outcome Fields
read_nlri afi s = and_then (family_bits afi) (λ bits. and_then (accepted_single bits s) (λ laid. given (fields_of laid s)))

-- the fields of a single NLRI of one type: NLRI reading, then KIND for any other type
abbrev pub read_of_type : (type afi : ℕ) → List ℕ → Outcome Fields
read_of_type type afi s = and_then (read_nlri afi s) (λ f. unless (f.type == type) KIND (given f))

-- whether octets are a single NLRI of type 3
unfoldable pub is_s_pmsi : ℕ → List ℕ → Bool
is_s_pmsi afi s = on_outcome (λ number. false) (λ f. nat_eq f.type 3) (read_nlri afi s)
