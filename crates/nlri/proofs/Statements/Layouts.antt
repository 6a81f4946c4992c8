-- The layout of an NLRI is that of the fields encoded.
use Rattle.std.proofs.Common.{◌≡◌, ℕ, suc, ◌+◌, ◌-◌, ◌*◌, ◌/◌, Bool, true, false, List, [], ◌++◌, length, Result, Ok, Err, sym, refl, ap, ◌∙◌, arith}
use Rattle.octets.specs.Choice.{pick}
use Rattle.octets.specs.Outcome.{given, refused}
use Rattle.octets.specs.Octets.{AllOctets}
use Rattle.octets.specs.declared.refusal.Refusal.{Refusal}
use Rattle.octets.proofs.Outcome.{and-goes-on, and-stops, passed, given-same, refused-same, refused-alike, never}
use Rattle.octets.proofs.Refusals.{refusal_number-apart}
use Rattle.nlri.specs.declared.header.Header.{Header}
use Rattle.nlri.specs.declared.layout.Layout.{Layout}
use Rattle.nlri.specs.Family.{family_bits}
use Rattle.nlri.specs.Bodies.{FieldKind, source, group, originator, key, fec, body_of, field_in, has_field}
use Rattle.nlri.specs.Fields.{Fields, encode_address, encode_field, encode_body, encode_nlri, restricted, WellFormed}
use Rattle.nlri.specs.Reading.{accepted_at, accepted_single, fields_of, read_nlri}
use Rattle.nlri.specs.Layouts.{layout_of, layout_at, layout_single, no_layout}
use Rattle.nlri.specs.Inner.{header_outcome}
use Rattle.nlri.specs.Rules.NlriRules.{ReadAs, layout_for, LayoutRule}
use Rattle.nlri.proofs.Definitions.Apart.{results-apart}
use Rattle.nlri.proofs.Definitions.Lengths.{family-octets}
use Rattle.nlri.proofs.Definitions.Table.{field-of-map}
use Rattle.nlri.proofs.Definitions.Whole.{laid_of, sizes_in}
use Rattle.nlri.proofs.Statements.Acceptance.{acceptance, laid-single, accepted-front}
use Rattle.nlri.proofs.Statements.ReadRefusals.{read_refusals}

-- sizes of a field where the body has it
length-pick-address : (b : Bool) (x : List ℕ) → pick b (length (encode_address x)) 0 - 1 ≡ length (pick b x [])
unfolding pick encode_address
length-pick-address true x = omega arith
length-pick-address false x = refl

length-pick : (b : Bool) (x : List ℕ) → pick b (length x) 0 ≡ length (pick b x [])
unfolding pick
length-pick true x = refl
length-pick false x = refl

layout-laid : (f : Fields) → layout_of (laid_of f) ≡ layout_for f
unfolding layout_of layout_for encode_field encode_nlri restricted
layout-laid f =
    let body : List FieldKind = body_of f.type in
    let at : (kind : FieldKind) → field_in 0 kind body (sizes_in f body) ≡ pick (has_field kind body) (length (encode_field f kind)) 0 = λ kind. field-of-map 0 (λ k. length (encode_field f k)) kind body in
    let len : length (encode_body f body) ≡ suc (suc (length (encode_body f body))) - 2 = omega arith in
    let s = ap (λ (n : ℕ). n - 1) (at source) ∙ length-pick-address (has_field source body) f.source in
    let g = ap (λ (n : ℕ). n - 1) (at group) ∙ length-pick-address (has_field group body) f.group in
    let o = at originator ∙ length-pick (has_field originator body) f.originator in
    let k = at key ∙ length-pick (has_field key body) f.key in
    let c = at fec ∙ length-pick (has_field fec body) f.fec in
    λ i. record { route_type = f.type; length = len i; source = s i; group = g i; originator = o i; key = k i; fec = c i }

pub length-encoded : (f : Fields) → 2 + length (encode_body f (body_of f.type)) ≡ length (encode_nlri f)
unfolding encode_nlri
length-encoded f = omega arith

-- the NLRI at the front
module _ (afi bits : ℕ) (of_family : family_bits afi ≡ given bits) where
  whole : 8 * (bits / 8) ≡ bits
  whole = (family-octets afi bits of_family).0

  pub layout-encoded : (f : Fields) (t : List ℕ) → WellFormed bits f → layout_at bits (encode_nlri f ++ t) ≡ given (layout_for f)
  unfolding layout_at
  layout-encoded f t w = sym (and-goes-on _ _ _ _ (accepted-front afi bits of_family f t w) (ap given (sym (layout-laid f))))

pub layout-refused : (bits : ℕ) (s : List ℕ) (n : ℕ) → accepted_at bits s ≡ refused n → layout_at bits s ≡ refused n
unfolding layout_at
layout-refused bits s n e = sym (and-stops _ _ _ e)

-- a single NLRI
layout-single-encoded : (afi : ℕ) (s : List ℕ) (f : Fields) → ReadAs afi s f → layout_single afi s ≡ given (layout_for f)
unfolding layout_single
layout-single-encoded afi s f r =
    sym (and-goes-on _ _ _ _ r.of_family (and-goes-on _ _ _ _ (ap (accepted_single r.bits) r.encoded ∙ laid-single afi r.bits r.of_family f r.well_formed) (ap given (sym (layout-laid f)))))

layout-single-given : (afi : ℕ) (s : List ℕ) (l : Layout) → AllOctets s → layout_single afi s ≡ given l → (f : Fields) × ReadAs afi s f × (l ≡ layout_for f)
unfolding layout_single read_nlri
layout-single-given afi s l a e =
    let family = passed _ _ _ e in
    let laid = passed _ _ _ family.second in
    let f : Fields = fields_of laid.value s in
    let r : ReadAs afi s f = (acceptance.exactly afi s f a).0 (sym (and-goes-on _ _ _ _ family.first (and-goes-on _ _ _ _ laid.first refl))) in
    (f, r, given-same (sym e ∙ layout-single-encoded afi s f r))

layout-single-refused : (afi : ℕ) (s : List ℕ) (n : ℕ) → layout_single afi s ≡ refused n → read_nlri afi s ≡ refused n
unfolding layout_single read_nlri
layout-single-refused afi s n e = refused-alike (family_bits afi) (λ bits. accepted_single bits s) (λ bits laid. layout_of laid) (λ bits laid. fields_of laid s) n e

layout-single-refuses : (afi : ℕ) (s : List ℕ) (n : ℕ) → read_nlri afi s ≡ refused n → layout_single afi s ≡ refused n
unfolding layout_single read_nlri
layout-single-refuses afi s n e = refused-alike (family_bits afi) (λ bits. accepted_single bits s) (λ bits laid. fields_of laid s) (λ bits laid. layout_of laid) n e

-- headers of the same number, type and Length
headers-apart : (a b : Result Header Refusal) → header_outcome a ≡ header_outcome b → a ≡ b
headers-apart (Ok a) (Ok b) e = let same = given-same {A = ℕ × ℕ} e in λ i. Ok (record { route_type = (same i).0; length = (same i).1 })
headers-apart (Ok a) (Err n) e = absurd (never {o = given (a.route_type, a.length)} refl e)
headers-apart (Err m) (Ok b) e = absurd (never {o = given (b.route_type, b.length)} refl (sym e))
headers-apart (Err m) (Err n) e = ap Err (refusal_number-apart m n (refused-same {A = ℕ × ℕ} e))

pub layout_rule : LayoutRule
unfolding no_layout
layout_rule =
    record {
      exactly = λ afi s l a. (layout-single-given afi s l a, λ h. layout-single-encoded afi s h.0 h.1 ∙ ap given (sym h.2));
      refuses = λ afi s n a. (λ e. (read_refusals.exactly afi s n a).0 (layout-single-refused afi s n e), λ h. layout-single-refuses afi s n ((read_refusals.exactly afi s n a).1 h));
      none = refl;
      apart = results-apart;
      headers_apart = headers-apart;
    }
