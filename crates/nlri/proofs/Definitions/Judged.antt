-- A field is read exactly where it stands encoded and well-formed, for every judge of keys.
use Rattle.std.proofs.Common.{◌≡◌, ℕ, suc, ◌-◌, ◌*◌, ◌/◌, ◌<◌, ◌≤◌, true, false, List, [], ◌∷◌, ◌++◌, length, get_or, take, drop, sym, refl, ap, ◌∙◌, subst, append-nil, arith, length-append, length-drop, length-take-le, get_or-take, le-ltb, ne_eqb}
use borrow.Author.Tests.{lt-leb}
use Rattle.octets.specs.Numbers.{KEY}
use Rattle.octets.specs.Outcome.{Outcome, given, refused}
use Rattle.octets.specs.Octets.{AllOctets, one, number_in, big_endian}
use Rattle.octets.proofs.Choice.{pick_true, pick-false, opposite}
use Rattle.octets.proofs.AllOctets.{octets-take, octets-drop, number_fits}
use Rattle.octets.proofs.Lists.{front_rest}
use Rattle.octets.proofs.NetworkOrder.{length-big_endian, octets-big_endian, big-endian-of-number}
use Rattle.fec_elements.proofs.Nesting.{size-read}
use Rattle.nlri.specs.Family.{allowed}
use Rattle.nlri.specs.Bodies.{FieldKind, distinguisher, source_as, source, group, originator, key, fec, same_kind, code_of}
use Rattle.nlri.specs.Fields.{Fields, encode_address, encode_field, FecOf, WellFormedField}
use Rattle.nlri.specs.Reading.{fixed_field, address_end, address_field, originator_field, field_size}
use Rattle.nlri.proofs.Definitions.Table.{most}
use Rattle.nlri.proofs.Definitions.Fecs.{fec-sound, fec-complete, octets-fec}
use Rattle.nlri.proofs.Definitions.Sizes.{fixed-is, address_is, originator-given}
use Rattle.nlri.proofs.Definitions.Lengths.{whole-octets, allowed-most, originator-sized}

-- a judge of keys that says of octets how many the key of a type at their front takes
pub record Judges (judge : ℕ → List ℕ → Outcome ℕ) (Key : ℕ → List ℕ → Type 0) : Type 0 where
  pub within : (type : ℕ) (s : List ℕ) (n : ℕ) → judge type s ≡ given n → n ≤ length s
  pub sound : (type : ℕ) (s : List ℕ) (n : ℕ) → AllOctets s → judge type s ≡ given n → (n ≤ length s) × Key type (take n s)
  pub complete : (type : ℕ) (k t : List ℕ) → Key type k → judge type (k ++ t) ≡ given (length k)
  pub refuses : (type : ℕ) (s : List ℕ) (n : ℕ) → judge type s ≡ refused n → n ≡ KEY

-- an originator is what remains
abbrev pub Closes : FieldKind → List ℕ → Type 0
Closes distinguisher t = Unit {0}
Closes source_as t = Unit {0}
Closes source t = Unit {0}
Closes group t = Unit {0}
Closes originator t = t ≡ []
Closes key t = Unit {0}
Closes fec t = Unit {0}

-- the fields whose encodings a function gives
abbrev pub fields_from : ℕ → (FieldKind → List ℕ) → Fields
fields_from type field =
    record {
      type = type;
      distinguisher = field distinguisher;
      source_as = number_in (field source_as) 0;
      source = drop 1 (field source);
      group = drop 1 (field group);
      originator = field originator;
      key = field key;
      fec = field fec;
    }

pub fixed-stands : (m : ℕ) (x t : List ℕ) → length x ≡ m → fixed_field m (x ++ t) ≡ given (length x)
unfolding fixed_field
fixed-stands m x t e = pick-false _ _ _ (le-ltb (length (x ++ t)) m (simp length-append (omega arith))) ∙ ap given (sym e)

-- an address read, as its octets encoded
pub record AddressRead (bits type : ℕ) (piece : List ℕ) : Type 0 where
  pub fits : allowed bits type (8 * length (drop 1 piece)) ≡ true
  pub encoded : encode_address (drop 1 piece) ≡ piece

pub address-given : (bits type n : ℕ) (s : List ℕ) → 8 * (bits / 8) ≡ bits → address_field bits type s ≡ given n → AddressRead bits type (take n s)
unfolding encode_address
address-given bits type n s whole e =
    let p = address_is bits type s n e in
    let l : length (take n s) ≡ n = length-take-le n s p.1 in
    let d : length (drop 1 (take n s)) ≡ n - 1 = rw length-drop (omega arith) in
    let first : get_or (take n s) 0 0 ≡ get_or s 0 0 = get_or-take n s 0 0 (omega (arith, p.0)) in
    let octet : 8 * length (drop 1 (take n s)) ≡ get_or s 0 0 = rw d (omega (arith, p.0, whole-octets bits type (get_or s 0 0) whole p.2)) in
    record { fits = rw octet p.2; encoded = ap (λ (b : ℕ). b ∷ drop 1 (take n s)) (octet ∙ sym first) ∙ sym (front_rest (take n s) (omega (arith, p.0))) }

pub address-stands : (bits type : ℕ) (x t : List ℕ) → allowed bits type (8 * length x) ≡ true → address_field bits type (encode_address x ++ t) ≡ given (length (encode_address x))
unfolding address_field address_end encode_address
address-stands bits type x t h =
    pick-false _ _ _ (ne_eqb (suc (length (x ++ t))) 0 (λ e. omega arith))
    ∙ pick_true _ _ _ h
    ∙ pick-false _ _ _ (lt-leb (suc (length (x ++ t))) (8 * length x / 8) (simp length-append (omega arith)))
    ∙ ap given (omega arith)

octets-address : (bits type : ℕ) (x : List ℕ) → bits ≤ 128 → allowed bits type (8 * length x) ≡ true → AllOctets x → AllOctets (encode_address x)
unfolding encode_address
octets-address bits type x small e a = let h : 8 * length x < 256 = omega (arith, allowed-most bits type (8 * length x) small e) in one h a

pub address-most : (type : ℕ) (s : List ℕ) (n : ℕ) {bits : ℕ} → bits ≤ 128 → address_field bits type s ≡ given n → n ≤ 17
address-most type s n {bits} small e = let p = address_is bits type s n e in omega (arith, p.0, allowed-most bits type (get_or s 0 0) small p.2)

-- a field read lies within the octets, and has at most so many
module _ (judge : ℕ → List ℕ → Outcome ℕ) (bits : ℕ) where
  pub field-within : ((type : ℕ) (s : List ℕ) (n : ℕ) → judge type s ≡ given n → n ≤ length s) → (type : ℕ) (k : FieldKind) (s : List ℕ) (n : ℕ) → field_size judge bits type k s ≡ given n → n ≤ length s
  unfolding field_size
  field-within within type distinguisher s n e = omega (arith, fixed-is 8 n s e)
  field-within within type source_as s n e = omega (arith, fixed-is 4 n s e)
  field-within within type source s n e = (address_is bits type s n e).1
  field-within within type group s n e = (address_is bits type s n e).1
  field-within within type originator s n e = omega (arith, (originator-given n s e).1)
  field-within within type key s n e = within type s n e
  field-within within type fec s n e = (size-read _ s n e).1

  pub field-most : (w type : ℕ) → ((s : List ℕ) (n : ℕ) → judge type s ≡ given n → n ≤ w) → bits ≤ 128 → (k : FieldKind) → same_kind k fec ≡ false → (s : List ℕ) (n : ℕ) → field_size judge bits type k s ≡ given n → n ≤ most w k
  unfolding field_size most same_kind code_of
  field-most w type bound small distinguisher h s n e = omega (arith, fixed-is 8 n s e)
  field-most w type bound small source_as h s n e = omega (arith, fixed-is 4 n s e)
  field-most w type bound small source h s n e = address-most type s n small e
  field-most w type bound small group h s n e = address-most type s n small e
  field-most w type bound small originator h s n e = let p = originator-given n s e in omega (arith, p.1, originator-sized (length s) p.0)
  field-most w type bound small key h s n e = bound s n e
  field-most w type bound small fec h s n e = absurd (opposite refl h)

  -- a field read is its encoding; the number in a source AS must be one of octets
  pub field-encoded : 8 * (bits / 8) ≡ bits → (type : ℕ) (k : FieldKind) (s : List ℕ) (n : ℕ) (field : FieldKind → List ℕ) → (same_kind source_as k ≡ true → AllOctets s)
      → field_size judge bits type k s ≡ given n → field k ≡ take n s → encode_field (fields_from type field) k ≡ take n s
  unfolding field_size encode_field same_kind code_of
  field-encoded whole type distinguisher s n field a e at = at
  field-encoded whole type source_as s n field a e at =
      let p = fixed-is 4 n s e in
      let l : length (field source_as) ≡ 4 = ap length at ∙ length-take-le n s (omega (arith, p.0, p.1)) ∙ sym p.0 in
      (rw l at (big-endian-of-number (subst AllOctets (sym at) (octets-take n (a refl))))) ∙ at
  field-encoded whole type source s n field a e at = rw at (address-given bits type n s whole e).encoded
  field-encoded whole type group s n field a e at = rw at (address-given bits type n s whole e).encoded
  field-encoded whole type originator s n field a e at = at
  field-encoded whole type key s n field a e at = at
  field-encoded whole type fec s n field a e at = at

module _ (judge : ℕ → List ℕ → Outcome ℕ) (Key : ℕ → List ℕ → Type 0) (judges : Judges judge Key) (bits : ℕ) (whole : 8 * (bits / 8) ≡ bits) where
  -- a field read is well-formed
  pub field-sound : (type : ℕ) (k : FieldKind) (s : List ℕ) (n : ℕ) (field : FieldKind → List ℕ) → AllOctets s → field_size judge bits type k s ≡ given n → field k ≡ take n s
      → WellFormedField Key bits (fields_from type field) k
  unfolding field_size
  field-sound type distinguisher s n field a e at =
      let p = fixed-is 8 n s e in
      (ap length at ∙ length-take-le n s (omega (arith, p.0, p.1)) ∙ sym p.0, subst AllOctets (sym at) (octets-take n a))
  field-sound type source_as s n field a e at =
      let p = fixed-is 4 n s e in
      let l : length (field source_as) ≡ 4 = ap length at ∙ length-take-le n s (omega (arith, p.0, p.1)) ∙ sym p.0 in
      rw l at (number_fits (subst AllOctets (sym at) (octets-take n a)))
  field-sound type source s n field a e at = rw at ((address-given bits type n s whole e).fits, octets-drop 1 (octets-take n a))
  field-sound type group s n field a e at = rw at ((address-given bits type n s whole e).fits, octets-drop 1 (octets-take n a))
  field-sound type originator s n field a e at =
      let p = originator-given n s e in
      let l : length (field originator) ≡ length s = ap length at ∙ length-take-le n s (omega arith) ∙ p.1 in
      (rw l p.0, subst AllOctets (sym at) (octets-take n a))
  field-sound type fec s n field a e at = subst (FecOf bits) (sym at) (fec-sound bits s n a e)
  field-sound type key s n field a e at = subst (Key type) (sym at) (judges.sound type s n a e).1

  -- a well-formed field that stands encoded is read
  pub field-complete : (f : Fields) (k : FieldKind) (t : List ℕ) → WellFormedField Key bits f k → Closes k t
      → field_size judge bits f.type k (encode_field f k ++ t) ≡ given (length (encode_field f k))
  unfolding field_size encode_field originator_field
  field-complete f distinguisher t w c = fixed-stands 8 f.distinguisher t w.0
  field-complete f source_as t w c = fixed-stands 4 (big_endian 4 f.source_as) t (length-big_endian 4 f.source_as)
  field-complete f source t w c = address-stands bits f.type f.source t w.0
  field-complete f group t w c = address-stands bits f.type f.group t w.0
  field-complete f originator t w c = rw (c, append-nil) (pick_true _ _ _ w.0)
  field-complete f key t w c = judges.complete f.type f.key t w
  field-complete f fec t w c = fec-complete bits f.fec t w

  pub octets-field : ((type : ℕ) (k : List ℕ) → Key type k → AllOctets k) → bits ≤ 128 → (f : Fields) (k : FieldKind) → WellFormedField Key bits f k → AllOctets (encode_field f k)
  unfolding encode_field encode_address
  octets-field of_key small f distinguisher h = h.1
  octets-field of_key small f source_as h = octets-big_endian 4 f.source_as
  octets-field of_key small f source h = octets-address bits f.type f.source small h.0 h.1
  octets-field of_key small f group h = octets-address bits f.type f.group small h.0 h.1
  octets-field of_key small f originator h = h.1
  octets-field of_key small f key h = of_key f.type f.key h
  octets-field of_key small f fec h = octets-fec bits f.fec h
