-- Reading refuses exactly as the first fault says (document 01, "The numbers a call gives back").
use Rattle.std.proofs.Common.{◌≡◌, ℕ, ◌*◌, ◌/◌, ◌<◌, ◌≤◌, true, false, List, [], ◌∷◌, ◌++◌, length, get_or, take, drop, sym, refl, ap, ◌∙◌, subst, inl, inr, ⊎_elim, append-nil, arith, length-drop, take-append-drop, length-take-le, ltb-true, lt-ltb, eq-eqb, ne_eqb, eqb-true, le-leb, leb-true}
use borrow.Author.Tests.{eqb-false}
use lib.Seq.{take-length, drop-append_seam, drop-length}
use Rattle.octets.specs.Numbers.{DONE, LENGTH}
use Rattle.octets.specs.Outcome.{given, refused}
use Rattle.octets.specs.Octets.{AllOctets}
use Rattle.octets.proofs.Choice.{pick_true, pick-false, picked}
use Rattle.octets.proofs.Outcome.{and-goes-on, and-stops, never, refused-same, stopped, outcome, refuses-where, refuses-unless}
use Rattle.octets.proofs.AllOctets.{octets-drop}
use Rattle.octets.proofs.Lists.{front_rest}
use Rattle.nlri.specs.Family.{allowed, is_originator_size}
use Rattle.nlri.specs.Bodies.{FieldKind, distinguisher, source_as, source, group, originator, key, fec}
use Rattle.nlri.specs.Fields.{encode_address, KeyOf}
use Rattle.nlri.specs.Reading.{fixed_field, address_end, address_field, originator_field, field_size, sizes_of, key_field}
use Rattle.nlri.specs.Rules.NlriRules.{AddressAt, FieldAt, AddressFault, missing, width, ends, Fault, Faulty, remains, here, later, BodyFault}
use Rattle.nlri.proofs.Definitions.Sizes.{fixed-is, originator-given}
use Rattle.nlri.proofs.Definitions.Judged.{Judges, AddressRead, address-given, address-stands, fixed-stands}
use Rattle.fec_elements.proofs.Theorems.{nested_fec_rule}
use Rattle.nlri.proofs.Definitions.Fecs.{fec-sound, fec-complete, fault-number}
use Rattle.nlri.proofs.Definitions.Keys.{key-judges}

fixed-refused : (m n : ℕ) (s : List ℕ) → fixed_field m s ≡ refused n → (length s < m) × (n ≡ LENGTH)
unfolding fixed_field
fixed-refused m n s e = let p = refuses-where _ _ _ _ e in (ltb-true _ _ p.0, p.1)

fixed-refuses : (m n : ℕ) (s : List ℕ) → (length s < m) × (n ≡ LENGTH) → fixed_field m s ≡ refused n
unfolding fixed_field
fixed-refuses m n s h = pick_true _ _ _ (lt-ltb (length s) m h.0) ∙ ap refused (sym h.1)

address-refused : (bits type n : ℕ) (s : List ℕ) → address_field bits type s ≡ refused n → AddressFault bits type s n
unfolding address_field address_end
address-refused bits type n s e =
    ⊎_elim (λ none. subst (AddressFault bits type s) (refused-same {A = ℕ} none.1) (missing (eqb-true _ _ none.0)))
    (λ some.
    let one : 1 ≤ length s = omega (arith, eqb-false (length s) 0 some.0) in
    ⊎_elim (λ good. let p = refuses-where _ _ _ _ good.1 in subst (AddressFault bits type s) (sym p.1) (ends one good.0 (omega (arith, leb-true))))
    (λ bad. subst (AddressFault bits type s) (refused-same {A = ℕ} bad.1) (width one bad.0))
    (picked _ _ _ _ some.1))
    (picked _ _ _ _ e)

address-refuses : (bits type n : ℕ) (s : List ℕ) → AddressFault bits type s n → address_field bits type s ≡ refused n
unfolding address_field address_end
address-refuses bits type n s (missing h) = pick_true _ _ _ (eq-eqb (length s) 0 h)
address-refuses bits type n s (width some bad) = pick-false _ _ _ (ne_eqb (length s) 0 (λ e. omega arith)) ∙ pick-false _ _ _ bad
address-refuses bits type n s (ends some good h) =
    pick-false _ _ _ (ne_eqb (length s) 0 (λ e. omega arith)) ∙ pick_true _ _ _ good ∙ pick_true _ _ _ (le-leb (length s) (get_or s 0 0 / 8) (omega arith))

originator-refused : (n : ℕ) (s : List ℕ) → originator_field s ≡ refused n → (is_originator_size (length s) ≡ false) × (n ≡ LENGTH)
unfolding originator_field
originator-refused n s e = refuses-unless _ _ _ _ e

originator-refuses : (n : ℕ) (s : List ℕ) → (is_originator_size (length s) ≡ false) × (n ≡ LENGTH) → originator_field s ≡ refused n
unfolding originator_field
originator-refuses n s h = pick-false _ _ _ h.0 ∙ ap refused (sym h.1)

length-fixed : (m n : ℕ) (s : List ℕ) → fixed_field m s ≡ given n → length (take n s) ≡ m
length-fixed m n s e = let p = fixed-is m n s e in rw (sym p.0) (length-take-le m s p.1)

-- an address by its length octet and by its encoding
address-encoded : (bits type : ℕ) (a : List ℕ) → allowed bits type (8 * length a) ≡ true → AddressAt bits type (encode_address a)
unfolding encode_address
address-encoded bits type a h = (omega arith, h, omega arith)

read-address : (bits type : ℕ) (x : List ℕ) → AddressRead bits type x → AddressAt bits type x
read-address bits type x r = subst (AddressAt bits type) r.encoded (address-encoded bits type (drop 1 x) r.fits)

address-whole : (bits type : ℕ) (x : List ℕ) → AddressAt bits type x → (encode_address (drop 1 x) ≡ x) × (allowed bits type (8 * length (drop 1 x)) ≡ true)
unfolding encode_address
address-whole bits type x h =
    let octet : 8 * length (drop 1 x) ≡ get_or x 0 0 = rw length-drop h.2 in
    (ap (λ (n : ℕ). n ∷ drop 1 x) octet ∙ sym (front_rest x h.0), ap (allowed bits type) octet ∙ h.1)

address-reads : (bits type : ℕ) (x t : List ℕ) → AddressAt bits type x → address_field bits type (x ++ t) ≡ given (length x)
address-reads bits type x t h =
    let p = address-whole bits type x h in
    subst (λ (y : List ℕ). address_field bits type (y ++ t) ≡ given (length y)) p.0 (address-stands bits type (drop 1 x) t p.1)

module _ (bits : ℕ) (whole : 8 * (bits / 8) ≡ bits) where
  judges : Judges (key_field bits) (KeyOf bits)
  judges = key-judges bits whole

  field-refused : (type : ℕ) (k : FieldKind) (s : List ℕ) (n : ℕ) → AllOctets s → field_size (key_field bits) bits type k s ≡ refused n → Fault bits type k s n
  unfolding field_size
  field-refused type distinguisher s n a e = fixed-refused 8 n s e
  field-refused type source_as s n a e = fixed-refused 4 n s e
  field-refused type source s n a e = address-refused bits type n s e
  field-refused type group s n a e = address-refused bits type n s e
  field-refused type originator s n a e = originator-refused n s e
  field-refused type fec s n a e = (nested_fec_rule.exactly _ s n a).0 e
  field-refused type key s n a e =
      (λ size fits of. never (ap (key_field bits type) (sym (take-append-drop size s)) ∙ judges.complete type (take size s) (drop size s) of) e, judges.refuses type s n e)

  fault-refuses : (type : ℕ) (k : FieldKind) (s : List ℕ) (n : ℕ) → AllOctets s → Fault bits type k s n → field_size (key_field bits) bits type k s ≡ refused n
  unfolding field_size
  fault-refuses type distinguisher s n a h = fixed-refuses 8 n s h
  fault-refuses type source_as s n a h = fixed-refuses 4 n s h
  fault-refuses type source s n a h = address-refuses bits type n s h
  fault-refuses type group s n a h = address-refuses bits type n s h
  fault-refuses type originator s n a h = originator-refuses n s h
  fault-refuses type fec s n a h = (nested_fec_rule.exactly _ s n a).1 h
  fault-refuses type key s n a h =
      ⊎_elim (λ yes. let p = judges.sound type s yes.0 a yes.1 in absurd (h.0 yes.0 p.0 p.1))
      (λ no. no.1 ∙ ap refused (judges.refuses type s no.0 no.1 ∙ sym h.1)) (outcome (key_field bits type s))

  -- a field that was read stands at the front
  field_at : (type : ℕ) (k : FieldKind) (s : List ℕ) (n : ℕ) → AllOctets s → field_size (key_field bits) bits type k s ≡ given n → FieldAt bits type k (take n s) (drop n s)
  unfolding field_size
  field_at type distinguisher s n a e = length-fixed 8 n s e
  field_at type source_as s n a e = length-fixed 4 n s e
  field_at type source s n a e = read-address bits type (take n s) (address-given bits type n s whole e)
  field_at type group s n a e = read-address bits type (take n s) (address-given bits type n s whole e)
  field_at type originator s n a e =
      let p = originator-given n s e in
      (rw (p.1, take-length) p.0, ap (λ (m : ℕ). drop m s) p.1 ∙ drop-length s)
  field_at type fec s n a e = fec-sound bits s n a e
  field_at type key s n a e = (judges.sound type s n a e).1

  -- and a field that stands at the front is read
  field-reads : (type : ℕ) (k : FieldKind) (x t : List ℕ) → FieldAt bits type k x t → field_size (key_field bits) bits type k (x ++ t) ≡ given (length x)
  unfolding field_size originator_field
  field-reads type distinguisher x t h = fixed-stands 8 x t h
  field-reads type source_as x t h = fixed-stands 4 x t h
  field-reads type source x t h = address-reads bits type x t h
  field-reads type group x t h = address-reads bits type x t h
  field-reads type originator x t h = rw (h.1, append-nil) (pick_true _ _ _ h.0)
  field-reads type fec x t h = fec-complete bits x t h
  field-reads type key x t h = judges.complete type x t h

  pub body_refused : (type : ℕ) (body : List FieldKind) (s : List ℕ) (n : ℕ) → AllOctets s → sizes_of (field_size (key_field bits) bits type) body s ≡ refused n → Faulty bits type body s n
  unfolding sizes_of
  body_refused type [] s n a e =
      let p = refuses-unless _ _ _ _ e in
      let some : 0 < length s = omega (arith, eqb-false (length s) 0 p.0) in
      subst (Faulty bits type [] s) (sym p.1) (remains some)
  body_refused type (k ∷ body) s n a e =
      ⊎_elim (λ first. here (field-refused type k s n a first))
      (λ next.
      let m : ℕ = next.value in
      later (take m s) (drop m s) (sym (take-append-drop m s)) (field_at type k s m a next.first)
      (body_refused type body (drop m s) n (octets-drop m a) (⊎_elim (λ rest. rest) (λ none. absurd (never refl none.second)) (stopped _ _ _ next.second))))
      (stopped _ _ _ e)

  pub faulty-refuses : (type : ℕ) (body : List FieldKind) (s : List ℕ) (n : ℕ) → AllOctets s → Faulty bits type body s n → sizes_of (field_size (key_field bits) bits type) body s ≡ refused n
  unfolding sizes_of
  faulty-refuses type body s n a (remains h) = pick-false _ _ _ (ne_eqb (length s) 0 (λ e. omega arith))
  faulty-refuses type body s n a (here {k = k} fault) = sym (and-stops _ _ _ (fault-refuses type k s n a fault))
  faulty-refuses type body s n a (later {k = k} {body = rest} x t e at fault) =
      let size : field_size (key_field bits) bits type k s ≡ given (length x) = ap (field_size (key_field bits) bits type k) e ∙ field-reads type k x t at in
      let remainder : drop (length x) s ≡ t = ap (drop (length x)) e ∙ drop-append_seam x t in
      let o : AllOctets t = subst AllOctets remainder (octets-drop (length x) a) in
      sym (and-goes-on _ _ _ _ size (and-stops _ _ _ (ap (sizes_of (field_size (key_field bits) bits type) rest) remainder ∙ faulty-refuses type rest t n o fault)))

address-numbers : (bits type : ℕ) (s : List ℕ) (n : ℕ) → AddressFault bits type s n → BodyFault n
address-numbers bits type s n (missing h) = inl refl
address-numbers bits type s n (width some bad) = inr (inl refl)
address-numbers bits type s n (ends some good h) = inl refl

pub faulty-numbers : (bits type : ℕ) (body : List FieldKind) (s : List ℕ) (n : ℕ) → Faulty bits type body s n → BodyFault n
faulty-numbers bits type body s n (remains h) = inl refl
faulty-numbers bits type body s n (here {k = k} fault) = at k fault
  where
    at : (k : FieldKind) → Fault bits type k s n → BodyFault n
    at distinguisher h = inl h.1
    at source_as h = inl h.1
    at source h = address-numbers bits type s n h
    at group h = address-numbers bits type s n h
    at originator h = inl h.1
    at key h = inr (inr (inl h.1))
    at fec h = ⊎_elim inl (λ rest. inr (inr (inr rest))) (fault-number h)
faulty-numbers bits type body s n (later {body = rest} x t e at fault) = faulty-numbers bits type rest t n fault

-- and none is DONE
pub fault-not-done : (n : ℕ) → BodyFault n → n ≡ DONE → ⊥
fault-not-done n h e =
    ⊎_elim (λ p. omega arith) (λ a. ⊎_elim (λ p. omega arith) (λ b. ⊎_elim (λ p. omega arith) (λ c. ⊎_elim (λ p. omega arith) (λ p. omega arith) c) b) a) h
