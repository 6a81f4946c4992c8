-- The numbers by which reading an NLRI refuses: SHORT to FAMILY and DEEP, so that none is DONE or one that a table decides.
use Rattle.std.proofs.Common.{◌≡◌, ℕ, ◌≤◌, List, [], ◌∷◌, drop, refl, ⊎_elim, arith}
use Rattle.octets.specs.Numbers.{DONE, SHORT, KEY, TABLE, ROOM, ABSENT, DEEP, GROUP}
use Rattle.octets.specs.Outcome.{Outcome, given, refused, number_of}
use Rattle.octets.proofs.Outcome.{Refuses, value, number, refuses-pick, refuses-then, refuses-turned, refuses-also}
use Rattle.fec_elements.specs.declared.Standing.{Standing}
use Rattle.fec_elements.specs.Reading.{read_fec}
use Rattle.fec_elements.proofs.Nesting.{read_number}
use Rattle.nlri.specs.Family.{family_bits}
use Rattle.nlri.specs.Bodies.{FieldKind, distinguisher, source_as, source, group, originator, key, fec, Row, row, bodies, on_body}
use Rattle.nlri.specs.Reading.{fixed_field, address_end, address_field, originator_field, field_size, sizes_of, laid_with, no_key, key_field, laid_at, Laid, accepted, accepted_at, accepted_single, read_nlri}
use Rattle.nlri.specs.Layouts.{layout_at, laid_layout}

-- the numbers of what is not laid out; those of reading, GROUP among them
abbrev pub ByLaying : ℕ → Type 0
ByLaying n = (SHORT ≤ n) × (n ≤ DEEP) × (n ≡ TABLE → ⊥) × (n ≡ ROOM → ⊥) × (n ≡ ABSENT → ⊥)

abbrev pub ByReading : ℕ → Type 0
ByReading n = (SHORT ≤ n) × (n ≤ GROUP) × (n ≡ TABLE → ⊥) × (n ≡ ROOM → ⊥) × (n ≡ ABSENT → ⊥)

pub laying : {A : Type 0} {o : Outcome A} → Refuses ByLaying o → Refuses ByReading o
laying = refuses-also (λ n p. (p.0, omega (arith, p.1), p.2, p.3, p.4))

-- reading that answers DONE gives a value
pub refuses-done : {A : Type 0} (o : Outcome A) → Refuses ByReading o → number_of o ≡ DONE → (a : A) × (o ≡ given a)
unfolding number_of
refuses-done (given a) u e = (a, refl)
refuses-done (refused n) (number p) e = absurd (omega arith)

refuses-each : {A : Type 0} {P : ℕ → Type 0} (o : Outcome A) → ((n : ℕ) → o ≡ refused n → P n) → Refuses P o
refuses-each (given a) h = value
refuses-each (refused n) h = number (h n refl)

refuses-body : {A : Type 0} (rows : List Row) (type n : ℕ) (next : List FieldKind → Outcome A) → ByLaying n → ((body : List FieldKind) → Refuses ByLaying (next body)) → Refuses ByLaying (on_body rows type (refused n) next)
unfolding on_body
refuses-body [] type n next p v = number p
refuses-body (row k body ∷ rows) type n next p v = refuses-pick _ _ _ (v body) (refuses-body rows type n next p v)

refuses-fixed : (n : ℕ) (s : List ℕ) → Refuses ByLaying (fixed_field n s)
unfolding fixed_field
refuses-fixed n s = refuses-pick _ _ _ (number (omega arith)) value

refuses-address : (bits type : ℕ) (s : List ℕ) → Refuses ByLaying (address_field bits type s)
unfolding address_field address_end
refuses-address bits type s = refuses-pick _ _ _ (number (omega arith)) (refuses-pick _ _ _ (refuses-pick _ _ _ (number (omega arith)) value) (number (omega arith)))

refuses-fec : (p : Standing) (s : List ℕ) → Refuses ByLaying (read_fec p s)
refuses-fec p s = refuses-each _ (λ n e. ⊎_elim (λ q. omega arith) (λ rest. ⊎_elim (λ q. omega arith) (λ q. omega arith) rest) (read_number p s n e))

module _ (judge : ℕ → List ℕ → Outcome ℕ) (judge-refuses : (type : ℕ) (s : List ℕ) → Refuses ByLaying (judge type s)) (bits : ℕ) where
  refuses-field : (type : ℕ) (k : FieldKind) (s : List ℕ) → Refuses ByLaying (field_size judge bits type k s)
  unfolding field_size originator_field
  refuses-field type distinguisher s = refuses-fixed 8 s
  refuses-field type source_as s = refuses-fixed 4 s
  refuses-field type source s = refuses-address bits type s
  refuses-field type group s = refuses-address bits type s
  refuses-field type originator s = refuses-pick _ _ _ value (number (omega arith))
  refuses-field type key s = judge-refuses type s
  refuses-field type fec s = refuses-fec _ s

  refuses-sizes : (type : ℕ) (body : List FieldKind) (s : List ℕ) → Refuses ByLaying (sizes_of (field_size judge bits type) body s)
  unfolding sizes_of
  refuses-sizes type [] s = refuses-pick _ _ _ value (number (omega arith))
  refuses-sizes type (k ∷ body) s = refuses-then _ _ (refuses-field type k s) (λ n. refuses-then _ _ (refuses-sizes type body (drop n s)) (λ sizes. value))

  pub refuses-laid : (s : List ℕ) → Refuses ByLaying (laid_with judge bits s)
  unfolding laid_with
  refuses-laid s =
      refuses-pick _ _ _ (number (omega arith))
      (refuses-pick _ _ _ (number (omega arith)) (refuses-body bodies _ _ _ (omega arith) (λ body. refuses-then _ _ (refuses-sizes _ body _) (λ sizes. value))))

pub refuses-no-key : (type : ℕ) (s : List ℕ) → Refuses ByLaying (no_key type s)
unfolding no_key
refuses-no-key type s = number {n = KEY} (omega arith)

pub refuses-key : (bits type : ℕ) (s : List ℕ) → Refuses ByLaying (key_field bits type s)
unfolding key_field
refuses-key bits type s = refuses-turned _ _ _ (omega arith) (λ laid. refuses-pick _ _ _ value (number (omega arith)))

pub refuses-front : (bits : ℕ) (s : List ℕ) → Refuses ByLaying (laid_at bits s)
unfolding laid_at
refuses-front bits s = refuses-laid (key_field bits) (refuses-key bits) bits s

pub refuses-accepted : (bits : ℕ) (s : List ℕ) (laid : Laid) → Refuses ByReading (accepted bits s laid)
unfolding accepted
refuses-accepted bits s laid = refuses-pick _ _ _ (number (omega arith)) value

pub refuses-laid-layout : (bits : ℕ) (s : List ℕ) → Refuses ByLaying (laid_layout bits s)
unfolding laid_layout
refuses-laid-layout bits s = refuses-then _ _ (refuses-front bits s) (λ laid. value)

pub refuses-layout : (bits : ℕ) (s : List ℕ) → Refuses ByReading (layout_at bits s)
unfolding layout_at accepted_at
refuses-layout bits s = refuses-then _ _ (refuses-then _ _ (laying (refuses-front bits s)) (refuses-accepted bits s)) (λ laid. value)

pub refuses-family : (afi : ℕ) → Refuses ByReading (family_bits afi)
unfolding family_bits
refuses-family afi = refuses-pick _ _ _ value (refuses-pick _ _ _ value (number (omega arith)))

pub refuses-nlri : (afi : ℕ) (s : List ℕ) → Refuses ByReading (read_nlri afi s)
unfolding read_nlri accepted_single
refuses-nlri afi s =
    refuses-then _ _ (refuses-family afi)
    (λ bits. refuses-then _ _ (refuses-then _ _ (laying (refuses-front bits s)) (λ laid. refuses-pick _ _ _ (refuses-accepted bits s laid) (number (omega arith)))) (λ laid. value))
