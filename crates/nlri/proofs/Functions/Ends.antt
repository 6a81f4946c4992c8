-- The number of the fields that are left of a body, by the first of them; and the number of a body by its route type.
use Rattle.std.proofs.Common.{◌≡◌, ℕ, ◌+◌, ◌-◌, ◌/◌, ◌<◌, ◌≤◌, Bool, true, false, eqb, ltb, leb, ◌⊎◌, List, [], ◌∷◌, length, get_or, drop, sym, refl, ap, ◌∙◌, ap₂, inl, inr, ⊎_elim, add-zero, zero-add, arith, length-drop, get_or-drop, drop-drop, ltb-false, ltb-true, le-ltb, lt-ltb, eq-eqb, ne_eqb, eqb-true, leb-false, leb-true}
use borrow.Author.Tests.{eqb-false}
use Rattle.octets.specs.Numbers.{DONE, TYPE, LENGTH, WIDTH}
use Rattle.octets.specs.Choice.{pick, either}
use Rattle.octets.specs.Outcome.{Outcome, given, refused, and_then, number_of}
use Rattle.octets.proofs.Choice.{pick_true, pick-false, pick-case, picks, skips, tested, either_true, either-false, either-false-left, either-false-right, opposite}
use Rattle.octets.proofs.Outcome.{number-goes, number-stops, refused-of, done-given}
use Rattle.fec_elements.specs.declared.Standing.TheVariants.{InBody}
use Rattle.fec_elements.specs.Reading.{opaque_start, fec_size, read_fec}
use Rattle.fec_elements.proofs.Nesting.{read-refused, size-read}
use Rattle.nlri.specs.Family.{root_family, allowed, is_originator_size}
use Rattle.nlri.specs.Bodies.{FieldKind, distinguisher, source_as, source, group, originator, key, fec, KnownType, bodies, on_body, code_of, same_kind, has_field}
use Rattle.nlri.specs.Reading.{fixed_field, address_end, address_field, originator_field, field_size, sizes_of, key_field}
use Rattle.nlri.specs.Inner.{left_fault, body_fault, after_flow, after_fec, source_start, is_mldp}
use Rattle.nlri.proofs.Definitions.Table.{listed, on-body, unlisted, apart}
use Rattle.nlri.proofs.Definitions.Starts.{sizes-same}

pub number-mapped : {A B : Type 0} (o : Outcome A) (f : A → B) → number_of (and_then o (λ a. given (f a))) ≡ number_of o
unfolding number_of and_then
number-mapped (given a) f = refl
number-mapped (refused n) f = refl

pub number-typed : {A : Type 0} (b : Bool) (o : Outcome A) → pick b (number_of o) TYPE ≡ number_of (pick b o (refused TYPE))
unfolding pick number_of
number-typed true o = refl
number-typed false o = refl

module _ (bits type : ℕ) where
  abbrev size : FieldKind → List ℕ → Outcome ℕ
  size = field_size (key_field bits) bits type

  left-past : (kinds : List FieldKind) (at : ℕ) (s : List ℕ) → length s < at → LENGTH ≡ left_fault bits type kinds at s
  unfolding left_fault
  left-past kinds at s h = picks _ _ _ _ (lt-ltb (length s) at h) refl

  left-refused : (k : FieldKind) (kinds : List FieldKind) (at : ℕ) (s : List ℕ) (m : ℕ) → at ≤ length s → size k (drop at s) ≡ refused m → m ≡ left_fault bits type (k ∷ kinds) at s
  unfolding left_fault sizes_of
  left-refused k kinds at s m h e = skips _ _ _ _ (le-ltb (length s) at h) (number-stops m _ _ e)

  left-given : (k : FieldKind) (kinds : List FieldKind) (at : ℕ) (s : List ℕ) (n : ℕ) → at + n ≤ length s → size k (drop at s) ≡ given n → left_fault bits type kinds (at + n) s ≡ left_fault bits type (k ∷ kinds) at s
  unfolding left_fault sizes_of
  left-given k kinds at s n h e =
      pick-false _ _ _ (le-ltb (length s) (at + n) h)
      ∙ skips _ _ _ _ (le-ltb (length s) at (omega arith)) (number-goes _ _ n _ e (ap (λ (y : List ℕ). number_of (sizes_of size kinds y)) (sym (drop-drop n at s)) ∙ sym (number-mapped _ _)))

  -- what stands further on in the octets
  pub left-drop : (kinds : List FieldKind) (k at : ℕ) (s : List ℕ) → k ≤ length s → left_fault bits type kinds at (drop k s) ≡ left_fault bits type kinds (k + at) s
  unfolding left_fault
  left-drop kinds k at s h =
      let l = length-drop k s in
      let same : ltb (length (drop k s)) at ≡ ltb (length s) (k + at) =
      tested (ltb (length s) (k + at)) (λ t. lt-ltb (length (drop k s)) at (omega (arith, ltb-true)) ∙ sym t) (λ f. le-ltb (length (drop k s)) at (omega (arith, ltb-false)) ∙ sym f) in
      ap₂ (λ (b : Bool) (y : List ℕ). pick b LENGTH (number_of (sizes_of size kinds y))) same (drop-drop at k s)

  -- a field of a fixed size
  pub left-fixed : (k : FieldKind) (kinds : List FieldKind) (n at : ℕ) (s : List ℕ) → ((y : List ℕ) → size k y ≡ fixed_field n y) → left_fault bits type kinds (at + n) s ≡ left_fault bits type (k ∷ kinds) at s
  unfolding fixed_field
  left-fixed k kinds n at s is =
      let l = length-drop at s in
      tested (ltb (length s) (at + n))
      (λ short.
      sym (left-past kinds (at + n) s (ltb-true _ _ short))
      ∙ tested (ltb (length s) at) (λ past. left-past (k ∷ kinds) at s (ltb-true _ _ past))
      (λ inside. left-refused k kinds at s LENGTH (ltb-false _ _ inside) (is _ ∙ pick_true _ _ _ (lt-ltb (length (drop at s)) n (omega (arith, ltb-true, ltb-false))))))
      (λ long. left-given k kinds at s n (ltb-false _ _ long) (is _ ∙ pick-false _ _ _ (le-ltb (length (drop at s)) n (omega (arith, ltb-false)))))

  -- a source or group whose length octet stands at `at`
  module _ (k : FieldKind) (is : (y : List ℕ) → size k y ≡ address_field bits type y) (kinds : List FieldKind) (at : ℕ) (s : List ℕ) where
    pub left-missing : length s ≤ at → LENGTH ≡ left_fault bits type (k ∷ kinds) at s
    unfolding address_field
    left-missing h =
        let l = length-drop at s in
        tested (ltb (length s) at) (λ past. left-past (k ∷ kinds) at s (ltb-true _ _ past))
        (λ inside. left-refused k kinds at s LENGTH (ltb-false _ _ inside) (is _ ∙ pick_true _ _ _ (eq-eqb (length (drop at s)) 0 (omega arith))))

    module _ (some : at < length s) where
      octet : get_or (drop at s) 0 0 ≡ get_or s at 0
      octet = get_or-drop at s 0 0 ∙ ap (λ (i : ℕ). get_or s i 0) (add-zero at)

      there : size k (drop at s) ≡ pick (allowed bits type (get_or s at 0)) (address_end (get_or s at 0 / 8) (drop at s)) (refused WIDTH)
      unfolding address_field
      there =
          let l = length-drop at s in
          is _ ∙ pick-false _ _ _ (ne_eqb (length (drop at s)) 0 (λ q. omega arith)) ∙ ap (λ (n : ℕ). pick (allowed bits type n) (address_end (n / 8) (drop at s)) (refused WIDTH)) octet

      pub left-wide : allowed bits type (get_or s at 0) ≡ false → WIDTH ≡ left_fault bits type (k ∷ kinds) at s
      left-wide bad = left-refused k kinds at s WIDTH (omega arith) (there ∙ pick-false _ _ _ bad)

      pub left-allowed : allowed bits type (get_or s at 0) ≡ true → left_fault bits type kinds (at + 1 + get_or s at 0 / 8) s ≡ left_fault bits type (k ∷ kinds) at s
      unfolding address_end
      left-allowed good =
          let l = length-drop at s in
          let next : at + 1 + get_or s at 0 / 8 ≡ at + (1 + get_or s at 0 / 8) = omega arith in
          tested (leb (length (drop at s)) (get_or s at 0 / 8))
          (λ t. sym (left-past kinds _ s (omega (arith, leb-true))) ∙ left-refused k kinds at s LENGTH (omega arith) (there ∙ pick_true _ _ _ good ∙ pick_true _ _ _ t))
          (λ f. ap (λ (i : ℕ). left_fault bits type kinds i s) next ∙ left-given k kinds at s _ (omega (arith, leb-false)) (there ∙ pick_true _ _ _ good ∙ pick-false _ _ _ f))

  -- nothing left
  module _ (at : ℕ) (s : List ℕ) where
    pub left-none : length s ≡ at → DONE ≡ left_fault bits type [] at s
    unfolding left_fault sizes_of number_of
    left-none e = let l = length-drop at s in skips _ _ _ _ (le-ltb (length s) at (omega arith)) (ap number_of (sym (pick_true _ _ _ (eq-eqb (length (drop at s)) 0 (omega arith)))))

    pub left-some : (length s ≡ at → ⊥) → LENGTH ≡ left_fault bits type [] at s
    unfolding left_fault sizes_of number_of
    left-some h =
        let l = length-drop at s in
        tested (ltb (length s) at) (λ past. left-past [] at s (ltb-true _ _ past))
        (λ inside. skips _ _ _ _ inside (ap number_of (sym (pick-false _ _ _ (ne_eqb (length (drop at s)) 0 (λ q. h (omega (arith, ltb-false))))))))

  -- the originator, which is what remains
  module _ (at : ℕ) (s : List ℕ) where
    pub left-originator : (rest : ℕ) → length s ≡ at + rest → is_originator_size rest ≡ true → DONE ≡ left_fault bits type (originator ∷ []) at s
    unfolding field_size originator_field
    left-originator rest e h =
        let l : length (drop at s) ≡ rest = let d = length-drop at s in omega arith in
        left-none (at + rest) s e ∙ left-given originator [] at s rest (omega arith) (rw l (pick_true _ _ _ h))

    pub left-no-originator : (length s ≡ at + 4 → ⊥) → (length s ≡ at + 16 → ⊥) → LENGTH ≡ left_fault bits type (originator ∷ []) at s
    unfolding field_size originator_field is_originator_size
    left-no-originator p q =
        let l = length-drop at s in
        tested (ltb (length s) at) (λ past. left-past (originator ∷ []) at s (ltb-true _ _ past))
        (λ inside. left-refused originator [] at s LENGTH (ltb-false _ _ inside) (pick-false _ _ _ (either-false _ _
        (ne_eqb (length (drop at s)) 4 (λ h. p (omega (arith, ltb-false)))) (ne_eqb (length (drop at s)) 16 (λ h. q (omega (arith, ltb-false)))))))

  pub left-other-originator : (at : ℕ) (s : List ℕ) (rest : ℕ) → length s ≡ at + rest → is_originator_size rest ≡ false → LENGTH ≡ left_fault bits type (originator ∷ []) at s
  unfolding is_originator_size
  left-other-originator at s rest e h =
      left-no-originator at s (λ q. eqb-false rest 4 (either-false-left _ _ h) (omega arith)) (λ q. eqb-false rest 16 (either-false-right _ _ h) (omega arith))

  -- a key, which stands first
  module _ (kinds : List FieldKind) (s : List ℕ) where
    pub left-keyed : (n : ℕ) → n ≤ length s → key_field bits type s ≡ given n → left_fault bits type kinds n s ≡ left_fault bits type (key ∷ kinds) 0 s
    unfolding field_size
    left-keyed n h e = ap (λ (i : ℕ). left_fault bits type kinds i s) (sym (zero-add n)) ∙ left-given key kinds 0 s n (omega arith) e

    pub left-unkeyed : (m : ℕ) → key_field bits type s ≡ refused m → m ≡ left_fault bits type (key ∷ kinds) 0 s
    unfolding field_size
    left-unkeyed m e = left-refused key kinds 0 s m (omega arith) e

  -- a FEC, and what is left behind it
  module _ (kinds : List FieldKind) (at : ℕ) (s : List ℕ) where
    pub left-fec-past : length s < at → LENGTH ≡ left_fault bits type (fec ∷ kinds) at s
    left-fec-past h = left-past (fec ∷ kinds) at s h

    module _ (inside : at ≤ length s) (rest : List ℕ) (is : rest ≡ drop at s) (n : ℕ) (e : n ≡ number_of (read_fec (InBody (root_family bits)) rest)) where
      pub left-fec-bad : (n ≡ DONE → ⊥) → n ≡ left_fault bits type (fec ∷ kinds) at s
      unfolding field_size
      left-fec-bad faulty = left-refused fec kinds at s n inside (ap (read_fec (InBody (root_family bits))) (sym is) ∙ refused-of _ n e faulty)

      fec-read : n ≡ DONE → (size : ℕ) × (read_fec (InBody (root_family bits)) rest ≡ given size)
      fec-read done = done-given _ (λ m q. (read-refused _ rest m q).1) (sym e ∙ done)

      -- the FEC, with its lengths, lies within what it stands in
      pub fec-left : n ≡ DONE → (fec_size rest ≤ length rest) × (opaque_start rest ≤ length rest)
      fec-left done = let r = fec-read done in let f = size-read _ rest r.0 r.1 in (omega (arith, f.0, f.1), f.2)

      pub left-fec-good : n ≡ DONE → (r left : ℕ) → left ≡ length rest - fec_size rest → ((i : ℕ) → length s ≡ i + left → r ≡ left_fault bits type kinds i s) → r ≡ left_fault bits type (fec ∷ kinds) at s
      unfolding field_size
      left-fec-good done r left el next =
          let q = fec-read done in
          let f = size-read _ rest q.0 q.1 in
          let l : length rest ≡ length s - at = ap length is ∙ length-drop at s in
          next (at + q.0) (omega (arith, f.0, f.1)) ∙ left-given fec kinds at s q.0 (omega (arith, f.1)) (ap (read_fec (InBody (root_family bits))) (sym is) ∙ q.1)

-- where a source may start
start-case : (P : ℕ → Type 0) (type : ℕ) → P 15 → P 11 → P (source_start type)
unfolding source_start
start-case P type p q = pick-case P _ 15 11 (λ _. p) (λ _. q)

pub start-least : (type : ℕ) → 3 ≤ source_start type
start-least type = start-case (λ (n : ℕ). 3 ≤ n) type (omega arith) (omega arith)

pub start-most : (type : ℕ) → source_start type ≤ 15
start-most type = start-case (λ (n : ℕ). n ≤ 15) type (omega arith) (omega arith)

-- only type 3 takes wildcards, so that any two other types judge their fields alike, but for a key
field-other : (bits m n : ℕ) → eqb m 3 ≡ false → eqb n 3 ≡ false → (k : FieldKind) → same_kind k key ≡ false → (s : List ℕ) → field_size (key_field bits) bits m k s ≡ field_size (key_field bits) bits n k s
unfolding field_size address_field allowed same_kind code_of
field-other bits m n p q distinguisher h s = refl
field-other bits m n p q source_as h s = refl
field-other bits m n p q source h s = rw (p, q)
field-other bits m n p q group h s = rw (p, q)
field-other bits m n p q originator h s = refl
field-other bits m n p q key h s = absurd (opposite refl h)
field-other bits m n p q fec h s = refl

left_other : (bits m n : ℕ) (kinds : List FieldKind) (at : ℕ) (s : List ℕ) → has_field key kinds ≡ false → eqb m 3 ≡ false → eqb n 3 ≡ false → left_fault bits m kinds at s ≡ left_fault bits n kinds at s
unfolding left_fault
left_other bits m n kinds at s none p q =
    ap (λ (o : Outcome (List ℕ)). pick (ltb (length s) at) LENGTH (number_of o)) (sizes-same _ _ kinds (λ k h. field-other bits m n p q k (apart k key kinds h none)) (drop at s))

-- the types of RFC 7441
pub mldp-types : (type : ℕ) → is_mldp type ≡ true → (type ≡ 67) ⊎ (type ≡ 68) ⊎ (type ≡ 71)
unfolding is_mldp
mldp-types type h = ⊎_elim (λ e. inl (eqb-true _ _ e)) (λ r. inr (⊎_elim (λ e. inl (eqb-true _ _ e)) (λ e. inr (eqb-true _ _ e)) (either_true _ _ r))) (either_true _ _ h)

-- the body of a route type
module _ (bits type : ℕ) (s : List ℕ) where
  pub body_is : (n : ℕ) → type ≡ n → body_fault bits n s ≡ body_fault bits type s
  body_is n e = ap (λ (k : ℕ). body_fault bits k s) (sym e)

  pub body-none : (KnownType type → ⊥) → TYPE ≡ body_fault bits type s
  unfolding body_fault
  body-none h = sym (on-body type _ _ ∙ pick-false _ _ _ (unlisted type h))

  pub body-number : body_fault bits type s ≡ number_of (on_body bodies type (refused TYPE) (λ body. sizes_of (field_size (key_field bits) bits type) body s))
  unfolding body_fault left_fault
  body-number =
      on-body type _ _ ∙ ap (λ (n : ℕ). pick (listed bodies type) n TYPE) (pick-false (ltb (length s) 0) LENGTH _ (le-ltb (length s) 0 (omega arith))) ∙ number-typed _ _ ∙ sym (ap number_of (on-body type _ _))

  -- 0x43 and 0x47: fixed octets, a FEC, and what follows it
  pub body-mldp-s-pmsi : type ≡ 67 → left_fault bits 67 (fec ∷ after_fec 67) 8 s ≡ body_fault bits type s
  unfolding body_fault on_body bodies after_fec pick field_size
  body-mldp-s-pmsi e = left-fixed bits 67 distinguisher _ 8 0 s (λ y. refl) ∙ body_is 67 e

  pub body-mldp-join : type ≡ 71 → left_fault bits 71 (fec ∷ after_fec 71) 12 s ≡ body_fault bits type s
  unfolding body_fault on_body bodies after_fec pick field_size
  body-mldp-join e = left-fixed bits 71 source_as _ 4 8 s (λ y. refl) ∙ left-fixed bits 71 distinguisher _ 8 0 s (λ y. refl) ∙ body_is 71 e

  -- types 5 to 7: fixed octets, a source and a group
  pub body-flow : 4 < type → type ≤ 7 → left_fault bits 5 (source ∷ group ∷ after_flow 5) (source_start type - 3) s ≡ body_fault bits type s
  unfolding body_fault on_body bodies after_flow source_start either pick field_size has_field same_kind code_of
  body-flow low high =
      tested (eqb type 5) (λ t. at 5 (eqb-true _ _ t) (left-fixed bits 5 distinguisher _ 8 0 s (λ y. refl)))
      (λ n₅. tested (eqb type 6) (λ t. at 6 (eqb-true _ _ t) (both 6 (alike 6 refl))) (λ n₆. at 7 (omega (arith, eqb-false)) (both 7 (alike 7 refl))))
    where
      at : (k : ℕ) → type ≡ k → left_fault bits 5 (source ∷ group ∷ after_flow 5) (source_start k - 3) s ≡ body_fault bits k s → left_fault bits 5 (source ∷ group ∷ after_flow 5) (source_start type - 3) s ≡ body_fault bits type s
      at k e p = rw e p

      alike : (k : ℕ) → eqb k 3 ≡ false → left_fault bits 5 (source ∷ group ∷ []) 12 s ≡ left_fault bits k (source ∷ group ∷ []) 12 s
      alike k e = left_other bits 5 k (source ∷ group ∷ []) 12 s refl refl e

      both : (k : ℕ) → left_fault bits 5 (source ∷ group ∷ []) 12 s ≡ left_fault bits k (source ∷ group ∷ []) 12 s → left_fault bits 5 (source ∷ group ∷ []) 12 s ≡ left_fault bits k (distinguisher ∷ source_as ∷ source ∷ group ∷ []) 0 s
      both k e = e ∙ left-fixed bits k source_as _ 4 8 s (λ y. refl) ∙ left-fixed bits k distinguisher _ 8 0 s (λ y. refl)
