-- GROUP: of the body of a Source Active route, of the NLRI at the front of octets, and of a single NLRI, where LENGTH for octets after it comes first.
use Rattle.std.proofs.Common.{◌≡◌, ℕ, ◌+◌, ◌-◌, ◌/◌, Bool, true, false, not, eqb, List, ◌∷◌, length, get_or, sym, refl, ap, ◌∙◌, ⊎_elim, arith, get_or-drop, le-ltb, eq-eqb, ne_eqb, eqb-true, le-leb}
use borrow.Author.Tests.{eqb-false}
use lib.Seq.{take-length}
use Rattle.octets.specs.Numbers.{DONE, SHORT, GROUP}
use Rattle.octets.specs.Outcome.{given, refused, number_of}
use Rattle.octets.specs.Octets.{part}
use Rattle.octets.proofs.Choice.{pick_true, pick-false, tested, both_left, both-last, both-true-right, opposite, picked}
use Rattle.octets.proofs.Outcome.{never, refused-same, given-same, given-otherwise, refused-of, refuses-by}
use Rattle.nlri.specs.Groups.{is_ssm}
use Rattle.nlri.specs.Layouts.{layout_at, laid_layout}
use Rattle.nlri.specs.Inner.{header_at, body_fault, size_at, body_group, source_active_body_fault, accepted_fault, FlowStands, GroupStands, is_discarded_at, is_followed, followed_fault, single}
use Rattle.nlri.proofs.Definitions.ReadNumbers.{refuses-laid-layout}
use Rattle.nlri.proofs.Functions.Fronts.{front-typed, front-unread}
use Rattle.nlri.proofs.Functions.Shapes.{part-part, body-octet}
use Rattle.nlri.proofs.Functions.Standing.{source-active-stands, laid_in}
use Rattle.nlri.proofs.Functions.Singles.{front-refused, step-refused, front-octets, front-alone, front-discarded, front-followed, front-accepted-octets, front-ssm}

-- the body of a Source Active route, laid out, has its source and group within it
pub body-stands : (bits : ℕ) (b : List ℕ) (n : ℕ) → n ≡ body_fault bits 5 b → n ≡ DONE → GroupStands b
unfolding header_at part size_at
body-stands bits b n e done =
    let s : List ℕ = 5 ∷ (length b ∷ b) in
    let header : header_at s ≡ given (5, length b) = pick-false _ _ _ (le-ltb (length s) 2 (omega arith)) ∙ pick-false _ _ _ (le-ltb (length s - 2) (length b) (omega arith)) in
    let number = e ∙ ap (body_fault bits 5) (sym (take-length b)) ∙ front-typed bits s 5 (length b) header in
    let f : FlowStands 10 s = source-active-stands s refl (laid_in bits s n number done).0 in
    let a : ℕ = get_or b 8 0 / 8 in
    let first : get_or s 10 0 / 8 ≡ a = ap (λ (k : ℕ). k / 8) (sym (get_or-drop 2 s 8 0)) in
    let at : 2 + (9 + a) ≡ 11 + a = omega arith in
    let second : get_or s (11 + get_or s 10 0 / 8) 0 / 8 ≡ get_or b (9 + a) 0 / 8 =
    ap (λ (k : ℕ). get_or s (11 + k) 0 / 8) first ∙ ap (λ (k : ℕ). get_or s k 0 / 8) (sym at) ∙ ap (λ (k : ℕ). k / 8) (sym (get_or-drop 2 s (9 + a) 0)) in
    record { group = omega (arith, f.group); sizes = omega (arith, f.sizes) }

-- its number, by the number of its lengths
module _ (bits : ℕ) (b : List ℕ) (n : ℕ) (e : n ≡ body_fault bits 5 b) where
  pub active-fault : (n ≡ DONE → ⊥) → n ≡ source_active_body_fault bits b
  unfolding source_active_body_fault
  active-fault faulty = e ∙ sym (pick-false _ _ _ (ne_eqb _ _ (λ z. faulty (e ∙ z))))

  module _ (done : n ≡ DONE) where
    pub active-ssm : is_ssm bits (body_group b) ≡ true → GROUP ≡ source_active_body_fault bits b
    unfolding source_active_body_fault
    active-ssm h = sym (pick_true _ _ _ (eq-eqb _ _ (sym e ∙ done)) ∙ pick_true _ _ _ h)

    pub active-accepted : is_ssm bits (body_group b) ≡ false → DONE ≡ source_active_body_fault bits b
    unfolding source_active_body_fault
    active-accepted h = sym (pick_true _ _ _ (eq-eqb _ _ (sym e ∙ done)) ∙ pick-false _ _ _ h)

-- the number of a body, by its type
module _ (bits type : ℕ) (b : List ℕ) where
  pub accepted-active : type ≡ 5 → source_active_body_fault bits b ≡ accepted_fault bits type b
  unfolding accepted_fault
  accepted-active five = sym (pick_true _ _ _ (eq-eqb _ _ five))

  pub accepted-other : (type ≡ 5 → ⊥) → body_fault bits type b ≡ accepted_fault bits type b
  unfolding accepted_fault
  accepted-other other = sym (pick-false _ _ _ (ne_eqb _ _ other))

-- type and Length by the header
header-octets : (s : List ℕ) (type n : ℕ) → header_at s ≡ given (type, n) → (get_or s 0 0 ≡ type) × (get_or s 1 0 ≡ n)
unfolding header_at
header-octets s type n e =
    let same = given-same (given-otherwise _ _ _ _ (given-otherwise _ _ _ _ e).1).1 in
    (ap (λ (h : ℕ × ℕ). h.0) same, ap (λ (h : ℕ × ℕ). h.1) same)

-- the group of the body is that of the NLRI
module _ (s : List ℕ) (n : ℕ) (f : FlowStands 10 s) (sized : get_or s 1 0 ≡ n) where
  group-body : body_group (part s 2 n) ≡ part s (12 + size_at s 10) (size_at s (11 + size_at s 10))
  unfolding body_group size_at
  group-body =
      let a : ℕ = get_or s 10 0 / 8 in
      let first : get_or (part s 2 n) 8 0 / 8 ≡ a = ap (λ (k : ℕ). k / 8) (body-octet s n 8 (omega (arith, f.sizes))) in
      let at : 2 + (9 + a) ≡ 11 + a = omega arith in
      let second : get_or (part s 2 n) (9 + a) 0 / 8 ≡ get_or s (11 + a) 0 / 8 = ap (λ (k : ℕ). k / 8) (body-octet s n (9 + a) (omega (arith, f.sizes)) ∙ ap (λ (k : ℕ). get_or s k 0) at) in
      let next : 2 + (10 + a) ≡ 12 + a = omega arith in
      ap (λ (x : ℕ). part (part s 2 n) (10 + x) (get_or (part s 2 n) (9 + x) 0 / 8)) first
      ∙ ap (part (part s 2 n) (10 + a)) second
      ∙ part-part s 2 n (10 + a) (get_or s (11 + a) 0 / 8) (omega (arith, f.sizes))
      ∙ ap (λ (k : ℕ). part s k (get_or s (11 + a) 0 / 8)) next

-- the number of a step, by its header and body
module _ (bits : ℕ) (s : List ℕ) where
  unread-short : (n : ℕ) → header_at s ≡ refused n → n ≡ SHORT
  unfolding header_at
  unread-short n h =
      ⊎_elim (λ p. sym (refused-same {A = ℕ × ℕ} p.1))
      (λ q. ⊎_elim (λ p. sym (refused-same {A = ℕ × ℕ} p.1)) (λ r. absurd (never refl r.1)) (picked _ _ _ _ q.1)) (picked _ _ _ _ h)

  pub step-unread : (n : ℕ) → header_at s ≡ refused n → n ≡ number_of (layout_at bits s)
  step-unread n h = step-refused bits s n (front-unread bits s n h) (λ z. omega (arith, unread-short n h))

  module _ (type n : ℕ) (h : header_at s ≡ given (type, n)) where
    fault : body_fault bits type (part s 2 n) ≡ number_of (laid_layout bits s)
    fault = front-typed bits s type n h

    other-type : (type ≡ 5 → ⊥) → body_fault bits type (part s 2 n) ≡ number_of (layout_at bits s)
    unfolding is_discarded_at
    other-type other =
        tested (eqb (body_fault bits type (part s 2 n)) DONE)
        (λ y. eqb-true _ _ y ∙ front-accepted-octets bits s _ fault (eqb-true _ _ y) (both_left _ _ (ne_eqb (get_or s 0 0) 5 (λ z. other (sym (header-octets s type n h).0 ∙ z)))))
        (λ f. step-refused bits s _ fault (eqb-false _ _ f))

    source-active : type ≡ 5 → source_active_body_fault bits (part s 2 n) ≡ number_of (layout_at bits s)
    unfolding source_active_body_fault is_discarded_at
    source-active five =
        let same : body_fault bits 5 (part s 2 n) ≡ number_of (laid_layout bits s) = ap (λ (t : ℕ). body_fault bits t (part s 2 n)) (sym five) ∙ fault in
        tested (eqb (body_fault bits 5 (part s 2 n)) DONE)
        (λ y.
        let done = eqb-true _ _ y in
        let first : get_or s 0 0 ≡ 5 = (header-octets s type n h).0 ∙ five in
        let stands : FlowStands 10 s = source-active-stands s first (laid_in bits s _ same done).0 in
        let ssm = both-last _ _ _ (eq-eqb _ 5 first) (ap (is_ssm bits) (group-body s n stands (header-octets s type n h).1)) in
        pick_true _ _ _ y
        ∙ tested (is_ssm bits (body_group (part s 2 n)))
        (λ t. pick_true _ _ _ t ∙ front-ssm bits s _ same done (sym ssm ∙ t))
        (λ f. pick-false _ _ _ f ∙ front-accepted-octets bits s _ same done (sym ssm ∙ f)))
        (λ f. pick-false _ _ _ f ∙ step-refused bits s _ same (eqb-false _ _ f))

    pub accepted-typed : accepted_fault bits type (part s 2 n) ≡ number_of (layout_at bits s)
    unfolding accepted_fault
    accepted-typed =
        tested (eqb type 5) (λ y. pick_true _ _ _ y ∙ source-active (eqb-true _ _ y)) (λ f. pick-false _ _ _ f ∙ other-type (eqb-false _ _ f))

-- a single NLRI by the number at its front
module _ (bits : ℕ) (s : List ℕ) where
  abbrev n : ℕ
  n = number_of (laid_layout bits s)

  laid-not-group : (n ≡ DONE → ⊥) → n ≡ GROUP → ⊥
  laid-not-group faulty e = let p = refuses-by _ n (refuses-laid-layout bits s) (refused-of _ n refl faulty) in omega (arith, p.1)

  pub not-followed : is_followed s ≡ false → number_of (layout_at bits s) ≡ number_of (single bits s)
  unfolding is_followed
  not-followed h =
      tested (eqb n DONE)
      (λ y.
      let done = eqb-true _ _ y in
      let o = front-octets bits s n refl done in
      let all : length s - 2 ≡ get_or s 1 0 = even (eqb (length s - 2) (get_or s 1 0)) refl (both-last _ _ _ (le-leb 2 (length s) o.0) refl ∙ h) in
      tested (is_discarded_at bits s) (λ t. sym (front-ssm bits s n refl done t) ∙ front-discarded bits s n refl done all t) (λ f. sym (front-accepted-octets bits s n refl done f) ∙ front-alone bits s n refl done all f))
      (λ f. sym (step-refused bits s n refl (eqb-false _ _ f)) ∙ front-refused bits s n refl (eqb-false _ _ f))
    where
      even : (b : Bool) → eqb (length s - 2) (get_or s 1 0) ≡ b → not b ≡ false → length s - 2 ≡ get_or s 1 0
      even true e q = eqb-true _ _ e
      even false e q = absurd (opposite refl q)

  pub is-followed : is_followed s ≡ true → followed_fault (number_of (layout_at bits s)) ≡ number_of (single bits s)
  unfolding is_followed followed_fault
  is-followed h =
      tested (eqb n DONE)
      (λ y.
      let done = eqb-true _ _ y in
      let more = uneven (eqb (length s - 2) (get_or s 1 0)) refl (both-true-right _ _ h) in
      let long = front-followed bits s n refl done more in
      tested (is_discarded_at bits s)
      (λ t. ap followed_fault (sym (front-ssm bits s n refl done t)) ∙ pick-false _ _ _ refl ∙ pick_true _ _ _ refl ∙ long)
      (λ f. ap followed_fault (sym (front-accepted-octets bits s n refl done f)) ∙ pick_true _ _ _ refl ∙ long))
      (λ f.
      let faulty = eqb-false _ _ f in
      ap followed_fault (sym (step-refused bits s n refl faulty)) ∙ pick-false _ _ _ f ∙ pick-false _ _ _ (ne_eqb _ _ (laid-not-group faulty)) ∙ front-refused bits s n refl faulty)
    where
      uneven : (b : Bool) → eqb (length s - 2) (get_or s 1 0) ≡ b → not b ≡ true → length s - 2 ≡ get_or s 1 0 → ⊥
      uneven true e q = absurd (opposite q refl)
      uneven false e q = eqb-false _ _ e
