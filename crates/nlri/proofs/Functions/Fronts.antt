-- The NLRI at the front of octets by its header and its body, and a key by these.
use Rattle.std.proofs.Common.{◌≡◌, ℕ, ◌+◌, ◌≤◌, true, false, List, length, get_or, sym, refl, ap, ◌∙◌, ⊎_elim, arith}
use Rattle.octets.specs.Numbers.{DONE, TYPE, KEY}
use Rattle.octets.specs.Choice.{pick}
use Rattle.octets.specs.Outcome.{Outcome, given, refused, and_then, number_of}
use Rattle.octets.specs.Octets.{part}
use Rattle.octets.proofs.Choice.{pick_true, pick-false, tested, opposite}
use Rattle.octets.proofs.Outcome.{and-pick, and-given, and-refused, on-given, on-refused, outcome, passed, given-otherwise, given-same, number-goes, number-stops, refused-of, and-goes-on}
use Rattle.nlri.specs.declared.layout.Layout.{Layout}
use Rattle.nlri.specs.Bodies.{FieldKind, distinguisher, source_as, source, group, originator, key, fec, keyable, bodies, on_body, body_of, code_of, same_kind, has_field}
use Rattle.nlri.specs.Reading.{Laid, field_size, sizes_of, laid_with, laid_at, accepted, accepted_at, no_key, key_field}
use Rattle.nlri.specs.Layouts.{layout_of, layout_at, laid_layout}
use Rattle.nlri.specs.Inner.{header_at, body_fault}
use Rattle.nlri.proofs.Definitions.Table.{listed, on-body, apart}
use Rattle.nlri.proofs.Definitions.Starts.{sizes-same}
use Rattle.nlri.proofs.Definitions.Keys.{keyable-plain}
use Rattle.nlri.proofs.Definitions.Whole.{laid_out_lem}
use Rattle.nlri.proofs.Definitions.ReadNumbers.{laying, refuses-done, refuses-no-key, refuses-laid}
use Rattle.nlri.proofs.Functions.Ends.{number-mapped, number-typed, body-number}

-- what a body is laid out as
body_laid : (ℕ → List ℕ → Outcome ℕ) → (bits : ℕ) → List ℕ → ℕ × ℕ → Outcome Laid
body_laid judge bits s h =
    on_body bodies h.0 (refused TYPE)
    (λ body. and_then (sizes_of (field_size judge bits h.0) body (part s 2 h.1)) (λ sizes. given (record { type = h.0; size = h.1; body = body; sizes = sizes })))

laid-is : (judge : ℕ → List ℕ → Outcome ℕ) (bits : ℕ) (s : List ℕ) → laid_with judge bits s ≡ and_then (header_at s) (body_laid judge bits s)
unfolding laid_with header_at body_laid
laid-is judge bits s = simp (and-pick, and-refused, and-given)

-- the number of what is laid out is that of the sizes
body-laid-number : (judge : ℕ → List ℕ → Outcome ℕ) (bits : ℕ) (s : List ℕ) (type n : ℕ) → number_of (body_laid judge bits s (type, n)) ≡ number_of (on_body bodies type (refused TYPE) (λ body. sizes_of (field_size judge bits type) body (part s 2 n)))
unfolding body_laid
body-laid-number judge bits s type n =
    ap number_of (on-body type _ _) ∙ sym (number-typed _ _) ∙ ap (λ (m : ℕ). pick (listed bodies type) m TYPE) (number-mapped _ _) ∙ number-typed _ _ ∙ sym (ap number_of (on-body type _ _))

-- the number of the NLRI at the front
module _ (bits : ℕ) (s : List ℕ) where
  front-number : number_of (and_then (header_at s) (body_laid (key_field bits) bits s)) ≡ number_of (laid_layout bits s)
  unfolding laid_layout laid_at
  front-number = ap number_of (sym (laid-is (key_field bits) bits s)) ∙ sym (number-mapped _ _)

  pub front-typed : (type n : ℕ) → header_at s ≡ given (type, n) → body_fault bits type (part s 2 n) ≡ number_of (laid_layout bits s)
  front-typed type n h = number-goes _ _ _ _ h (body-number bits type _ ∙ sym (body-laid-number (key_field bits) bits s type n)) ∙ front-number

  pub front-unread : (n : ℕ) → header_at s ≡ refused n → n ≡ number_of (laid_layout bits s)
  front-unread n h = number-stops n _ _ h ∙ front-number

-- type and Length of what was laid out, and that it lies within the octets
pub laid-octets : (bits : ℕ) (s : List ℕ) (l : Layout) → laid_layout bits s ≡ given l → (2 ≤ length s) × (2 + l.length ≤ length s) × (l.route_type ≡ get_or s 0 0) × (l.length ≡ get_or s 1 0)
unfolding laid_layout laid_at layout_of
laid-octets bits s l e =
    let w = passed _ _ _ e in
    let same : layout_of w.value ≡ l = given-same w.second in
    let o = laid_out_lem (key_field bits) bits s w.value w.first in
    let n : w.value.size ≡ l.length = ap (λ (x : Layout). x.length) same in
    (o.enough, omega (arith, o.fits, o.enough), ap (λ (x : Layout). x.route_type) (sym same) ∙ o.typed, sym n ∙ o.sized)

-- the same of what a step reads
pub layout-front : (bits : ℕ) (s : List ℕ) (l : Layout) → layout_at bits s ≡ given l → laid_layout bits s ≡ given l
unfolding layout_at accepted_at accepted laid_layout
layout-front bits s l e =
    let w = passed _ _ _ e in
    let v = passed _ _ _ w.first in
    let same : v.value ≡ w.value = given-same (given-otherwise _ _ _ _ v.second).1 in
    let laid : laid_at bits s ≡ given w.value = v.first ∙ ap given same in
    sym (and-goes-on _ _ _ _ laid refl) ∙ w.second

pub layout-octets : (bits : ℕ) (s : List ℕ) (l : Layout) → layout_at bits s ≡ given l → (2 ≤ length s) × (2 + l.length ≤ length s) × (l.route_type ≡ get_or s 0 0) × (l.length ≡ get_or s 1 0)
layout-octets bits s l e = laid-octets bits s l (layout-front bits s l e)

-- but for a key, the judge of keys does not matter
module _ (judge judge' : ℕ → List ℕ → Outcome ℕ) (bits type : ℕ) where
  field-unkeyed : (k : FieldKind) → same_kind k key ≡ false → (s : List ℕ) → field_size judge bits type k s ≡ field_size judge' bits type k s
  unfolding field_size same_kind code_of
  field-unkeyed distinguisher h s = refl
  field-unkeyed source_as h s = refl
  field-unkeyed source h s = refl
  field-unkeyed group h s = refl
  field-unkeyed originator h s = refl
  field-unkeyed key h s = absurd (opposite refl h)
  field-unkeyed fec h s = refl

  sizes-unkeyed : (body : List FieldKind) (s : List ℕ) → has_field key body ≡ false → sizes_of (field_size judge bits type) body s ≡ sizes_of (field_size judge' bits type) body s
  sizes-unkeyed body s h = sizes-same _ _ body (λ k has. field-unkeyed k (apart k key body has h)) s

-- the key of a type by its header and the number of its body
module _ (bits outer : ℕ) (s : List ℕ) where
  pub key-unread : (n : ℕ) → header_at s ≡ refused n → refused KEY ≡ key_field bits outer s
  unfolding key_field
  key-unread n h = on-refused _ _ n _ _ (laid-is no_key bits s ∙ ap (λ (o : Outcome (ℕ × ℕ)). and_then o (body_laid no_key bits s)) h ∙ and-refused _ _) refl

  module _ (type n : ℕ) (h : header_at s ≡ given (type, n)) where
    header-octets : (get_or s 0 0 ≡ type) × (get_or s 1 0 ≡ n)
    unfolding header_at
    header-octets =
        let same = given-same (given-otherwise _ _ _ _ (given-otherwise _ _ _ _ h).1).1 in
        (ap (λ (z : ℕ × ℕ). z.0) same, ap (λ (z : ℕ × ℕ). z.1) same)

    -- the type of what was laid out is the header's
    may-type : (laid : Laid) → laid_with no_key bits s ≡ given laid → keyable outer laid.type ≡ keyable outer type
    may-type laid e = ap (keyable outer) ((laid_out_lem no_key bits s laid e).typed ∙ header-octets.0)

    pub key-other-type : keyable outer type ≡ false → refused KEY ≡ key_field bits outer s
    unfolding key_field
    key-other-type t =
        ⊎_elim (λ g. on-given _ _ g.0 _ _ g.1 (sym (pick-false _ _ _ (may-type g.0 g.1 ∙ t))))
        (λ r. on-refused _ _ r.0 _ _ r.1 refl) (outcome (laid_with no_key bits s))

    module _ (may : keyable outer type ≡ true) where
      key-number : number_of (laid_with no_key bits s) ≡ body_fault bits type (part s 2 n)
      key-number =
          ap number_of (laid-is no_key bits s ∙ ap (λ (o : Outcome (ℕ × ℕ)). and_then o (body_laid no_key bits s)) h ∙ and-given _ _) ∙ body-laid-number no_key bits s type n
          ∙ ap number_of (on-body type _ _ ∙ same ∙ sym (on-body type _ _)) ∙ sym (body-number bits type (part s 2 n))
        where
          same : pick (listed bodies type) (sizes_of (field_size no_key bits type) (body_of type) (part s 2 n)) (refused TYPE) ≡ pick (listed bodies type) (sizes_of (field_size (key_field bits) bits type) (body_of type) (part s 2 n)) (refused TYPE)
          same =
              tested (listed bodies type)
              (λ l. ap (λ (o : Outcome (List ℕ)). pick (listed bodies type) o (refused TYPE)) (sizes-unkeyed no_key (key_field bits) bits type (body_of type) (part s 2 n) (keyable-plain outer type l may)))
              (λ f. pick-false (listed bodies type) _ (refused TYPE) f ∙ sym (pick-false (listed bodies type) (sizes_of (field_size (key_field bits) bits type) (body_of type) (part s 2 n)) (refused TYPE) f))

      module _ (body : List ℕ) (fault : ℕ) (b : body ≡ part s 2 n) (f : fault ≡ body_fault bits type body) where
        key-fault : fault ≡ number_of (laid_with no_key bits s)
        key-fault = f ∙ ap (body_fault bits type) b ∙ sym key-number

        pub key-refused : (fault ≡ DONE → ⊥) → refused KEY ≡ key_field bits outer s
        unfolding key_field
        key-refused faulty = on-refused _ _ fault _ _ (refused-of _ fault key-fault faulty) refl

        pub key-typed : fault ≡ DONE → given (2 + n) ≡ key_field bits outer s
        unfolding key_field
        key-typed done =
            let r = refuses-done _ (laying (refuses-laid no_key refuses-no-key bits s)) (sym key-fault ∙ done) in
            let o = laid_out_lem no_key bits s r.0 r.1 in
            on-given _ _ r.0 _ _ r.1
            (sym (pick_true _ _ _ (may-type r.0 r.1 ∙ may) ∙ ap (λ (k : ℕ). given (2 + k)) (o.sized ∙ header-octets.1)))
