-- A single NLRI: its number, also where it is to be of a type, its layout, and its fields by its layout.
use Rattle.std.proofs.Common.{◌≡◌, ℕ, zero, suc, ◌+◌, ◌-◌, ◌<◌, ◌≤◌, Bool, true, false, List, length, get_or, sym, refl, ap, ◌∙◌, subst, ap₂, ⊎_elim, arith, eq-eqb, ne_eqb, eqb-true}
use Rattle.octets.specs.Numbers.{DONE, LENGTH, FAMILY, KIND, GROUP}
use Rattle.octets.specs.Choice.{pick, either}
use Rattle.octets.specs.Outcome.{Outcome, given, refused, and_then, on_outcome, number_of}
use Rattle.octets.specs.Octets.{part}
use Rattle.octets.specs.declared.Span.{Span}
use Rattle.octets.proofs.Choice.{pick_true, pick-false, tested, either_true}
use Rattle.octets.proofs.Outcome.{and-goes-on, and-stops, stopped, never, and_assoc, and-cong, and-pick, and-given, and-refused, passed, given-unless, given-otherwise, given-same, refused-alike, refused-of, number-given, number-goes, number-stops, number-picks, number-skips, value, number, refuses-then, refuses-pick}
use Rattle.nlri.specs.declared.layout.Layout.{Layout}
use Rattle.nlri.specs.declared.address.Address.{Address}
use Rattle.nlri.specs.declared.address.RouteDistinguisher.{RouteDistinguisher}
use Rattle.nlri.specs.declared.fields.Nlri.{Nlri}
use Rattle.nlri.specs.declared.fields.NlriReading.{NlriReading}
use Rattle.nlri.specs.Family.{family_bits}
use Rattle.nlri.specs.Bodies.{source_as, originator, fec, bodies, on_body, body_of, code_of, same_kind, has_field}
use Rattle.nlri.specs.Fields.{Fields, is_discarded}
use Rattle.nlri.specs.Reading.{Laid, laid_at, accepted, accepted_at, accepted_single, fields_of, read_nlri, read_of_type}
use Rattle.nlri.specs.Layouts.{layout_of, layout_at, laid_layout, layout_single}
use Rattle.nlri.specs.Answers.{nlri_struct, key_span, fec_span, nlri_answer}
use Rattle.nlri.specs.Inner.{with_key, with_fec, fec_start, layout_in, Stands, fields_at, key_at, fec_in_layout, answer_at, LayoutWithin, is_discarded_at, single}
use Rattle.nlri.proofs.Definitions.Lengths.{family-octets}
use Rattle.octets.proofs.Lists.{length_part}
use Rattle.nlri.proofs.Functions.Shapes.{discarded-laid, shaped, originator-least, other-sizes, lacked, has-fec}
use Rattle.nlri.proofs.Functions.Standing.{stands, laid_as, laid_in}
use Rattle.nlri.proofs.Functions.Fronts.{laid-octets}
use Rattle.nlri.proofs.Definitions.Families.{family-refused}
use Rattle.nlri.proofs.Definitions.ReadNumbers.{laying, refuses-done, refuses-laid-layout, refuses-layout}
use Rattle.nlri.proofs.Definitions.Whole.{single-laid-out}

pub single-laid : (bits : ℕ) (s : List ℕ) → single bits s ≡ and_then (accepted_single bits s) (λ laid. given (layout_of laid))
unfolding single laid_layout accepted_single layout_of accepted
single-laid bits s =
    and_assoc _ _ _ ∙ and-cong _ _ _ (λ laid e. and-given _ _ ∙ sym (and-pick _ _ _ _ ∙ ap₂ (pick _)
    (and-pick _ _ _ _ ∙ ap₂ (pick (is_discarded bits (fields_of laid s))) (and-refused _ _) (and-given _ _) ∙ ap (λ (b : Bool). pick b (refused GROUP) (given (layout_of laid))) (discarded-laid bits s laid e)) (and-refused _ _))) ∙ sym (and_assoc _ _ _)

-- the number of a single NLRI, by that of the NLRI at its front
module _ (bits : ℕ) (s : List ℕ) (n : ℕ) (e : n ≡ number_of (laid_layout bits s)) where
  pub front-refused : (n ≡ DONE → ⊥) → n ≡ number_of (single bits s)
  unfolding single
  front-refused faulty = number-stops n _ _ (refused-of _ n e faulty)

  pub step-refused : (n ≡ DONE → ⊥) → n ≡ number_of (layout_at bits s)
  unfolding layout_at accepted_at laid_layout
  step-refused faulty =
      let why : laid_at bits s ≡ refused n = ⊎_elim (λ p. p) (λ later. absurd (never refl later.second)) (stopped _ _ _ (refused-of _ n e faulty)) in
      number-stops n _ _ (sym (and-stops _ _ _ why))

  module _ (done : n ≡ DONE) where
    front : laid_layout bits s ≡ given (layout_in s)
    front = sym (laid_in bits s n e done).1

    pub front-octets : (2 ≤ length s) × ((layout_in s).length ≡ get_or s 1 0)
    front-octets = let o = laid-octets bits s _ front in (o.0, o.3)

    pub front-alone : length s - 2 ≡ get_or s 1 0 → is_discarded_at bits s ≡ false → DONE ≡ number_of (single bits s)
    unfolding single number_of
    front-alone all h = number-goes DONE _ (layout_in s) _ front (number-picks DONE _ _ _ (eq-eqb _ _ (all ∙ sym front-octets.1)) (number-skips DONE _ _ _ h refl))

    pub front-discarded : length s - 2 ≡ get_or s 1 0 → is_discarded_at bits s ≡ true → GROUP ≡ number_of (single bits s)
    unfolding single number_of
    front-discarded all h = number-goes GROUP _ (layout_in s) _ front (number-picks GROUP _ _ _ (eq-eqb _ _ (all ∙ sym front-octets.1)) (number-picks GROUP _ _ _ h refl))

    -- with GROUP, as a step gives it
    pub front-accepted-octets : is_discarded_at bits s ≡ false → DONE ≡ number_of (layout_at bits s)
    unfolding layout_at accepted_at accepted laid_layout number_of
    front-accepted-octets h =
        let w = passed _ _ _ front in
        number-goes DONE _ w.value _ (sym (and-goes-on _ _ _ _ w.first (sym (pick-false _ _ _ (discarded-laid bits s w.value w.first ∙ h))))) refl

    pub front-ssm : is_discarded_at bits s ≡ true → GROUP ≡ number_of (layout_at bits s)
    unfolding layout_at accepted_at accepted laid_layout
    front-ssm h =
        let w = passed _ _ _ front in
        number-stops GROUP _ _ (sym (and-goes-on _ _ _ _ w.first (sym (pick_true _ _ _ (discarded-laid bits s w.value w.first ∙ h)))))

    pub front-followed : (length s - 2 ≡ get_or s 1 0 → ⊥) → LENGTH ≡ number_of (single bits s)
    unfolding single number_of
    front-followed more = number-goes LENGTH _ (layout_in s) _ front (number-skips LENGTH _ _ _ (ne_eqb _ _ (λ q. more (q ∙ front-octets.1))) refl)

-- the same of a step
pub step_in : (bits : ℕ) (s : List ℕ) (n : ℕ) → n ≡ number_of (layout_at bits s) → n ≡ DONE → Stands s × (given (layout_in s) ≡ layout_at bits s)
unfolding layout_at accepted_at accepted
step_in bits s n e done =
    let r = refuses-done (layout_at bits s) (refuses-layout bits s) (sym e ∙ done) in
    let w = passed _ _ _ r.1 in
    let v = passed _ _ _ w.first in
    let same : v.value ≡ w.value = given-same (given-otherwise _ _ _ _ v.second).1 in
    let laid : laid_at bits s ≡ given w.value = v.first ∙ ap given same in
    (stands bits s w.value laid, ap given (sym (laid_as bits s w.value laid) ∙ given-same w.second) ∙ sym r.1)

-- by its number, a single NLRI stands there, laid out as its octets say
pub single-in : (bits : ℕ) (s : List ℕ) (n : ℕ) → n ≡ number_of (single bits s) → n ≡ DONE → Stands s × (given (layout_in s) ≡ single bits s)
unfolding single
single-in bits s n e done =
    let r = refuses-done (single bits s) (refuses-then _ _ (laying (refuses-laid-layout bits s)) (λ l. refuses-pick _ _ _ (refuses-pick _ _ _ (number {n = GROUP} (omega arith)) value) (number {n = LENGTH} (omega arith)))) (sym e ∙ done) in
    let w = passed _ _ _ r.1 in
    let l = laid_in bits s _ refl (number-given w.first) in
    (l.0, l.1 ∙ w.first ∙ (given-otherwise _ _ _ _ (given-unless _ _ _ _ w.second).1).1 ∙ sym r.1)

pub single-is : (o : Outcome Layout) (afi : ℕ) (s : List ℕ) → o ≡ and_then (family_bits afi) (λ bits. single bits s) → o ≡ layout_single afi s
unfolding layout_single
single-is o afi s e = e ∙ and-cong _ _ _ (λ bits q. single-laid bits s)

module _ (afi : ℕ) (s : List ℕ) where
  -- the fields are those that the layout says, and they lie within the NLRI
  pub read-by-layout : (l : Layout) → layout_single afi s ≡ given l → (read_nlri afi s ≡ given (fields_at l s)) × LayoutWithin l s
  unfolding layout_single read_nlri
  read-by-layout l e =
      let f = passed _ _ _ e in
      let w = passed _ _ _ f.second in
      let same : layout_of w.value ≡ l = given-same w.second in
      let shape = shaped f.value s w.value (family-octets afi f.value f.first).1 w.first in (
        sym (and-goes-on (given (fields_at l s)) _ f.value _ f.first (and-goes-on (given (fields_at l s)) _ w.value _ w.first (ap given (ap (λ (x : Layout). fields_at x s) (sym same) ∙ sym shape.fields)))),
        subst (λ (x : Layout). LayoutWithin x s) same shape.within,
      )

  pub read-refused : (n : ℕ) → layout_single afi s ≡ refused n → read_nlri afi s ≡ refused n
  unfolding layout_single read_nlri
  read-refused n e = refused-alike (family_bits afi) (λ bits. accepted_single bits s) (λ bits laid. layout_of laid) (λ bits laid. fields_of laid s) n e

-- by its family, and by its number
module _ (afi : ℕ) (s : List ℕ) where
  pub read-no-family : (n : ℕ) → family_bits afi ≡ refused n → read_nlri afi s ≡ refused FAMILY
  unfolding read_nlri
  read-no-family n e = sym (and-stops _ n _ e) ∙ ap refused (family-refused afi n e).0

  module _ (bits : ℕ) (family : family_bits afi ≡ given bits) (n : ℕ) (e : n ≡ number_of (single bits s)) where
    pub read-faulty : (n ≡ DONE → ⊥) → read_nlri afi s ≡ refused n
    read-faulty faulty = read-refused afi s n (sym (single-is (refused n) afi s (and-goes-on (refused n) _ bits _ family (sym (refused-of _ n e faulty)))))

    pub read-laid : n ≡ DONE → (read_nlri afi s ≡ given (fields_at (layout_in s) s)) × LayoutWithin (layout_in s) s
    read-laid done = read-by-layout afi s (layout_in s) (sym (single-is (given (layout_in s)) afi s (and-goes-on (given (layout_in s)) _ bits _ family (single-in bits s n e done).1)))

-- the number of an NLRI that is to be of a type: by its family, and by the number of the single NLRI
module _ (type afi : ℕ) (s : List ℕ) where
  pub of-no-family : (n : ℕ) → family_bits afi ≡ refused n → FAMILY ≡ number_of (read_of_type type afi s)
  of-no-family n e = number-stops FAMILY _ _ (read-no-family afi s n e)

  module _ (bits : ℕ) (family : family_bits afi ≡ given bits) (n : ℕ) (e : n ≡ number_of (single bits s)) where
    pub of-type-refused : (n ≡ DONE → ⊥) → n ≡ number_of (read_of_type type afi s)
    of-type-refused faulty = number-stops n _ _ (read-faulty afi s bits family n e faulty)

    module _ (done : n ≡ DONE) where
      read : read_nlri afi s ≡ given (fields_at (layout_in s) s)
      read = (read-laid afi s bits family n e done).0

      typed : (layout_in s).route_type ≡ get_or s 0 0
      unfolding single
      typed = (laid-octets bits s (layout_in s) (sym (laid_in bits s _ refl (number-given (passed _ _ _ (sym (single-in bits s n e done).1)).first)).1)).2

      pub of-type-given : get_or s 0 0 ≡ type → DONE ≡ number_of (read_of_type type afi s)
      unfolding fields_at number_of
      of-type-given t = number-goes DONE _ (fields_at (layout_in s) s) _ read (number-picks DONE _ _ _ (eq-eqb _ type (typed ∙ t)) refl)

      pub of-type-other : (get_or s 0 0 ≡ type → ⊥) → KIND ≡ number_of (read_of_type type afi s)
      unfolding fields_at number_of
      of-type-other t = number-goes KIND _ (fields_at (layout_in s) s) _ read (number-skips KIND _ _ _ (ne_eqb _ type (λ q. t (sym typed ∙ q))) refl)

-- what is read of a single NLRI, by the octets where its fields stand
pub record ReadAt (s : List ℕ) (f : Fields) : Type 0 where
  pub fields : fields_at (layout_in s) s ≡ f
  pub typed : get_or s 0 0 ≡ f.type
  pub long : (2 ≤ length s) × (length s - 2 ≡ get_or s 1 0)
  pub stands : Stands s
  pub originator : has_field originator (body_of f.type) ≡ true → 4 ≤ (layout_in s).originator

pub read_at : (afi : ℕ) (s : List ℕ) (f : Fields) → read_nlri afi s ≡ given f → ReadAt s f
unfolding read_nlri fields_of layout_of
read_at afi s f e =
    let p = passed _ _ _ e in
    let q = passed _ _ _ p.second in
    let bits : ℕ = p.value in
    let laid : Laid = q.value in
    let o = single-laid-out bits s laid q.first in
    let same : fields_of laid s ≡ f = given-same q.second in
    let type : laid.type ≡ f.type = ap (λ (x : Fields). x.type) same in
    let layout = laid_as bits s laid o.front in
    record {
      fields = ap (λ (l : Layout). fields_at l s) (sym layout) ∙ sym (shaped bits s laid (family-octets afi bits p.first).1 q.first).fields ∙ same;
      typed = sym o.laid_out.typed ∙ type;
      long = (o.laid_out.enough, o.all ∙ o.laid_out.sized);
      stands = stands bits s laid o.front;
      originator = λ h. rw (sym layout) (originator-least bits s laid o.front (ap (has_field originator) (o.laid_out.body ∙ ap body_of type) ∙ h));
    }

-- a struct by its fields
pub nlri-same : (d d' : RouteDistinguisher) (a a' g g' o o' : Address) (x x' t t' : ℕ) → d ≡ d' → a ≡ a' → g ≡ g' → o ≡ o' → x ≡ x' → t ≡ t'
    → ◌≡◌ {A = Nlri} (record { distinguisher = d; source = a; group = g; originator = o; source_as = x; route_type = t }) (record { distinguisher = d'; source = a'; group = g'; originator = o'; source_as = x'; route_type = t' })
nlri-same d d' a a' g g' o o' x x' t t' pd pa pg po px pt = λ i. record { distinguisher = pd i; source = pa i; group = pg i; originator = po i; source_as = px i; route_type = pt i }

pub key-same : (l : Layout) (s : List ℕ) → LayoutWithin l s → key_at l ≡ key_span (fields_at l s)
unfolding key_at key_span fields_at
key-same l s w = λ i. record { start = pick (sym w.key_kind i) 2 0; size = sym (length_part s 2 l.key w.key) i }

fec-long : (n at : ℕ) (s : List ℕ) → (0 < n → at + n ≤ length s) → length (part s at n) ≡ n
unfolding part
fec-long zero at s h = refl
fec-long (suc n) at s h = length_part s at (suc n) (h (omega arith))

fec-start : (type : ℕ) → has_field fec (body_of type) ≡ with_fec type → pick (with_fec type) (fec_start type) 0 ≡ pick (has_field fec (body_of type)) (pick (has_field source_as (body_of type)) 14 10) 0
unfolding with_fec fec_start body_of on_body bodies has_field same_kind code_of either pick
fec-start type k =
    tested (with_fec type)
    (λ yes. ⊎_elim (λ t. at 67 (eqb-true _ _ t) refl) (λ t. at 71 (eqb-true _ _ t) refl) (either_true _ _ yes))
    (λ no. pick-false _ _ 0 no ∙ sym (pick-false _ (pick (has_field source_as (body_of type)) 14 10) 0 (k ∙ no)))
  where
    at : (n : ℕ) → type ≡ n → pick (with_fec n) (fec_start n) 0 ≡ pick (has_field fec (body_of n)) (pick (has_field source_as (body_of n)) 14 10) 0
        → pick (with_fec type) (fec_start type) 0 ≡ pick (has_field fec (body_of type)) (pick (has_field source_as (body_of type)) 14 10) 0
    at n e h = rw e h

pub fec-same : (l : Layout) (s : List ℕ) → LayoutWithin l s → fec_in_layout l ≡ fec_span (fields_at l s)
unfolding fec_in_layout fec_span fields_at
fec-same l s w = λ i. record { start = fec-start l.route_type w.fec_kind i; size = sym (fec-long l.fec _ s w.fec_end) i }

fec-begin : (bits : ℕ) (s : List ℕ) (laid : Laid) → laid_at bits s ≡ given laid → part s (fec_in_layout (layout_of laid)).start (layout_of laid).fec ≡ part s (fec_start laid.type) (layout_of laid).fec
unfolding fec_in_layout layout_of part
fec-begin bits s laid e =
    tested (with_fec laid.type) (λ yes. ap (λ (n : ℕ). part s n (layout_of laid).fec) (pick_true _ _ 0 yes)) (λ no. rw (lacked bits s laid e fec (has-fec bits s laid e ∙ no)) refl)

-- a field of a single NLRI stands where its span says, if it does so by the layout
spanned : (span : Fields → Span) (field : Fields → List ℕ)
    → ((bits : ℕ) (s : List ℕ) (laid : Laid) → laid_at bits s ≡ given laid → LayoutWithin (layout_of laid) s
    → part s (span (fields_at (layout_of laid) s)).start (span (fields_at (layout_of laid) s)).size ≡ field (fields_at (layout_of laid) s))
    → (afi : ℕ) (s : List ℕ) (f : Fields) → read_nlri afi s ≡ given f → part s (span f).start (span f).size ≡ field f
unfolding read_nlri
spanned span field stands afi s f e =
    let p = passed _ _ _ e in
    let q = passed _ _ _ p.second in
    let shape = shaped p.value s q.value (family-octets afi p.value p.first).1 q.first in
    subst (λ (g : Fields). part s (span g).start (span g).size ≡ field g) (sym shape.fields ∙ given-same q.second)
    (stands p.value s q.value (single-laid-out p.value s q.value q.first).front shape.within)

pub fec-spanned : (afi : ℕ) (s : List ℕ) (f : Fields) → read_nlri afi s ≡ given f → part s (fec_span f).start (fec_span f).size ≡ f.fec
unfolding fields_at fec_in_layout layout_of part
fec-spanned =
    spanned fec_span (λ (g : Fields). g.fec) (λ bits s laid e w. ap (λ (k : Span). part s k.start k.size) (sym (fec-same (layout_of laid) s w)) ∙ fec-begin bits s laid e)

-- a key stands where its span says; where there is none, any start will do
key-start : (bits : ℕ) (s : List ℕ) (laid : Laid) → laid_at bits s ≡ given laid → part s (key_at (layout_of laid)).start (layout_of laid).key ≡ part s 2 (layout_of laid).key
unfolding key_at layout_of part
key-start bits s laid e =
    tested (with_key laid.type) (λ yes. ap (λ (n : ℕ). part s n (layout_of laid).key) (pick_true _ 2 0 yes)) (λ no. rw (other-sizes bits s laid e no).unkeyed refl)

pub key-spanned : (afi : ℕ) (s : List ℕ) (f : Fields) → read_nlri afi s ≡ given f → part s (key_span f).start (key_span f).size ≡ f.key
unfolding fields_at key_at layout_of part
key-spanned =
    spanned key_span (λ (g : Fields). g.key) (λ bits s laid e w. ap (λ (k : Span). part s k.start k.size) (sym (key-same (layout_of laid) s w)) ∙ key-start bits s laid e)

pub answer-given : (afi : ℕ) (s : List ℕ) (f : Fields) (nlri : Nlri) (key fec : Span) → read_nlri afi s ≡ given f → nlri ≡ nlri_struct f → key ≡ key_span f → fec ≡ fec_span f
    → record { number = DONE; nlri = nlri; key = key; fec = fec } ≡ nlri_answer (read_nlri afi s)
unfolding nlri_answer on_outcome
answer-given afi s f nlri key held e p q c = (λ i. record { number = DONE; nlri = p i; key = q i; fec = c i }) ∙ ap nlri_answer (sym e)

-- the answer by the parts that a function makes of a layout
pub answer-by : (l l' : Layout) (s : List ℕ) (nlri : Nlri) (key fec : Span) → l ≡ l' → nlri ≡ nlri_struct (fields_at l s) → key ≡ key_at l → fec ≡ fec_in_layout l → record { number = DONE; nlri = nlri; key = key; fec = fec } ≡ answer_at l' s
unfolding answer_at
answer-by l l' s nlri key held e p q c = (λ i. record { number = DONE; nlri = p i; key = q i; fec = c i }) ∙ ap (λ (x : Layout). answer_at x s) e

pub answer-laid : (afi : ℕ) (s : List ℕ) (r : NlriReading) → r ≡ answer_at (layout_in s) s → (read_nlri afi s ≡ given (fields_at (layout_in s) s)) × LayoutWithin (layout_in s) s → r ≡ nlri_answer (read_nlri afi s)
unfolding answer_at
answer-laid afi s r e read = e ∙ answer-given afi s _ _ _ _ read.0 refl (key-same _ s read.1) (fec-same _ s read.1)

pub answer-refused : (r : NlriReading) (afi : ℕ) (s : List ℕ) (n : ℕ) → r ≡ nlri_answer (refused n) → read_nlri afi s ≡ refused n → r ≡ nlri_answer (read_nlri afi s)
answer-refused r afi s n p e = p ∙ ap nlri_answer (sym e)
