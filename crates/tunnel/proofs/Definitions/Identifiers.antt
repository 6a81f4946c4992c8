-- Laws of judging an identifier: a tunnel type is looked up in the table exactly, and reading accepts exactly the identifiers of its
-- row's form.
use Prim.Native.Nat.{ℕ, zero, suc, ◌+◌, ◌≤◌, ◌<◌}
use mathlib.Core.Path.{◌≡◌, refl, sym, ap, subst, ◌∙◌}
use mathlib.Core.Logic.{⊎_elim}
use mathlib.Core.Bool.{Bool, true, false}
use mathlib.Core.List.{List, [], ◌∷◌}
use native.Mathlib.Omega.{arith}
use lib.Dec.{ltb, eqb}
use lib.ListN.{length, get_or}
use borrow.Author.Tests.{ltb-true, ltb-false, eqb-true, eqb-false, eq-eqb, ne_eqb}
use Rattle.octets.specs.Lists.{Among, first, later}
use Rattle.octets.specs.Choice.{pick, both, either}
use Rattle.octets.specs.Numbers.{DONE, TUNNEL, IDENT}
use Rattle.octets.specs.Outcome.{Outcome, given, refused, on_outcome, and_then, number_of}
use Rattle.octets.specs.Octets.{AllOctets}
use Rattle.octets.proofs.Choice.{both_true, either_left, tested, pick_true, pick-false, pick-case, pick-passed, opposite, is_false, both-held, picked, either_second}
use Rattle.octets.proofs.Outcome.{never, given-same, refused-same, given-unless, and-case, passed, done-given, Refuses, value, number, refuses-by, refuses-also}
use Rattle.fec_elements.specs.Fields.{encode_fec}
use Rattle.fec_elements.specs.Reading.{fec_in, whole_fec}
use Rattle.tunnel.specs.Identifier.{IdentifierForm, sizes, fec_types, TableRow, row_of, identifier_forms, form_in, form_of, IsIdentifier, of_size, of_fec, OfType, one_of, is_identifier, judged, read_identifier}
use Rattle.tunnel.specs.Inner.{unknown}
use Rattle.tunnel.specs.Rules.AttributeRules.{Unknown}
use Rattle.fec_elements.proofs.Wholes.{whole_fields, whole-encode, type-encode}

-- `Among`, computed
one-of-among : {n : ℕ} {ns : List ℕ} → Among n ns → one_of n ns ≡ true
unfolding one_of
one-of-among {n} (first {y = m} {ys = ns} e) = either_left (eqb n m) (one_of n ns) (eq-eqb n m e)
one-of-among {n} (later {y = m} {ys = ns} o) = either_second (eqb n m) (one_of n ns) (one-of-among o)

among-one-of : (n : ℕ) (ns : List ℕ) → one_of n ns ≡ true → Among n ns
unfolding one_of either
among-one-of n [] h = absurd (opposite h refl)
among-one-of n (m ∷ ms) h =
    tested (eqb n m)
    (λ p. first (eqb-true n m p))
    (λ p. later (among-one-of n ms (rw p at h)))

-- `IsIdentifier`, computed
identifier-computed : {form : IdentifierForm} {i : List ℕ} → IsIdentifier form i → is_identifier form i ≡ true
unfolding is_identifier
identifier-computed (of_size o) = one-of-among o
identifier-computed (of_fec {ns} {f} w o) =
    both_true (whole_fec (encode_fec f)) (one_of (get_or (encode_fec f) 0 0) ns) (whole-encode f w) (rw (type-encode f w) (one-of-among o))

identifier-of : (form : IdentifierForm) (i : List ℕ) → AllOctets i → is_identifier form i ≡ true → IsIdentifier form i
unfolding is_identifier fec_in
identifier-of (sizes ns) i a h = of_size (among-one-of (length i) ns h)
identifier-of (fec_types ns) i a h =
    let p = both-held (whole_fec i) (one_of (get_or i 0 0) ns) h in
    let q = whole_fields i a p.0 in
    subst (λ (l : List ℕ). IsIdentifier (fec_types ns) l) (sym q.1) (of_fec q.0 (among-one-of (get_or i 0 0) ns p.1))

-- the tunnel types of rows rise, from n on
Rising : ℕ → List TableRow → Type 0
Rising n [] = Unit
Rising n (r ∷ rs) = (n ≤ r.tunnel_type) × Rising (r.tunnel_type + 1) rs

rising-among : (rows : List TableRow) (n t : ℕ) (form : IdentifierForm) → Rising n rows → Among (row_of t form) rows → n ≤ t
unfolding Rising
rising-among [] n t form l m = elim m [ ]
rising-among (r ∷ rs) n t form l (first e) = rw (ap (λ (q : TableRow). q.tunnel_type) e) l.0
rising-among (r ∷ rs) n t form l (later m) = omega (arith, rising-among rs (r.tunnel_type + 1) t form l.1 m)

rising : Rising 0 identifier_forms
unfolding Rising identifier_forms
rising = omega arith

-- looking a tunnel type up finds exactly its row
form-in-among : (rows : List TableRow) (n t : ℕ) (form : IdentifierForm) → Rising n rows → Among (row_of t form) rows → form_in rows t ≡ given form
unfolding form_in Rising
form-in-among [] n t form l m = elim m [ ]
form-in-among (r ∷ rs) n t form l (first e) =
    let type : t ≡ r.tunnel_type = ap (λ (q : TableRow). q.tunnel_type) e in
    let same : form ≡ r.form = ap (λ (q : TableRow). q.form) e in
    rw same (pick_true (eqb t r.tunnel_type) (given r.form) (form_in rs t) (eq-eqb t r.tunnel_type type))
form-in-among (r ∷ rs) n t form l (later m) =
    let other : (t ≡ r.tunnel_type → ⊥) = λ e. omega (arith, rising-among rs (r.tunnel_type + 1) t form l.1 m) in
    pick-false (eqb t r.tunnel_type) (given r.form) (form_in rs t) (ne_eqb t r.tunnel_type other) ∙ form-in-among rs (r.tunnel_type + 1) t form l.1 m

among-form-in : (rows : List TableRow) (t : ℕ) (form : IdentifierForm) → form_in rows t ≡ given form → Among (row_of t form) rows
unfolding form_in
among-form-in [] t form e = absurd (never e refl)
among-form-in (r ∷ rs) t form e =
    ⊎_elim
    (λ p. let type : t ≡ r.tunnel_type = eqb-true t r.tunnel_type p.0 in let same : form ≡ r.form = cc p.1 in first (rw (type, same)))
    (λ p. later (among-form-in rs t form p.1))
    (picked (eqb t r.tunnel_type) (given r.form) (form_in rs t) (given form) e)

pub form-among : (t : ℕ) (form : IdentifierForm) → Among (row_of t form) identifier_forms → form_of t ≡ given form
unfolding form_of
form-among t form m = form-in-among identifier_forms 0 t form rising m

among-form : (t : ℕ) (form : IdentifierForm) → form_of t ≡ given form → Among (row_of t form) identifier_forms
unfolding form_of
among-form t form e = among-form-in identifier_forms t form e

-- no row of these is of this tunnel type
NoRow : List TableRow → ℕ → Type 0
NoRow [] t = Unit
NoRow (r ∷ rs) t = (t ≡ r.tunnel_type → ⊥) × NoRow rs t

form-in-no-row : (rows : List TableRow) (t : ℕ) → NoRow rows t → form_in rows t ≡ refused TUNNEL
unfolding form_in NoRow
form-in-no-row [] t a = refl
form-in-no-row (r ∷ rs) t a = pick-false (eqb t r.tunnel_type) (given r.form) (form_in rs t) (ne_eqb t r.tunnel_type a.0) ∙ form-in-no-row rs t a.1

pub form-unknown : (t : ℕ) → Unknown t → form_of t ≡ refused TUNNEL
unfolding form_of identifier_forms NoRow
form-unknown t u = form-in-no-row identifier_forms t (omega arith)

-- a test of tunnel types that is the table's on every octet, computed
unfoldable pub agreeing : (f g : ℕ → Bool) → ℕ → Bool
agreeing f g zero = true
agreeing f g (suc n) = both (pick (f n) (g n) (pick (g n) false true)) (agreeing f g n)

agree : (a b : Bool) → pick a b (pick b false true) ≡ true → a ≡ b
unfolding pick
agree true b e = sym e
agree false true e = e
agree false false e = refl

pub agree-below : (f g : ℕ → Bool) (n : ℕ) → agreeing f g n ≡ true → (t : ℕ) → t < n → f t ≡ g t
unfolding agreeing
agree-below f g zero h t l = absurd (omega arith)
agree-below f g (suc n) h t l =
    let p = both-held _ _ h in
    tested (eqb t n)
    (λ e. rw (eqb-true t n e) (agree (f n) (g n) p.0))
    (λ e. agree-below f g n p.1 t (omega (arith, eqb-false t n e)))

pub unknown-octet : (r : Bool) (t : ℕ) → t < 256 → r ≡ pick (eqb t 11) false (ltb 7 t) → r ≡ unknown t
unfolding agreeing both pick unknown form_of form_in identifier_forms on_outcome
unknown-octet r t h e = e ∙ agree-below (λ k. pick (eqb k 11) false (ltb 7 k)) unknown 256 refl t h

pub unknown-form : (t n : ℕ) → form_of t ≡ refused n → Unknown t
unfolding unknown on_outcome
unknown-form t n e =
    tested (ltb t 256)
    (λ p.
    let u : unknown t ≡ true = rw e in
    let q = pick-passed (eqb t 11) (ltb 7 t) (unknown-octet _ t (ltb-true t 256 p) refl ∙ u) in
    record { over = ltb-true 7 t q.1; not_bier = eqb-false t 11 q.0 })
    (λ p. let h = ltb-false t 256 p in record { over = omega arith; not_bier = λ x. omega arith })

-- an identifier judged, by what looking its tunnel type up comes to
pub read_known : (t : ℕ) (i : List ℕ) (form : IdentifierForm) → form_of t ≡ given form → read_identifier t i ≡ judged form i
unfolding read_identifier and_then
read_known t i form e = rw e

pub read-unknown : (t : ℕ) (i : List ℕ) → Unknown t → read_identifier t i ≡ refused TUNNEL
unfolding read_identifier and_then
read-unknown t i u = rw (form-unknown t u)

pub read-of-type : {t : ℕ} {i : List ℕ} → OfType t i → read_identifier t i ≡ given i
read-of-type {t} {i} o =
    read_known t i o.form (form-among t o.form o.in_table) ∙ pick_true (is_identifier o.form i) (given i) (refused IDENT) (identifier-computed o.of_form)

-- an identifier that is given is itself, of the form in its tunnel type's row
pub record Fits (t : ℕ) (i : List ℕ) : Type 0 where
  pub form : IdentifierForm
  pub found : form_of t ≡ given form
  pub is : is_identifier form i ≡ true

pub read_fits : {t : ℕ} {i j : List ℕ} → read_identifier t i ≡ given j → Fits t i × (i ≡ j)
unfolding read_identifier
read_fits e =
    let p = passed _ _ _ e in
    let q = given-unless _ _ _ _ p.second in
    (record { form = p.value; found = p.first; is = q.0 }, given-same q.1)

pub read_whole : (t : ℕ) (i : List ℕ) {ns j : List ℕ} → form_of t ≡ given (fec_types ns) → read_identifier t i ≡ given j → whole_fec i ≡ true
unfolding is_identifier
read_whole t i {ns} e r = (both-held _ _ (given-unless _ _ _ _ (sym (read_known t i (fec_types ns) e) ∙ r)).0).0

pub of-type : {t : ℕ} {i : List ℕ} → AllOctets i → Fits t i → OfType t i
of-type {t} {i} a f = record { form = f.form; in_table = among-form t f.form f.found; of_form = identifier-of f.form i a f.is }

-- why judging refuses
pub data IdentifierRefusal (t : ℕ) (i : List ℕ) : ℕ → Type 0 where
  no_row : Unknown t → IdentifierRefusal t i TUNNEL
  no_fit : (Unknown t → ⊥) → (OfType t i → ⊥) → IdentifierRefusal t i IDENT

pub read-refuses : (t : ℕ) (i : List ℕ) → Refuses (IdentifierRefusal t i) (read_identifier t i)
unfolding read_identifier
read-refuses t i =
    and-case (Refuses (IdentifierRefusal t i)) (form_of t) (λ form. judged form i)
    (λ n e.
    let u = unknown-form t n e in
    let same : TUNNEL ≡ n = refused-same {A = IdentifierForm} (sym (form-unknown t u) ∙ e) in
    rw (← same) (number (no_row u)))
    (λ form e. pick-case (Refuses (IdentifierRefusal t i)) (is_identifier form i) _ _ (λ _. value)
    (λ p. number (no_fit (λ u. never e (form-unknown t u)) (λ o. opposite (read_fits (read-of-type o)).0.is (rw (given-same (sym e ∙ (read_fits (read-of-type o)).0.found)) at p)))))

pub read-unfit : (t : ℕ) (i : List ℕ) → AllOctets i → (Unknown t → ⊥) → (OfType t i → ⊥) → read_identifier t i ≡ refused IDENT
unfolding read_identifier
read-unfit t i a k o =
    and-case (λ (r : Outcome (List ℕ)). r ≡ refused IDENT) (form_of t) (λ form. judged form i) (λ n e. absurd (k (unknown-form t n e)))
    (λ form e. pick-false _ _ _ (is_false (is_identifier form i) (λ p. o (of-type a (record { form = form; found = e; is = p })))))

-- DONE comes with the identifier
never_done : {t : ℕ} {i : List ℕ} {n : ℕ} → IdentifierRefusal t i n → n ≡ DONE → ⊥
never_done (no_row u) e = omega arith
never_done (no_fit k o) e = omega arith

pub refuses-identifier : (t : ℕ) (i : List ℕ) → Refuses (λ n. n ≡ DONE → ⊥) (read_identifier t i)
refuses-identifier t i = refuses-also (λ n. never_done) (read-refuses t i)

pub judged-done : (n t : ℕ) (i : List ℕ) → n ≡ number_of (read_identifier t i) → n ≡ DONE → read_identifier t i ≡ given i
judged-done n t i e z =
    let d = done-given (read_identifier t i) (λ m. refuses-by _ m (refuses-identifier t i)) (sym e ∙ z) in
    d.1 ∙ ap given (sym (read_fits d.1).1)
