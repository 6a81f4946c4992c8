-- Laws of judging FECs that hold one another: what each number says of the octets, by one induction over the depth.
use Prim.Native.Nat.{ℕ, zero, suc, ◌-◌, ◌≤◌, ◌<◌}
use mathlib.Core.Path.{◌≡◌, refl, sym, ap, subst, ◌∙◌}
use mathlib.Core.Logic.{◌⊎◌, inl, inr, ⊎_elim}
use mathlib.Core.Bool.{true, false}
use mathlib.Core.List.{List}
use native.Mathlib.Omega.{arith}
use lib.Dec.{eqb}
use lib.ListN.{length, get_or, drop}
use lib.Seq.{drop-append_seam}
use borrow.Author.Tests.{eqb-true, eqb-false, eq-eqb, ne_eqb}
use Rattle.octets.specs.Choice.{pick}
use Rattle.octets.specs.Numbers.{DONE, LENGTH, IDENT, DEEP}
use Rattle.octets.specs.Outcome.{given, refused, number_of}
use Rattle.octets.specs.Octets.{AllOctets, part, number_in}
use Rattle.octets.proofs.Choice.{tested, opposite, is_false, pick_true, pick-false, pick-case, picked, picks, skips}
use Rattle.octets.proofs.Outcome.{never, given-same, refused-same}
use Rattle.octets.proofs.AllOctets.{octets-drop}
use Rattle.fec_elements.specs.declared.Standing.{Standing}
use Rattle.fec_elements.specs.declared.Standing.TheVariants.{InBody, Lent, Filling}
use Rattle.fec_elements.specs.Fields.{FecFields, encode_fec}
use Rattle.fec_elements.specs.Nested.{Holder, with_opaque, encode_holder, Opens, WellFormedHolder, KeptOctets}
use Rattle.fec_elements.specs.Reading.{opaque_start, fec_size, fec_in, runs_out, length_fault, root_fault, family_fault, header_fault, opens, held_start, holds_fec, fec_with, opaque_fault, fec_fault, most_deep, read_fec}
use Rattle.fec_elements.specs.Rules.FecRules.{FecAt, HeaderFault, Ended, inside, inside_lent, inside_filling, type_ends, bad_type, family_ends, bad_family, size_ends, bad_size, root_ends, opaque_ends, overfull}
use Rattle.fec_elements.proofs.Fecs.{FecTests, start-in, fields-formed, fields-octets, encode-size, encode-tests, encode-fields}
use Rattle.fec_elements.proofs.Headers.{fault-told, fault-stands, header-passes, passes-header}
use Rattle.fec_elements.proofs.Holders.{opens_of, opens-computed, held_of, opens-encode, held-encode, holds-encode}

-- what judging an opaque value in which no FEC is looked for comes to, where FECs may stand `left` deep in it
pub data Ends : (left : ℕ) → List ℕ → ℕ → Type 0 where
  keeps : {left : ℕ} {o : List ℕ} → KeptOctets o → Ends left o DONE
  deepest : {o : List ℕ} → Opens o → Ends 0 o DEEP

-- what judging a FEC comes to
pub data FecJudged : (left : ℕ) → Standing → List ℕ → ℕ → Type 0 where
  faulty : {left : ℕ} {p : Standing} {s : List ℕ} {n : ℕ} → HeaderFault p s n → FecJudged left p s n
  ended : {left : ℕ} {p : Standing} {s o : List ℕ} {n : ℕ} → FecAt p s o → Ends left o n → FecJudged left p s n
  unheld : {left : ℕ} {p : Standing} {s o : List ℕ} → FecAt p s o → Opens o → ((k : Holder) (fec : List ℕ) → WellFormedHolder k → o ≡ encode_holder k fec → ⊥) → FecJudged (suc left) p s IDENT
  nests : {left : ℕ} {p : Standing} {s fec : List ℕ} {n : ℕ} (k : Holder) → WellFormedHolder k → FecAt p s (encode_holder k fec) → FecJudged left Filling fec n → FecJudged (suc left) p s n

-- a header without fault, and the opaque value that is judged next
pub fec-at : (p : Standing) {s : List ℕ} → AllOctets s → header_fault p s ≡ DONE → FecAt p s (fec_in s).opaque_value
unfolding fec_in
fec-at p {s} a e =
    let q = header-passes p s e in
    record {
      head = record { fec_type = get_or s 0 0; address_family = number_in (part s 1 2) 0; root = part s 4 (get_or s 3 0) };
      rest = drop (fec_size s) s;
      well_formed = record { typed = q.0; fields = fields-formed a q.1.tests };
      octets = fields-octets a q.1.tests;
      family = q.1.family;
      followed = q.1.followed;
    }

-- the other way
module _ {p : Standing} {s o : List ℕ} (f : FecAt p s o) where
  pub at_fields : fec_in s ≡ with_opaque f.head o
  at_fields = rw f.octets (encode-fields (with_opaque f.head o) f.rest f.well_formed.fields)

  pub at_size : fec_size s ≡ length (encode_fec (with_opaque f.head o))
  at_size = rw f.octets (encode-size (with_opaque f.head o) f.rest f.well_formed.fields)

  at-type : get_or s 0 0 ≡ f.head.fec_type
  unfolding fec_in
  at-type = ap (λ (x : FecFields). x.fec_type) at_fields

  at-family : number_in (part s 1 2) 0 ≡ f.head.address_family
  unfolding fec_in
  at-family = ap (λ (x : FecFields). x.address_family) at_fields

  at_rest : drop (fec_size s) s ≡ f.rest
  at_rest = ap (λ (n : ℕ). drop n s) at_size ∙ ap (drop (length (encode_fec (with_opaque f.head o)))) f.octets ∙ drop-append_seam (encode_fec (with_opaque f.head o)) f.rest

  pub at_done : header_fault p s ≡ DONE
  at_done =
      passes-header p s (rw at-type f.well_formed.typed)
      record {
        tests = subst FecTests (sym f.octets) (encode-tests (with_opaque f.head o) f.rest f.well_formed.fields);
        family = rw at-family f.family;
        followed = rw at_rest f.followed;
      }

  -- so the opaque value is judged next
  at_next : (next : List ℕ → ℕ) → fec_with next p s ≡ next o
  unfolding fec_with
  at_next next = pick_true _ _ _ (eq-eqb (header_fault p s) DONE at_done) ∙ ap (λ (x : FecFields). next x.opaque_value) at_fields

-- no fault of a header is DONE or DEEP
ended-bad : {p : Standing} {n : ℕ} → Ended p n → (n ≡ DONE → ⊥) × (n ≡ DEEP → ⊥)
ended-bad inside = (λ e. omega arith, λ e. omega arith)
ended-bad inside_lent = (λ e. omega arith, λ e. omega arith)
ended-bad inside_filling = (λ e. omega arith, λ e. omega arith)

pub header-bad : {p : Standing} {s : List ℕ} {n : ℕ} → HeaderFault p s n → (n ≡ DONE → ⊥) × (n ≡ DEEP → ⊥)
header-bad (type_ends l e) = ended-bad e
header-bad (bad_type l t) = (λ e. omega arith, λ e. omega arith)
header-bad (family_ends t l e) = ended-bad e
header-bad (bad_family t l f) = (λ e. omega arith, λ e. omega arith)
header-bad (size_ends t l e) = ended-bad e
header-bad (bad_size t l f) = (λ e. omega arith, λ e. omega arith)
header-bad (root_ends t l e) = ended-bad e
header-bad (opaque_ends t h l e) = ended-bad e
header-bad (overfull t l f) = (λ e. omega arith, λ e. omega arith)

-- an opaque value is octets that fit its length
at-fits : {p : Standing} {s o : List ℕ} → FecAt p s o → length o < 65536
at-fits f = f.well_formed.fields.opaque_fits

kept-shut : (o : List ℕ) → KeptOctets o → opens o ≡ false
kept-shut o k = is_false (opens o) (λ e. k (opens_of o e))

ends-told : {left : ℕ} {o : List ℕ} {n : ℕ} → Ends left o n → opaque_fault left o ≡ n
unfolding opaque_fault
ends-told (keeps {left = zero} {o} k) = pick-false _ _ _ (kept-shut o k)
ends-told (keeps {left = suc left} {o} k) = pick-false _ _ _ (kept-shut o k)
ends-told (deepest o) = pick_true _ _ _ (opens-computed o)

-- what is judged is told
pub judged-told : {left : ℕ} {p : Standing} {s : List ℕ} {n : ℕ} → FecJudged left p s n → fec_with (opaque_fault left) p s ≡ n
unfolding fec_with opaque_fault
judged-told {p} {s} (faulty h) = pick-false _ _ _ (ne_eqb (header_fault p s) DONE (λ z. (header-bad h).0 (sym (fault-told p s h) ∙ z))) ∙ fault-told p s h
judged-told (ended {left} f e) = at_next f (opaque_fault left) ∙ ends-told e
judged-told (unheld {left} {o} f h b) = at_next f (opaque_fault (suc left)) ∙ pick_true _ _ _ (opens-computed h) ∙ pick-false _ _ _ (is_false (holds_fec o) (λ t. let x = held_of f.well_formed.fields.opaque_octets h t in b x.holder (drop (held_start o) o) x.well_formed x.octets))
judged-told (nests {left} {fec} k w f j) =
    at_next f (opaque_fault (suc left)) ∙ pick_true _ _ _ (opens-computed (opens-encode fec w)) ∙ pick_true _ _ _ (holds-encode fec w (at-fits f)) ∙ ap (fec_with (opaque_fault left) Filling) (held-encode fec w) ∙ judged-told j

-- and every list of octets is judged so
opaque-judged : (left : ℕ) {p : Standing} {s o : List ℕ} → FecAt p s o → ((fec : List ℕ) → AllOctets fec → FecJudged left Filling fec (fec_with (opaque_fault left) Filling fec)) → FecJudged (suc left) p s (opaque_fault (suc left) o)
unfolding opaque_fault
opaque-judged left {p} {s} {o} f next =
    let a = f.well_formed.fields.opaque_octets in
    pick-case (FecJudged (suc left) p s) (opens o) _ _
    (λ t. pick-case (FecJudged (suc left) p s) (holds_fec o) _ _
    (λ h.
    let x = held_of a (opens_of o t) h in
    nests x.holder x.well_formed (subst (FecAt p s) x.octets f) (next (drop (held_start o) o) (octets-drop (held_start o) a)))
    (λ h. unheld f (opens_of o t) (λ k fec w e. opposite (rw e (holds-encode fec w (rw (← e) (at-fits f)))) h)))
    (λ t. ended f (keeps (λ x. opposite (opens-computed x) t)))

deepest-judged : {p : Standing} {s o : List ℕ} → FecAt p s o → FecJudged 0 p s (opaque_fault 0 o)
unfolding opaque_fault
deepest-judged {p} {s} {o} f = pick-case (FecJudged 0 p s) (opens o) _ _ (λ t. ended f (deepest (opens_of o t))) (λ t. ended f (keeps (λ x. opposite (opens-computed x) t)))

fec-judged : (left : ℕ) (p : Standing) {s : List ℕ} → AllOctets s → ((o : List ℕ) → FecAt p s o → FecJudged left p s (opaque_fault left o)) → FecJudged left p s (fec_with (opaque_fault left) p s)
unfolding fec_with
fec-judged left p {s} a next =
    pick-case (FecJudged left p s) (eqb (header_fault p s) DONE) _ _ (λ t. next _ (fec-at p a (eqb-true (header_fault p s) DONE t))) (λ t. faulty (fault-stands p s (eqb-false (header_fault p s) DONE t)))

pub judged : (left : ℕ) (p : Standing) {s : List ℕ} → AllOctets s → FecJudged left p s (fec_with (opaque_fault left) p s)
judged zero p a = fec-judged zero p a (λ o f. deepest-judged f)
judged (suc left) p a = fec-judged (suc left) p a (λ o f. opaque-judged left f (λ fec b. judged left Filling b))

-- reading by its number: the size, or the refusal
pub read_done : (p : Standing) (s : List ℕ) → fec_fault most_deep p s ≡ DONE → read_fec p s ≡ given (fec_size s)
unfolding read_fec
read_done p s e = pick_true _ _ _ (eq-eqb (fec_fault most_deep p s) DONE e)

pub read-given : (p : Standing) (s : List ℕ) (size : ℕ) → read_fec p s ≡ given size → (fec_fault most_deep p s ≡ DONE) × (fec_size s ≡ size)
unfolding read_fec
read-given p s size e =
    ⊎_elim (λ q. (eqb-true (fec_fault most_deep p s) DONE q.0, given-same q.1)) (λ q. absurd (never {o = refused (fec_fault most_deep p s)} q.1 refl))
    (picked (eqb (fec_fault most_deep p s) DONE) (given (fec_size s)) (refused (fec_fault most_deep p s)) (given size) e)

pub read-refused : (p : Standing) (s : List ℕ) (n : ℕ) → read_fec p s ≡ refused n → (fec_fault most_deep p s ≡ n) × (n ≡ DONE → ⊥)
unfolding read_fec
read-refused p s n e =
    ⊎_elim (λ q. absurd (never {o = given (fec_size s)} refl q.1))
    (λ q. let same : fec_fault most_deep p s ≡ n = refused-same {A = ℕ} q.1 in (same, λ z. eqb-false (fec_fault most_deep p s) DONE q.0 (same ∙ z)))
    (picked (eqb (fec_fault most_deep p s) DONE) (given (fec_size s)) (refused (fec_fault most_deep p s)) (refused n) e)

pub refused-read : (p : Standing) (s : List ℕ) (n : ℕ) → fec_fault most_deep p s ≡ n → (n ≡ DONE → ⊥) → read_fec p s ≡ refused n
unfolding read_fec
refused-read p s n e d = pick-false _ _ _ (ne_eqb (fec_fault most_deep p s) DONE (λ z. d (sym e ∙ z))) ∙ ap refused e

pub number_read : (p : Standing) (s : List ℕ) → fec_fault most_deep p s ≡ number_of (read_fec p s)
unfolding read_fec number_of
number_read p s = tested (eqb (fec_fault most_deep p s) DONE) (λ t. eqb-true (fec_fault most_deep p s) DONE t ∙ sym (ap number_of (pick_true _ _ _ t))) (λ t. sym (ap number_of (pick-false _ _ _ t)))

-- the size told is that of the lengths at the front, and lies within the octets
fault-header : (depth : ℕ) (p : Standing) (s : List ℕ) → fec_fault depth p s ≡ DONE → header_fault p s ≡ DONE
unfolding fec_fault fec_with
fault-header depth p s e = ⊎_elim (λ yes. eqb-true (header_fault p s) DONE yes.0) (λ no. no.1) (picked _ _ _ _ e)

pub size-read : (p : Standing) (s : List ℕ) (size : ℕ) → read_fec p s ≡ given size → (fec_size s ≡ size) × (size ≤ length s) × (opaque_start s ≤ length s)
size-read p s size e =
    let q = read-given p s size e in
    let whole = (header-passes p s (fault-header most_deep p s q.0)).1.tests.whole in
    (q.1, omega (arith, q.1), start-in s whole)

-- the numbers that refuse a FEC
Told : ℕ → Type 0
Told n = (n ≡ DONE → ⊥) → (n ≡ LENGTH) ⊎ (n ≡ IDENT) ⊎ (n ≡ DEEP)

done-told : Told DONE
unfolding Told
done-told h = absurd (h refl)

ident-told : Told IDENT
unfolding Told
ident-told h = inr (inl refl)

out-told : (p : Standing) → Told (runs_out p)
unfolding runs_out Told
out-told (InBody afi) h = inl refl
out-told (Lent afi) h = inr (inl refl)
out-told Filling h = inr (inl refl)

header-told : (p : Standing) (s : List ℕ) → Told (header_fault p s)
unfolding header_fault family_fault root_fault length_fault
header-told p s =
    pick-case Told _ _ _ (λ _. out-told p)
    (λ _. pick-case Told _ _ _
    (λ _. pick-case Told _ _ _ (λ _. out-told p)
    (λ _. pick-case Told _ _ _
    (λ _. pick-case Told _ _ _ (λ _. out-told p)
    (λ _. pick-case Told _ _ _
    (λ _. pick-case Told _ _ _ (λ _. out-told p) (λ _. pick-case Told _ _ _ (λ _. out-told p) (λ _. pick-case Told _ _ _ (λ _. ident-told) (λ _. done-told))))
    (λ _. ident-told)))
    (λ _. ident-told)))
    (λ _. ident-told))

fec-told : (judge : List ℕ → ℕ) → ((o : List ℕ) → Told (judge o)) → (p : Standing) (s : List ℕ) → Told (fec_with judge p s)
unfolding fec_with
fec-told judge next p s = pick-case Told _ _ _ (λ _. next _) (λ _. header-told p s)

opaque-told : (depth : ℕ) (o : List ℕ) → Told (opaque_fault depth o)
unfolding opaque_fault Told
opaque-told zero o = pick-case Told _ _ _ (λ _ h. inr (inr refl)) (λ _. done-told)
opaque-told (suc depth) o = pick-case Told _ _ _ (λ _. pick-case Told _ _ _ (λ _. fec-told (opaque_fault depth) (opaque-told depth) Filling _) (λ _. ident-told)) (λ _. done-told)

pub read_number : (p : Standing) (s : List ℕ) (n : ℕ) → read_fec p s ≡ refused n → (n ≡ LENGTH) ⊎ (n ≡ IDENT) ⊎ (n ≡ DEEP)
unfolding fec_fault Told
read_number p s n e =
    let q = read-refused p s n e in
    subst Told q.0 (fec-told (opaque_fault (most_deep - 1)) (opaque-told (most_deep - 1)) p s) q.1

-- what the code answers after each step
pub header-whole : (p : Standing) (s : List ℕ) (n : ℕ) → n ≡ header_fault p s → n ≡ DONE → fec_size s ≤ length s
header-whole p s n e z = (header-passes p s (sym e ∙ z)).1.tests.whole

pub fec-stops : (depth : ℕ) (p : Standing) (s : List ℕ) (n : ℕ) → n ≡ header_fault p s → (n ≡ DONE → ⊥) → n ≡ fec_fault depth p s
unfolding fec_fault fec_with
fec-stops depth p s n e d = skips n _ _ _ (ne_eqb (header_fault p s) DONE (λ z. d (e ∙ z))) e

pub fec-goes : (depth : ℕ) (p : Standing) (s o : List ℕ) (n r : ℕ) → n ≡ header_fault p s → n ≡ DONE → o ≡ (fec_in s).opaque_value → r ≡ opaque_fault (depth - 1) o → r ≡ fec_fault depth p s
unfolding fec_fault fec_with
fec-goes depth p s o n r e z q k = picks r _ _ _ (eq-eqb (header_fault p s) DONE (sym e ∙ z)) (k ∙ ap (opaque_fault (depth - 1)) q)

pub opaque-kept : (depth : ℕ) (o : List ℕ) → opens o ≡ false → DONE ≡ opaque_fault depth o
unfolding opaque_fault
opaque-kept zero o h = skips DONE _ _ _ h refl
opaque-kept (suc depth) o h = skips DONE _ _ _ h refl

pub opaque-deep : (depth : ℕ) (o : List ℕ) → opens o ≡ true → depth ≡ 0 → DEEP ≡ opaque_fault depth o
unfolding opaque_fault
opaque-deep depth o h z = rw z (picks DEEP _ _ _ h refl)

opaque-more : (depth : ℕ) (o : List ℕ) → (depth ≡ 0 → ⊥) → opens o ≡ true → opaque_fault depth o ≡ pick (holds_fec o) (fec_fault depth Filling (drop (held_start o) o)) IDENT
unfolding opaque_fault fec_fault
opaque-more zero o z h = absurd (z refl)
opaque-more (suc depth) o z h = let e : suc depth - 1 ≡ depth = omega arith in rw e (pick_true _ _ _ h)

pub opaque-bad : (depth : ℕ) (o : List ℕ) → opens o ≡ true → (depth ≡ 0 → ⊥) → holds_fec o ≡ false → IDENT ≡ opaque_fault depth o
opaque-bad depth o h z b = sym (opaque-more depth o z h ∙ pick-false _ _ _ b)

pub opaque-holds : (depth : ℕ) (o fec : List ℕ) (r : ℕ) → opens o ≡ true → (depth ≡ 0 → ⊥) → holds_fec o ≡ true → fec ≡ drop (held_start o) o → r ≡ fec_fault depth Filling fec → r ≡ opaque_fault depth o
opaque-holds depth o fec r h z b q e = e ∙ ap (fec_fault depth Filling) q ∙ sym (opaque-more depth o z h ∙ pick_true _ _ _ b)
