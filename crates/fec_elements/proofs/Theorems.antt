-- What is proved of the definitions as a whole; specs/Rules/FecRules.antt says what each states.
use Prim.Native.Nat.{ℕ, zero, suc, ◌+◌, ◌-◌, ◌≤◌}
use mathlib.Core.Path.{◌≡◌, refl, sym, ap, subst, ◌∙◌}
use mathlib.Core.Logic.{◌↔◌, ◌⊎◌, inl, inr, ⊎_elim}
use mathlib.Core.List.{List, [], ◌++◌, append-nil}
use native.Mathlib.Omega.{arith}
use lib.ListN.{length}
use Rattle.octets.specs.Numbers.{DONE, DEEP}
use Rattle.octets.specs.Outcome.{given, refused}
use Rattle.octets.specs.Octets.{AllOctets}
use Rattle.fec_elements.specs.declared.Standing.{Standing}
use Rattle.fec_elements.specs.declared.Standing.TheVariants.{Lent, Filling}
use Rattle.fec_elements.specs.Fields.{FecFields, encode_fec, WellFormedFec}
use Rattle.fec_elements.specs.Nested.{Element, keeping, holding, head_of, with_opaque, encode_holder, encode_element, Opens, WellFormedElement, innermost, around, KeptOctets}
use Rattle.fec_elements.specs.Reading.{fec_size, fec_with, opaque_fault, fec_fault, most_deep, read_fec}
use Rattle.fec_elements.specs.Rules.FecRules.{FecRule, OfFamily, lent, filling, Followed, nothing, nothing_lent, BeginsFec, FecAt, FirstFault, NestedFault, header, too_deep, bad_holder, held, NestedFecRule}
use Rattle.fec_elements.proofs.Fecs.{octets-encode, encode-size}
use Rattle.fec_elements.proofs.Headers.{filling-rest}
use Rattle.fec_elements.proofs.Wholes.{whole_fields, whole-encode, fields-encode}
use Rattle.fec_elements.proofs.Nesting.{Ends, keeps, deepest, FecJudged, faulty, ended, unheld, nests, at_size, header-bad, judged, judged-told, read_done, read-given, read-refused, refused-read, read_number}

depth-least : {I : List ℕ → Type 0} {depth : ℕ} {e : Element} → WellFormedElement I depth e → 1 ≤ depth
depth-least (innermost w i) = omega arith
depth-least (around w k x) = omega arith

-- FECs whose innermost opaque value ends the judging, `left` deep being left there, are judged as it is
element-judged : {I : List ℕ → Type 0} {n : ℕ} (left : ℕ) → ((o : List ℕ) → I o → Ends left o n) → {depth : ℕ} {e : Element} → WellFormedElement I depth e → (all : ℕ) → all + 1 ≡ left + depth
    → (p : Standing) (s rest : List ℕ) → s ≡ encode_element e ++ rest → OfFamily p (head_of e).address_family → Followed p rest → FecJudged all p s n
unfolding encode_element head_of
element-judged {n = n} left b (innermost {h} {o} w i) all q p s rest x f g =
    let same : all ≡ left = omega arith in
    rw same (ended (record { head = h; rest = rest; well_formed = w; octets = x; family = f; followed = g }) (b o i))
element-judged left b (around w k x) zero q p s rest y f g = absurd (omega (arith, depth-least x))
element-judged left b (around {h} {k} {e} w c x) (suc all) q p s rest y f g =
    nests k c (record { head = h; rest = rest; well_formed = w; octets = y; family = f; followed = g })
    (element-judged left b x all (omega arith) Filling (encode_element e) [] (sym (append-nil (encode_element e))) filling nothing)

-- and the other way
record Nest (I : List ℕ → Type 0) (J : ℕ → Type 0) (all : ℕ) (p : Standing) (s : List ℕ) : Type 0 where
  left : ℕ
  depth : ℕ
  at : J left
  sum : all + 1 ≡ left + depth
  begins : BeginsFec I depth p s (fec_size s)

judged-element : {I : List ℕ → Type 0} {J : ℕ → Type 0} {n : ℕ} → (n ≡ DONE) ⊎ (n ≡ DEEP) → ((left : ℕ) (o : List ℕ) → Ends left o n → I o × J left) → {all : ℕ} {p : Standing} {s : List ℕ} → FecJudged all p s n → Nest I J all p s
unfolding encode_element head_of
judged-element v b (faulty h) = absurd (⊎_elim (header-bad h).0 (header-bad h).1 v)
judged-element v b (ended {left} {s} {o} f e) =
    record {
      left = left;
      depth = 1;
      at = (b left o e).1;
      sum = refl;
      begins = record { element = keeping f.head o; rest = f.rest; well_formed = innermost f.well_formed (b left o e).0; octets = f.octets; sized = at_size f; family = f.family; followed = f.followed };
    }
judged-element v b (unheld f o u) = absurd (⊎_elim (λ e. omega arith) (λ e. omega arith) v)
judged-element v b (nests {p} {s} {fec} k w f j) =
    let x = judged-element v b j in
    let e = x.begins.element in
    let same : fec ≡ encode_element e = x.begins.octets ∙ ap (λ (r : List ℕ). encode_element e ++ r) (filling-rest x.begins.followed) ∙ append-nil (encode_element e) in
    let g = subst (λ (l : List ℕ). FecAt p s (encode_holder k l)) same f in
    record {
      left = x.left;
      depth = suc x.depth;
      at = x.at;
      sum = omega (arith, x.sum);
      begins = record { element = holding g.head k e; rest = g.rest; well_formed = around g.well_formed w x.begins.well_formed; octets = g.octets; sized = at_size g; family = g.family; followed = g.followed };
    }

-- a fault is a number other than DONE of what is judged
judged-fault : {left : ℕ} {p : Standing} {s : List ℕ} {n : ℕ} → (n ≡ DONE → ⊥) → FecJudged left p s n → FirstFault left p s n
judged-fault d (faulty h) = header h
judged-fault d (ended f (keeps k)) = absurd (d refl)
judged-fault d (ended f (deepest o)) = too_deep f o
judged-fault d (unheld f o u) = bad_holder f o u
judged-fault d (nests k w f j) = held k w f (judged-fault d j)

fault-judged : {left : ℕ} {p : Standing} {s : List ℕ} {n : ℕ} → FirstFault left p s n → FecJudged left p s n × (n ≡ DONE → ⊥)
fault-judged (header h) = (faulty h, (header-bad h).0)
fault-judged (too_deep f o) = (ended f (deepest o), λ e. omega arith)
fault-judged (bad_holder f o u) = (unheld f o u, λ e. omega arith)
fault-judged (held k w f j) = let x = fault-judged j in (nests k w f x.0, x.1)

module _ (p : Standing) (s : List ℕ) where
  fault-four : fec_fault most_deep p s ≡ fec_with (opaque_fault 3) p s
  unfolding fec_fault
  fault-four = refl

  number-judged : (n : ℕ) → AllOctets s → fec_fault most_deep p s ≡ n → FecJudged 3 p s n
  number-judged n a e = subst (FecJudged 3 p s) (sym fault-four ∙ e) (judged 3 p a)

  begins-judged : {I : List ℕ → Type 0} {depth size : ℕ} (n left : ℕ) → ((o : List ℕ) → I o → Ends left o n) → 4 ≡ left + depth → BeginsFec I depth p s size → fec_fault most_deep p s ≡ n
  begins-judged n left b q x = fault-four ∙ judged-told (element-judged left b x.well_formed 3 q p s x.rest x.octets x.family x.followed)

element-size : {I : List ℕ → Type 0} {depth : ℕ} {e : Element} (rest : List ℕ) → WellFormedElement I depth e → fec_size (encode_element e ++ rest) ≡ length (encode_element e)
unfolding encode_element
element-size rest (innermost {h} {o} w i) = encode-size (with_opaque h o) rest w.fields
element-size rest (around {h} {k} {e} w c x) = encode-size (with_opaque h (encode_holder k (encode_element e))) rest w.fields

octets-element : {I : List ℕ → Type 0} {depth : ℕ} {e : Element} → WellFormedElement I depth e → AllOctets (encode_element e)
unfolding encode_element
octets-element (innermost w i) = octets-encode w.fields
octets-element (around w k x) = octets-encode w.fields

begins-size : {I : List ℕ → Type 0} {depth : ℕ} {p : Standing} {s : List ℕ} {size : ℕ} → BeginsFec I depth p s size → fec_size s ≡ size
begins-size x = ap fec_size x.octets ∙ element-size x.rest x.well_formed ∙ sym x.sized

ends-done : {left : ℕ} {o : List ℕ} {n : ℕ} → Ends left o n → n ≡ DONE → KeptOctets o
ends-done (keeps k) e = k
ends-done (deepest o) e = absurd (omega arith)

ends-deep : {left : ℕ} {o : List ℕ} {n : ℕ} → Ends left o n → n ≡ DEEP → Opens o × (left ≡ 0)
ends-deep (keeps k) e = absurd (omega arith)
ends-deep (deepest o) e = (o, refl)

-- what begins so is accepted, octets or not
pub begins-read : (p : Standing) (s : List ℕ) (size depth : ℕ) → depth ≤ 4 → BeginsFec KeptOctets depth p s size → read_fec p s ≡ given size
begins-read p s size depth h x = read_done p s (begins-judged p s DONE (4 - depth) (λ o k. keeps k) (omega arith) x) ∙ ap given (begins-size x)

nested-accepted : (p : Standing) (s : List ℕ) (size : ℕ) → AllOctets s → (read_fec p s ≡ given size) ↔ ((depth : ℕ) × (depth ≤ 4) × BeginsFec KeptOctets depth p s size)
nested-accepted p s size a = (
  λ e.
      let q = read-given p s size e in
      let x = judged-element {J = λ _. Unit {0}} (inl refl) (λ left o y. (ends-done y refl, tt)) (number-judged p s DONE a q.0) in
      (x.depth, omega (arith, x.sum), subst (BeginsFec KeptOctets x.depth p s) q.1 x.begins),
  λ x. begins-read p s size x.0 x.1 x.2,
)

nested-exactly : (p : Standing) (s : List ℕ) (n : ℕ) → AllOctets s → (read_fec p s ≡ refused n) ↔ NestedFault p s n
nested-exactly p s n a = (
  λ e. let q = read-refused p s n e in judged-fault q.1 (number-judged p s n a q.0),
  λ f. let x = fault-judged f in refused-read p s n (fault-four p s ∙ judged-told x.0) x.1,
)

nested-deep : (p : Standing) (s : List ℕ) → AllOctets s → (read_fec p s ≡ refused DEEP) ↔ ((size : ℕ) × BeginsFec Opens 4 p s size)
nested-deep p s a = (
  λ e.
      let x = judged-element {J = λ left. left ≡ 0} (inr refl) (λ left o y. ends-deep y refl) (number-judged p s DEEP a (read-refused p s DEEP e).0) in
      let four : x.depth ≡ 4 = omega (arith, x.sum, x.at) in
      (fec_size s, subst (λ (depth : ℕ). BeginsFec Opens depth p s (fec_size s)) four x.begins),
  λ x. refused-read p s DEEP (begins-judged p s DEEP 0 (λ o k. deepest k) refl x.1) (λ e. omega arith),
)

lent-rest : {afi : ℕ} {rest : List ℕ} → Followed (Lent afi) rest → rest ≡ []
lent-rest nothing_lent = refl

lent-family : {afi address_family : ℕ} → OfFamily (Lent afi) address_family → address_family ≡ afi
lent-family lent = refl

nested-lent : (afi : ℕ) (s : List ℕ) → AllOctets s
    → (read_fec (Lent afi) s ≡ given (length s)) ↔ ((depth : ℕ) × (depth ≤ 4) × (e : Element) × WellFormedElement KeptOctets depth e × ((head_of e).address_family ≡ afi) × (s ≡ encode_element e))
nested-lent afi s a = (
  λ r.
      let x = (nested-accepted (Lent afi) s (length s) a).0 r in
      let b = x.2 in
      (x.0, x.1, b.element, b.well_formed, lent-family b.family, b.octets ∙ ap (λ (l : List ℕ). encode_element b.element ++ l) (lent-rest b.followed) ∙ append-nil (encode_element b.element)),
  λ x.
      (nested-accepted (Lent afi) s (length s) a).1
      (x.0, x.1, record { element = x.2; rest = []; well_formed = x.3; octets = x.5 ∙ sym (append-nil (encode_element x.2)); sized = ap length x.5; family = rw x.4 lent; followed = nothing_lent }),
)

pub nested_fec_rule : NestedFecRule
nested_fec_rule = record { accepted = nested-accepted; lent = nested-lent; exactly = nested-exactly; deep = nested-deep; numbers = read_number; octets = λ depth e w. octets-element w }

pub fec_rule : FecRule
fec_rule =
    record {
      accepted = λ i f a. (
        λ p. subst (λ (g : FecFields). WellFormedFec g × (i ≡ encode_fec g)) p.1 (whole_fields i a p.0),
        λ p. rw p.1 (whole-encode f p.0, fields-encode f p.0),
      );
    }
