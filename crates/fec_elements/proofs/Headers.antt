-- Laws of judging a FEC up to its opaque value: what DONE says of the octets, and every other number exactly when.
use Prim.Native.Nat.{ℕ, ◌+◌}
use mathlib.Core.Path.{◌≡◌, refl, ap, ◌∙◌}
use mathlib.Core.Logic.{⊎_elim}
use mathlib.Core.Bool.{Bool, true, false}
use mathlib.Core.List.{List, [], ◌∷◌}
use native.Mathlib.Omega.{arith}
use lib.Dec.{ltb, eqb}
use lib.ListN.{length, get_or, drop, length-drop}
use borrow.Author.Tests.{ltb-true, ltb-false, leb-true, eqb-true, eqb-false, eq-eqb, lt-ltb, le-ltb}
use Rattle.octets.specs.Choice.{pick, both}
use Rattle.octets.specs.Numbers.{DONE, IDENT}
use Rattle.octets.specs.Octets.{part, number_in}
use Rattle.octets.proofs.Choice.{tested, opposite, is_false, pick_true, pick-false, pick-case, picked, both_true, both-held}
use Rattle.octets.proofs.Lists.{empty-list}
use Rattle.fec_elements.specs.declared.Standing.{Standing}
use Rattle.fec_elements.specs.declared.Standing.TheVariants.{InBody, Lent, Filling}
use Rattle.fec_elements.specs.Fields.{FecType, p2mp, mp2mp_up, mp2mp_down}
use Rattle.fec_elements.specs.Reading.{opaque_start, opaque_size, fec_size, runs_out, must_fill, takes_family, family_suits, is_fec_type, length_fault, root_fault, family_fault, header_fault}
use Rattle.fec_elements.specs.Rules.FecRules.{OfFamily, in_body, lent, filling, Followed, anything, nothing_lent, nothing, Ended, inside, inside_lent, inside_filling, TypeStands, FamilyStands, SizeStands, opaque_length, HeaderFault, type_ends, bad_type, family_ends, bad_family, size_ends, bad_size, root_ends, opaque_ends, overfull}
use Rattle.fec_elements.proofs.Fecs.{suits_of, suits-computed, FecTests, start_is, start-in}

-- `FecType`, computed
type-of : (t : ℕ) → is_fec_type t ≡ true → FecType t
unfolding is_fec_type
type-of t h =
    let p = both-held _ _ h in
    let least = leb-true 6 t p.0 in
    let most = leb-true t 8 p.1 in
    tested (eqb t 6) (λ e. rw (eqb-true t 6 e) p2mp)
    (λ e. tested (eqb t 7) (λ d. rw (eqb-true t 7 d) mp2mp_up) (λ d. let q : t ≡ 8 = omega (arith, eqb-false t 6 e, eqb-false t 7 d) in rw q mp2mp_down))

type-computed : {t : ℕ} → FecType t → is_fec_type t ≡ true
unfolding is_fec_type both
type-computed p2mp = refl
type-computed mp2mp_up = refl
type-computed mp2mp_down = refl

-- how a FEC stands, computed
family-of : (p : Standing) (address_family : ℕ) → takes_family p address_family ≡ true → OfFamily p address_family
unfolding takes_family
family-of (InBody afi) n h = rw (eqb-true n afi h) in_body
family-of (Lent afi) n h = rw (eqb-true n afi h) lent
family-of Filling n h = filling

family-computed : {p : Standing} {address_family : ℕ} → OfFamily p address_family → takes_family p address_family ≡ true
unfolding takes_family
family-computed (in_body {afi}) = eq-eqb afi afi refl
family-computed (lent {afi}) = eq-eqb afi afi refl
family-computed filling = refl

followed_of : (p : Standing) (rest : List ℕ) → (must_fill p ≡ true → rest ≡ []) → Followed p rest
unfolding must_fill
followed_of (InBody afi) rest h = anything
followed_of (Lent afi) rest h = rw (h refl) nothing_lent
followed_of Filling rest h = rw (h refl) nothing

followed-empty : {p : Standing} {rest : List ℕ} → Followed p rest → must_fill p ≡ true → rest ≡ []
unfolding must_fill
followed-empty anything h = absurd (opposite h refl)
followed-empty nothing_lent h = refl
followed-empty nothing h = refl

pub filling-rest : {rest : List ℕ} → Followed Filling rest → rest ≡ []
filling-rest nothing = refl

fills_of : (p : Standing) → ((rest : List ℕ) → Followed p rest → rest ≡ []) → must_fill p ≡ true
unfolding must_fill
fills_of (InBody afi) h = absurd (let z : ◌≡◌ {A = ℕ} 1 0 = ap length (h (0 ∷ []) anything) in omega arith)
fills_of (Lent afi) h = refl
fills_of Filling h = refl

ended : (p : Standing) → Ended p (runs_out p)
unfolding runs_out
ended (InBody afi) = inside
ended (Lent afi) = inside_lent
ended Filling = inside_filling

ended_is : {p : Standing} {n : ℕ} → Ended p n → runs_out p ≡ n
unfolding runs_out
ended_is inside = refl
ended_is inside_lent = refl
ended_is inside_filling = refl

-- what is left to judge where the fields before it stand
module _ (p : Standing) (s : List ℕ) where
  past-type : TypeStands s → header_fault p s ≡ family_fault p s
  unfolding header_fault
  past-type t = pick-false _ _ _ (le-ltb (length s) 1 t.there) ∙ pick_true _ _ _ (type-computed t.right)

  past-family : FamilyStands p s → header_fault p s ≡ root_fault p s
  unfolding family_fault
  past-family t = past-type t.before ∙ pick-false _ _ _ (le-ltb (length s) 3 t.there) ∙ pick_true _ _ _ (family-computed t.right)

  past-size : SizeStands p s → header_fault p s ≡ length_fault p s
  unfolding root_fault
  past-size t = past-family t.before ∙ pick-false _ _ _ (le-ltb (length s) 4 t.there) ∙ pick_true _ _ _ (suits-computed t.right)

  -- the octets that a FEC says that it has, in the words of the statements
  said : fec_size s ≡ 6 + get_or s 3 0 + opaque_length s
  unfolding fec_size opaque_start opaque_size
  said = omega arith

  -- a fault that stands is told
  pub fault-told : {n : ℕ} → HeaderFault p s n → header_fault p s ≡ n
  unfolding header_fault family_fault root_fault length_fault
  fault-told (type_ends l e) = pick_true _ _ _ (lt-ltb (length s) 1 l) ∙ ended_is e
  fault-told (bad_type l t) = pick-false _ _ _ (le-ltb (length s) 1 l) ∙ pick-false _ _ _ (is_false (is_fec_type (get_or s 0 0)) (λ h. t (type-of _ h)))
  fault-told (family_ends t l e) = past-type t ∙ pick_true _ _ _ (lt-ltb (length s) 3 l) ∙ ended_is e
  fault-told (bad_family t l f) = past-type t ∙ pick-false _ _ _ (le-ltb (length s) 3 l) ∙ pick-false _ _ _ (is_false (takes_family p (number_in (part s 1 2) 0)) (λ h. f (family-of p _ h)))
  fault-told (size_ends t l e) = past-family t ∙ pick_true _ _ _ (lt-ltb (length s) 4 l) ∙ ended_is e
  fault-told (bad_size t l f) = past-family t ∙ pick-false _ _ _ (le-ltb (length s) 4 l) ∙ pick-false _ _ _ (is_false (family_suits (number_in (part s 1 2) 0) (get_or s 3 0)) (λ h. f (suits_of _ _ h)))
  fault-told (root_ends t l e) = past-size t ∙ pick_true _ _ _ (lt-ltb (length s) (opaque_start s) (omega (arith, start_is s))) ∙ ended_is e
  fault-told (opaque_ends t h l e) = past-size t ∙ pick-false _ _ _ (le-ltb (length s) (opaque_start s) (omega (arith, start_is s))) ∙ pick_true _ _ _ (lt-ltb (length s) (fec_size s) (omega (arith, said))) ∙ ended_is e
  fault-told (overfull t l f) =
      past-size t
      ∙ pick-false _ _ _ (le-ltb (length s) (opaque_start s) (omega (arith, start_is s)))
      ∙ pick-false _ _ _ (le-ltb (length s) (fec_size s) (omega (arith, said)))
      ∙ pick_true _ _ _ (both_true _ _ (lt-ltb (fec_size s) (length s) (omega (arith, said))) (fills_of p f))

  -- judged from a field on: a number other than DONE is of a fault that stands
  Stood : ℕ → Type 0
  Stood n = (n ≡ DONE → ⊥) → HeaderFault p s n

  length-stood : SizeStands p s → Stood (length_fault p s)
  unfolding length_fault Stood
  length-stood t =
      pick-case Stood (ltb (length s) (opaque_start s)) _ _ (λ a _. root_ends t (omega (arith, start_is s, ltb-true (length s) (opaque_start s) a)) (ended p))
      (λ a. pick-case Stood (ltb (length s) (fec_size s)) _ _ (λ b _. opaque_ends t (omega (arith, start_is s, ltb-false (length s) (opaque_start s) a)) (omega (arith, said, ltb-true (length s) (fec_size s) b)) (ended p))
      (λ b. pick-case Stood (both (ltb (fec_size s) (length s)) (must_fill p)) _ _
      (λ d _. let q = both-held _ _ d in overfull t (omega (arith, said, ltb-true (fec_size s) (length s) q.0)) (λ r f. followed-empty f q.1))
      (λ d n. absurd (n refl))))

  root-stood : FamilyStands p s → Stood (root_fault p s)
  unfolding root_fault Stood
  root-stood t =
      pick-case Stood (ltb (length s) 4) _ _ (λ a _. size_ends t (ltb-true (length s) 4 a) (ended p))
      (λ a.
      let there = ltb-false (length s) 4 a in
      pick-case Stood (family_suits (number_in (part s 1 2) 0) (get_or s 3 0)) _ _ (λ b. length-stood (record { before = t; there = there; right = suits_of _ _ b }))
      (λ b _. bad_size t there (λ f. opposite (suits-computed f) b)))

  family-stood : TypeStands s → Stood (family_fault p s)
  unfolding family_fault Stood
  family-stood t =
      pick-case Stood (ltb (length s) 3) _ _ (λ a _. family_ends t (ltb-true (length s) 3 a) (ended p))
      (λ a.
      let there = ltb-false (length s) 3 a in
      pick-case Stood (takes_family p (number_in (part s 1 2) 0)) _ _ (λ b. root-stood (record { before = t; there = there; right = family-of p _ b }))
      (λ b _. bad_family t there (λ f. opposite (family-computed f) b)))

  -- so a number other than DONE is of the first fault from left to right
  pub fault-stands : (header_fault p s ≡ DONE → ⊥) → HeaderFault p s (header_fault p s)
  unfolding header_fault Stood
  fault-stands =
      pick-case Stood (ltb (length s) 1) _ _ (λ a _. type_ends (ltb-true (length s) 1 a) (ended p))
      (λ a.
      let there = ltb-false (length s) 1 a in
      pick-case Stood (is_fec_type (get_or s 0 0)) _ _ (λ b. family-stood (record { there = there; right = type-of _ b }))
      (λ b _. bad_type there (λ f. opposite (type-computed f) b)))

-- no fault is told by DONE
out-refuses : (p : Standing) → runs_out p ≡ DONE → ⊥
unfolding runs_out
out-refuses (InBody afi) e = omega arith
out-refuses (Lent afi) e = omega arith
out-refuses Filling e = omega arith

not_done : (b : Bool) (n m : ℕ) → (n ≡ DONE → ⊥) → pick b n m ≡ DONE → (b ≡ false) × (m ≡ DONE)
not_done b n m h e = ⊎_elim (λ y. absurd (h y.1)) (λ y. y) (picked b n m DONE e)

done-right : (b : Bool) (n : ℕ) → pick b n IDENT ≡ DONE → (b ≡ true) × (n ≡ DONE)
done-right b n e = ⊎_elim (λ y. y) (λ y. absurd (let z : ◌≡◌ {A = ℕ} 7 0 = y.1 in omega arith)) (picked b n IDENT DONE e)

-- what DONE says of a FEC, whatever its type
pub record Passes (p : Standing) (s : List ℕ) : Type 0 where
  pub tests : FecTests s
  pub family : OfFamily p (number_in (part s 1 2) 0)
  pub followed : Followed p (drop (fec_size s) s)

pub family-passes : (p : Standing) (s : List ℕ) → family_fault p s ≡ DONE → Passes p s
unfolding family_fault root_fault length_fault
family-passes p s e =
    let a = not_done _ _ _ (out-refuses p) e in
    let b = done-right _ _ a.1 in
    let d = not_done _ _ _ (out-refuses p) b.1 in
    let f = done-right _ _ d.1 in
    let g = not_done _ _ _ (out-refuses p) f.1 in
    let h = not_done _ _ _ (out-refuses p) g.1 in
    let i = not_done _ _ _ (λ z. omega arith) h.1 in
    record {
      tests = record { least = ltb-false (length s) 4 d.0; suits = suits_of _ _ f.0; whole = ltb-false (length s) (fec_size s) h.0 };
      family = family-of p _ b.0;
      followed = followed_of p _ (λ m. empty-list _ (rw (length-drop (fec_size s) s) (omega (arith, ltb-false (fec_size s) (length s) (is_false _ (λ x. opposite (both_true _ _ x m) i.0))))));
    }

pub passes-family : (p : Standing) (s : List ℕ) → Passes p s → family_fault p s ≡ DONE
unfolding family_fault root_fault length_fault
passes-family p s t =
    pick-false _ _ _ (le-ltb (length s) 3 (omega (arith, t.tests.least)))
    ∙ pick_true _ _ _ (family-computed t.family)
    ∙ pick-false _ _ _ (le-ltb (length s) 4 t.tests.least)
    ∙ pick_true _ _ _ (suits-computed t.tests.suits)
    ∙ pick-false _ _ _ (le-ltb (length s) (opaque_start s) (start-in s t.tests.whole))
    ∙ pick-false _ _ _ (le-ltb (length s) (fec_size s) t.tests.whole)
    ∙ pick-false _ _ _ (is_false _ (λ x. let q = both-held _ _ x in omega (arith, ltb-true (fec_size s) (length s) q.0, length-drop (fec_size s) s, ap length (followed-empty t.followed q.1))))

-- and of one of its types
pub header-passes : (p : Standing) (s : List ℕ) → header_fault p s ≡ DONE → FecType (get_or s 0 0) × Passes p s
unfolding header_fault
header-passes p s e =
    let a = done-right _ _ (not_done _ _ _ (out-refuses p) e).1 in
    (type-of _ a.0, family-passes p s a.1)

pub passes-header : (p : Standing) (s : List ℕ) → FecType (get_or s 0 0) → Passes p s → header_fault p s ≡ DONE
passes-header p s t q = past-type p s (record { there = omega (arith, q.tests.least); right = t }) ∙ passes-family p s q
