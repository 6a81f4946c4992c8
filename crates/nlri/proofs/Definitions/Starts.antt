-- Where the fields of a body stand: each behind the fields before it, in the order of kinds that serves every body.
use Rattle.std.proofs.Common.{◌≡◌, ℕ, suc, ◌+◌, ◌≤◌, Bool, true, false, List, [], ◌∷◌, length, take, drop, sym, refl, ap, ◌∙◌, subst, zero-add, arith, length-drop, drop-drop, eqb-true}
use Rattle.octets.specs.Choice.{pick, either}
use Rattle.octets.specs.Outcome.{Outcome, given, and_then}
use Rattle.octets.specs.Octets.{part}
use Rattle.octets.proofs.Choice.{pick_true, pick-false, tested, opposite}
use Rattle.octets.proofs.Outcome.{given-unless, passed, given-same, and-cong}
use Rattle.nlri.specs.Bodies.{FieldKind, distinguisher, source_as, source, group, originator, key, fec, field_in, code_of, same_kind, has_field}
use Rattle.nlri.specs.Reading.{sizes_of, cut}
use Rattle.nlri.proofs.Definitions.Table.{kept, order, distinct, same_kind_lem, same_self, has_first, has-later, Along, along-fields, lacks}

-- the kinds before one
unfoldable pub before : FieldKind → List FieldKind → List FieldKind
before kind [] = []
before kind (k ∷ kinds) = pick (same_kind kind k) [] (k ∷ before kind kinds)

-- the octets of kinds, each of the size given
unfoldable pub sum_of : (FieldKind → ℕ) → List FieldKind → ℕ
sum_of z [] = 0
sum_of z (k ∷ kinds) = z k + sum_of z kinds

-- a body's first size, and those of the fields behind it
pub sizes-first : (P : List ℕ → Type 0) (size : FieldKind → List ℕ → Outcome ℕ) (k : FieldKind) (body : List FieldKind) (x sizes : List ℕ) → sizes_of size (k ∷ body) x ≡ given sizes
    → ((n : ℕ) (rest : List ℕ) → size k x ≡ given n → sizes_of size body (drop n x) ≡ given rest → P (n ∷ rest)) → P sizes
unfolding sizes_of
sizes-first P size k body x sizes e next =
    let p = passed _ _ _ e in
    let q = passed _ _ _ p.second in
    rw (sym (given-same q.second)) (next p.value q.value p.first q.first)

-- sizes that agree in the kinds of a body
pub sizes-same : (size other : FieldKind → List ℕ → Outcome ℕ) (body : List FieldKind) → ((k : FieldKind) → has_field k body ≡ true → (x : List ℕ) → size k x ≡ other k x) → (x : List ℕ) → sizes_of size body x ≡ sizes_of other body x
unfolding sizes_of
sizes-same size other [] same x = refl
sizes-same size other (k ∷ body) same x =
    ap (λ (o : Outcome ℕ). and_then o (λ n. and_then (sizes_of size body (drop n x)) (λ sizes. given (n ∷ sizes)))) (same k (has_first k body) x)
    ∙ and-cong _ _ _ (λ n e. ap (λ (o : Outcome (List ℕ)). and_then o (λ sizes. given (n ∷ sizes))) (sizes-same size other body (λ j h. same j (has-later j k body h)) (drop n x)))

pub length-sizes : (size : FieldKind → List ℕ → Outcome ℕ) (body : List FieldKind) (x sizes : List ℕ) → sizes_of size body x ≡ given sizes → length sizes ≡ length body
unfolding sizes_of
length-sizes size [] x sizes e = ap length (sym (given-same (given-unless _ _ _ _ e).1))
length-sizes size (k ∷ body) x sizes e = sizes-first (λ (z : List ℕ). length z ≡ suc (length body)) size k body x sizes e (λ n rest here left. ap suc (length-sizes size body (drop n x) rest left))

-- a kind of field that stands at `start` of a body's octets: it is read there, with its size, and it is the piece that the body is cut into there
pub record StandsAt (size : FieldKind → List ℕ → Outcome ℕ) (z : FieldKind → ℕ) (kind : FieldKind) (body : List FieldKind) (start : ℕ) (x sizes : List ℕ) : Type 0 where
  pub read : size kind (drop start x) ≡ given (z kind)
  pub piece : field_in [] kind body (cut sizes x) ≡ part x start (z kind)

module _ (size : FieldKind → List ℕ → Outcome ℕ) (z : FieldKind → ℕ) where
  stands-first : (k : FieldKind) (body : List FieldKind) (x sizes : List ℕ) → sizes_of size (k ∷ body) x ≡ given sizes → Along z (k ∷ body) sizes → StandsAt size z k (k ∷ body) 0 x sizes
  unfolding field_in cut part
  stands-first k body x sizes e =
      sizes-first (λ (sizes : List ℕ). Along z (k ∷ body) sizes → StandsAt size z k (k ∷ body) 0 x sizes) size k body x sizes e
      (λ n rest here left al. record { read = here ∙ ap given (sym al.0); piece = pick_true _ _ _ (same_self k) ∙ ap (λ (m : ℕ). take m x) (sym al.0) })

  stands-later : (kind k : FieldKind) (body : List FieldKind) (start : ℕ) (x sizes : List ℕ) → same_kind kind k ≡ false → sizes_of size (k ∷ body) x ≡ given sizes → Along z (k ∷ body) sizes
      → ((x sizes : List ℕ) → sizes_of size body x ≡ given sizes → Along z body sizes → StandsAt size z kind body start x sizes) → StandsAt size z kind (k ∷ body) (z k + start) x sizes
  unfolding field_in cut part
  stands-later kind k body start x sizes other e al later =
      sizes-first (λ (sizes : List ℕ). Along z (k ∷ body) sizes → StandsAt size z kind (k ∷ body) (z k + start) x sizes) size k body x sizes e
      (λ n rest here left al.
      let r = later (drop n x) rest left al.1 in
      let at : drop start (drop n x) ≡ drop (z k + start) x = drop-drop start n x ∙ ap (λ (m : ℕ). drop (m + start) x) (sym al.0) in
      record { read = ap (size kind) (sym at) ∙ r.read; piece = pick-false _ _ _ other ∙ r.piece ∙ ap (take (z kind)) at }) al

  module _ (has : FieldKind → Bool) (none : (k : FieldKind) → has k ≡ false → z k ≡ 0) where
    pub stands : (kind : FieldKind) → has kind ≡ true → (kinds : List FieldKind) (x sizes : List ℕ) → has_field kind kinds ≡ true → sizes_of size (kept has kinds) x ≡ given sizes
        → Along z (kept has kinds) sizes → StandsAt size z kind (kept has kinds) (sum_of z (before kind kinds)) x sizes
    unfolding has_field kept before sum_of pick either
    stands kind h [] x sizes f e al = absurd (opposite f refl)
    stands kind h (k ∷ kinds) x sizes f e al =
        tested (same_kind kind k)
        (λ same.
        let is : kind ≡ k = same_kind_lem kind k same in
        let yes : has k ≡ true = ap has (sym is) ∙ h in
        rw (same, is, yes) (stands-first k (kept has kinds) x sizes (rw yes at e) (rw yes at al)))
        (λ other.
        let in_rest : has_field kind kinds ≡ true = rw other at f in
        tested (has k)
        (λ yes. rw (other, yes) (stands-later kind k (kept has kinds) _ x sizes other (rw yes at e) (rw yes at al) (λ x sizes e al. stands kind h kinds x sizes in_rest e al)))
        (λ no. rw (other, no, none k no, zero-add) (stands kind h kinds x sizes in_rest (rw no at e) (rw no at al))))

    -- the fields take all of the octets
    pub stands-all : ((k : FieldKind) (x : List ℕ) (n : ℕ) → size k x ≡ given n → n ≤ length x) → (kinds : List FieldKind) (x sizes : List ℕ) → sizes_of size (kept has kinds) x ≡ given sizes
        → Along z (kept has kinds) sizes → sum_of z kinds ≡ length x
    unfolding kept sum_of pick sizes_of
    stands-all within [] x sizes e al = sym (eqb-true _ _ (given-unless _ _ _ _ e).0)
    stands-all within (k ∷ kinds) x sizes e al =
        tested (has k)
        (λ yes.
        sizes-first (λ (sizes : List ℕ). Along z (k ∷ kept has kinds) sizes → z k + sum_of z kinds ≡ length x) size k (kept has kinds) x sizes (rw yes at e)
        (λ n rest here left al. let later = stands-all within kinds (drop n x) rest left al.1 in let l = length-drop n x in omega (arith, within k x n here, al.0)) (rw yes at al))
        (λ no. rw (none k no, zero-add) (stands-all within kinds x sizes (rw no at e) (rw no at al)))

has-order : (k : FieldKind) → has_field k order ≡ true
unfolding has_field order same_kind code_of either
has-order distinguisher = refl
has-order source_as = refl
has-order source = refl
has-order group = refl
has-order originator = refl
has-order key = refl
has-order fec = refl

-- the size of a kind of field in a body, and where it starts: behind the fields before it in the order of kinds, of which those that the body lacks take nothing
abbrev pub size_in : List FieldKind → List ℕ → FieldKind → ℕ
size_in body sizes k = field_in 0 k body sizes

abbrev pub start_in : List FieldKind → List ℕ → FieldKind → ℕ
start_in body sizes k = sum_of (size_in body sizes) (before k order)

-- the starts as sums
pub starts : (body : List FieldKind) (sizes : List ℕ) → let z : FieldKind → ℕ = size_in body sizes in
    (start_in body sizes key ≡ 0) × (start_in body sizes distinguisher ≡ z key) × (start_in body sizes source_as ≡ z key + z distinguisher)
    × (start_in body sizes fec ≡ z key + z distinguisher + z source_as) × (start_in body sizes source ≡ z key + z distinguisher + z source_as + z fec)
    × (start_in body sizes group ≡ z key + z distinguisher + z source_as + z fec + z source) × (start_in body sizes originator ≡ z key + z distinguisher + z source_as + z fec + z source + z group)
unfolding sum_of before order same_kind code_of pick
starts body sizes = (refl, omega arith, omega arith, omega arith, omega arith, omega arith, omega arith)

module _ (size : FieldKind → List ℕ → Outcome ℕ) (body : List FieldKind) (x sizes : List ℕ) (once : distinct body ≡ true) (ordered : body ≡ kept (λ k. has_field k body) order) (e : sizes_of size body x ≡ given sizes) where
  none : (k : FieldKind) → has_field k body ≡ false → size_in body sizes k ≡ 0
  none k h = lacks 0 k body sizes h

  along : Along (size_in body sizes) body sizes
  along = along-fields 0 body sizes once (length-sizes size body x sizes e)

  pub body-stands : (k : FieldKind) → has_field k body ≡ true → StandsAt size (size_in body sizes) k body (start_in body sizes k) x sizes
  body-stands k h =
      subst (λ (b : List FieldKind). StandsAt size (size_in body sizes) k b (start_in body sizes k) x sizes) (sym ordered)
      (stands size (size_in body sizes) (λ k. has_field k body) none k h order x sizes (has-order k) (subst (λ (b : List FieldKind). sizes_of size b x ≡ given sizes) ordered e) (subst (λ (b : List FieldKind). Along (size_in body sizes) b sizes) ordered along))

  -- each field is the part of the octets at its start and of its size; a field that the body lacks is nothing
  pub body-piece : (k : FieldKind) → field_in [] k body (cut sizes x) ≡ part x (start_in body sizes k) (size_in body sizes k)
  unfolding part
  body-piece k = tested (has_field k body) (λ yes. (body-stands k yes).piece) (λ no. rw (none k no) (lacks [] k body (cut sizes x) no))

  pub body-all : ((k : FieldKind) (x : List ℕ) (n : ℕ) → size k x ≡ given n → n ≤ length x) → sum_of (size_in body sizes) order ≡ length x
  body-all within =
      stands-all size (size_in body sizes) (λ k. has_field k body) none within order x sizes (subst (λ (b : List FieldKind). sizes_of size b x ≡ given sizes) ordered e)
      (subst (λ (b : List FieldKind). Along (size_in body sizes) b sizes) ordered along)
