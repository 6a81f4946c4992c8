-- The ones of a string, and the BFR-ids in it: as many.
use Prim.Native.Nat.{ℕ, zero, suc, ◌+◌, ◌-◌, ◌*◌, ◌/◌, ◌%◌, ◌^◌, ◌≤◌, ◌<◌}
use mathlib.Core.Path.{◌≡◌, refl, sym, ap, subst, ◌∙◌}
use mathlib.Core.List.{List, [], ◌∷◌}
use mathlib.Core.Logic.{◌≢◌, ⊎_elim}
use native.Mathlib.Omega.{arith}
use borrow.Author.Tests.{eqb-true, eqb-false, eq-eqb}
use lib.ListN.{length}
use lib.Dec.{eqb}
use lib.Pow.{shr-shr}
use lib.Count.{ones, ones_step, ones-le}
use Rattle.octets.specs.Choice.{pick}
use Rattle.octets.specs.Octets.{AllOctets, none, one}
use Rattle.octets.specs.Lists.{Among, first, later, Once}
use Rattle.octets.proofs.Choice.{tested, pick_true, pick-false}
use Rattle.octets.proofs.Among.{among_none, among_cases, once-fewer}
use Rattle.groups.specs.Prefixes.{bit_at}
use Rattle.groups.proofs.BitRule.{bit_rule}
use Rattle.groups.proofs.Bits.{bit-of}
use Rattle.bier.specs.BitStrings.{ones_of}
use Rattle.bier.specs.Rules.BierRule.{StringFor, DistinctIds, Ones}

-- the sum of the first so many
sum_to : (ℕ → ℕ) → ℕ → ℕ
sum_to f zero = 0
sum_to f (suc n) = sum_to f n + f n

sum_same : (f g : ℕ → ℕ) (n : ℕ) → ((i : ℕ) → i < n → f i ≡ g i) → sum_to f n ≡ sum_to g n
unfolding sum_to
sum_same f g zero h = refl
sum_same f g (suc n) h = omega (arith, sum_same f g n (λ i l. h i (omega arith)), h n (omega arith))

sum_then : (f : ℕ → ℕ) (a b : ℕ) → sum_to f (a + b) ≡ sum_to f a + sum_to (λ i. f (a + i)) b
unfolding sum_to
sum_then f a zero = let e : a + 0 ≡ a = omega arith in rw e (omega arith)
sum_then f a (suc b) = let e : a + suc b ≡ suc (a + b) = omega arith in rw e (omega (arith, sum_then f a b))

-- the ones of octets are their bits
module _ (o₀ o₁ o₂ o₃ o₄ o₅ o₆ o₇ o₈ b₀ b₁ b₂ b₃ b₄ b₅ b₆ b₇ : ℕ) where
  summed : o₀ ≡ b₀ + o₁ → o₁ ≡ b₁ + o₂ → o₂ ≡ b₂ + o₃ → o₃ ≡ b₃ + o₄ → o₄ ≡ b₄ + o₅ → o₅ ≡ b₅ + o₆ → o₆ ≡ b₆ + o₇ → o₇ ≡ b₇ + o₈ → o₈ ≡ 0
      → 0 + b₇ + b₆ + b₅ + b₄ + b₃ + b₂ + b₁ + b₀ ≡ o₀
  summed e₀ e₁ e₂ e₃ e₄ e₅ e₆ e₇ e₈ = omega arith

octet-ones : (x : ℕ) → x < 256 → sum_to (λ i. (x / 2 ^ (7 - i)) % 2) 8 ≡ ones x
unfolding sum_to
octet-ones x h =
    let whole : x / 2 ^ 0 ≡ x = (let e : x / 1 ≡ x = omega arith in e) in
    let past : x / 2 ^ 8 ≡ 0 = (let e : x / 256 ≡ 0 = omega arith in e) in
    let last : ones (x / 2 ^ 8) ≡ 0 = ap ones past ∙ (let e = ones-le 0 0 (omega arith) in omega arith) in
    summed (ones (x / 2 ^ 0)) (ones (x / 2 ^ 1)) (ones (x / 2 ^ 2)) (ones (x / 2 ^ 3)) (ones (x / 2 ^ 4)) (ones (x / 2 ^ 5)) (ones (x / 2 ^ 6)) (ones (x / 2 ^ 7)) (ones (x / 2 ^ 8)) _ _ _ _ _ _ _ _
    (next 0) (next 1) (next 2) (next 3) (next 4) (next 5) (next 6) (next 7) last
    ∙ ap ones whole
  where
    next : (k : ℕ) → ones (x / 2 ^ k) ≡ x / 2 ^ k % 2 + ones (x / 2 ^ (k + 1))
    next k = ones_step (x / 2 ^ k) ∙ ap (λ (n : ℕ). x / 2 ^ k % 2 + ones n) (shr-shr x k 1)

bits-behind : (x : ℕ) (xs : List ℕ) (i : ℕ) → bit_at (x ∷ xs) (8 + i) ≡ bit_at xs i
unfolding bit_at
bits-behind x xs i = let d : (8 + i) / 8 ≡ suc (i / 8) = omega arith in let m : (8 + i) % 8 ≡ i % 8 = omega arith in rw (d, m)

bits-sum : {s : List ℕ} → AllOctets s → sum_to (bit_at s) (8 * length s) ≡ ones_of s
unfolding ones_of sum_to
bits-sum none = refl
bits-sum (one {x} {xs} h o) =
    let size : 8 * length (x ∷ xs) ≡ 8 + 8 * length xs = omega arith in
    ap (sum_to (bit_at (x ∷ xs))) size ∙ sum_then (bit_at (x ∷ xs)) 8 (8 * length xs)
    ∙ omega (
      arith,
      sum_same (bit_at (x ∷ xs)) (λ i. (x / 2 ^ (7 - i)) % 2) 8 (λ i l. let e : i ≡ 8 * 0 + i = omega arith in ap (bit_at (x ∷ xs)) e ∙ bit-of (x ∷ xs) 0 i l) ∙ octet-ones x h,
      sum_same (λ i. bit_at (x ∷ xs) (8 + i)) (bit_at xs) (8 * length xs) (λ i l. bits-behind x xs i) ∙ bits-sum o,
    )

-- so many of them are ones
ones-to : (s : List ℕ) (n : ℕ) → Ones s n (sum_to (bit_at s) n)
unfolding sum_to
ones-to s zero = Ones.none
ones-to s (suc n) =
    tested (eqb (bit_at s n) 1)
    (λ t. let b : bit_at s n ≡ 1 = eqb-true _ _ t in let e : sum_to (bit_at s) n + bit_at s n ≡ suc (sum_to (bit_at s) n) = omega arith in subst (Ones s (suc n)) (sym e) (Ones.one (ones-to s n) b))
    (λ f.
    let other : bit_at s n ≡ 1 → ⊥ = eqb-false _ _ f in
    let b : bit_at s n ≡ 0 = omega (arith, bit_rule.bit s n) in
    let e : sum_to (bit_at s) n + bit_at s n ≡ sum_to (bit_at s) n = omega arith in
    subst (Ones s (suc n)) (sym e) (Ones.clear (ones-to s n) b))

-- the BFR-ids of a set whose bits are among the first so many
ids_to : (set_number : ℕ) (s : List ℕ) (n : ℕ) → List ℕ
ids_to set_number s zero = []
ids_to set_number s (suc n) = pick (eqb (bit_at s n) 1) ((256 * set_number + (256 - n)) ∷ ids_to set_number s n) (ids_to set_number s n)

module _ (set_number : ℕ) (s : List ℕ) where
  -- an id by its bit
  abbrev HasBit : (n id : ℕ) → Type 0
  HasBit n id = (i : ℕ) × (i < n) × (id ≡ 256 * set_number + (256 - i)) × (bit_at s i ≡ 1)

  ids-bit : (n id : ℕ) → Among id (ids_to set_number s n) → HasBit n id
  unfolding ids_to
  ids-bit zero id m = absurd (among_none m)
  ids-bit (suc n) id m =
      tested (eqb (bit_at s n) 1)
      (λ t. ⊎_elim (λ e. (n, omega arith, e, eqb-true _ _ t)) (λ l. more (ids-bit n id l)) (among_cases (subst (Among id) (pick_true _ _ _ t) m)))
      (λ f. more (ids-bit n id (subst (Among id) (pick-false _ _ _ f) m)))
    where
      more : HasBit n id → HasBit (suc n) id
      more h = (h.0, (let l = h.1 in omega arith), h.2, h.3)

  bit-ids : (n id : ℕ) → HasBit n id → Among id (ids_to set_number s n)
  unfolding ids_to
  bit-ids zero id h = absurd (let l = h.1 in omega arith)
  bit-ids (suc n) id h =
      tested (eqb h.0 n)
      (λ t.
      let is : h.0 ≡ n = eqb-true _ _ t in
      subst (Among id) (sym (pick_true _ _ _ (eq-eqb _ _ (ap (bit_at s) (sym is) ∙ h.3)))) (first (h.2 ∙ ap (λ (i : ℕ). 256 * set_number + (256 - i)) is)))
      (λ f.
      let other : h.0 ≡ n → ⊥ = eqb-false _ _ f in
      let l = bit-ids n id (h.0, (let low = h.1 in omega arith), h.2, h.3) in
      tested (eqb (bit_at s n) 1) (λ t. subst (Among id) (sym (pick_true _ _ _ t)) (later l)) (λ g. subst (Among id) (sym (pick-false _ _ _ g)) l))

  ids-once : (n : ℕ) → n ≤ 256 → Once (ids_to set_number s n)
  unfolding ids_to
  ids-once zero h = Once.none
  ids-once (suc n) h =
      tested (eqb (bit_at s n) 1)
      (λ t. subst Once (sym (pick_true _ _ _ t)) (Once.one (λ m. let b = ids-bit n _ m in let l = b.1 in let e = b.2 in omega arith) (ids-once n (omega arith))))
      (λ f. subst Once (sym (pick-false _ _ _ f)) (ids-once n (omega arith)))

  ids-length : (n : ℕ) → length (ids_to set_number s n) ≡ sum_to (bit_at s) n
  unfolding ids_to sum_to
  ids-length zero = refl
  ids-length (suc n) =
      tested (eqb (bit_at s n) 1)
      (λ t. let b : bit_at s n ≡ 1 = eqb-true _ _ t in ap length (pick_true _ _ _ t) ∙ omega (arith, ids-length n))
      (λ f. let other : bit_at s n ≡ 1 → ⊥ = eqb-false _ _ f in ap length (pick-false _ _ _ f) ∙ omega (arith, ids-length n, bit_rule.bit s n))

-- the string of a set has as many ones as there are BFR-ids of the set that count
module _ (Counting : ℕ → Type 0) (set_number : ℕ) (s : List ℕ) (string : StringFor Counting set_number s) where
  all-bits : 8 * length s ≡ 256
  all-bits = omega (arith, string.size)

  sum_is : sum_to (bit_at s) 256 ≡ ones_of s
  sum_is = ap (sum_to (bit_at s)) (sym all-bits) ∙ bits-sum string.octets

  pub string-ones : Ones s 256 (ones_of s)
  string-ones = subst (Ones s 256) sum_is (ones-to s 256)

  pub distinct-ids : ((id : ℕ) → Counting id → id ≢ 0) → DistinctIds Counting set_number (ones_of s)
  distinct-ids some =
      record {
        ids = ids_to set_number s 256;
        once = ids-once set_number s 256 (omega arith);
        members = λ id. (there id, back id);
        counted = sym (ids-length set_number s 256 ∙ sum_is);
      }
    where
      there : (id : ℕ) → Among id (ids_to set_number s 256) → Counting id × ((id - 1) / 256 ≡ set_number)
      there id m =
          let b = ids-bit set_number s 256 id m in
          let i : ℕ = b.0 in
          let low : i < 256 = b.1 in
          let here : 256 - (256 - i) ≡ i = omega arith in
          let c = (string.bits (256 - i) (omega arith) (omega arith)).0 (ap (bit_at s) here ∙ b.3) in
          let other : c.0 ≢ 0 = some c.0 c.1 in
          let of_set : (c.0 - 1) / 256 ≡ set_number = c.2 in
          let position : (c.0 - 1) % 256 + 1 ≡ 256 - i = c.3 in
          let is : id ≡ 256 * set_number + (256 - i) = b.2 in
          let same : c.0 ≡ id = omega arith in
          subst (λ (x : ℕ). Counting x × ((x - 1) / 256 ≡ set_number)) {x = c.0} same (c.1, of_set)

      back : (id : ℕ) → Counting id × ((id - 1) / 256 ≡ set_number) → Among id (ids_to set_number s 256)
      back id c =
          let other : id ≢ 0 = some id c.0 in
          let of_set : (id - 1) / 256 ≡ set_number = c.1 in
          bit-ids set_number s 256 id (256 - ((id - 1) % 256 + 1), omega arith, omega arith, (string.bits ((id - 1) % 256 + 1) (omega arith) (omega arith)).1 (id, c.0, c.1, refl))

-- every list of the distinct BFR-ids has the same length
pub every : (Counting : ℕ → Type 0) (set_number m n : ℕ) → DistinctIds Counting set_number m → DistinctIds Counting set_number n → m ≡ n
every Counting set_number m n a b =
    let x = once-fewer b.ids a.once (λ id i. (b.members id).1 ((a.members id).0 i)) in
    let y = once-fewer a.ids b.once (λ id i. (a.members id).1 ((b.members id).0 i)) in
    omega (arith, a.counted, b.counted)
