-- A string with a bit set: its size, and each of its bits.
use Prim.Native.Nat.{ℕ, zero, suc, ◌+◌, ◌-◌, ◌*◌, ◌/◌, ◌%◌, ◌^◌, ◌≤◌, ◌<◌, max}
use mathlib.Core.Path.{◌≡◌, sym, ap, ◌∙◌}
use mathlib.Core.List.{List, [], ◌∷◌}
use mathlib.Core.Logic.{◌↔◌, ◌⊎◌, inl, inr, ⊎_elim}
use native.Mathlib.Nat.{one-mul, max-zero, max-eq_right, div-eq_of_lt, mod-lt}
use native.Mathlib.Omega.{arith}
use borrow.Author.Tests.{eqb-true, eqb-false, ltb-true, ltb-false}
use lib.ListN.{length, get_or, set, length-set}
use lib.Seq.{get_or-set_same, get_or-set_other}
use lib.Dec.{ltb, eqb}
use lib.Pow.{pow-add, pow-lt, shl-shr}
use lib.Bits.{bit_or, or_step, or_shr, or_lt}
use Rattle.octets.specs.Octets.{AllOctets, none, one}
use Rattle.octets.proofs.Choice.{tested}
use Rattle.octets.proofs.AllOctets.{octet-at}
use Rattle.groups.specs.Prefixes.{bit_at}
use Rattle.bier.specs.BitStrings.{octet_of, with_bit}

-- a power of two has one bit
power-same : (k : ℕ) → 2 ^ k / 2 ^ k % 2 ≡ 1
power-same k = ap (λ (n : ℕ). n % 2) (ap (λ (n : ℕ). n / 2 ^ k) (sym (one-mul (2 ^ k))) ∙ shl-shr 1 k)

power-other : (k j : ℕ) → (k ≡ j → ⊥) → 2 ^ k / 2 ^ j % 2 ≡ 0
power-other k j other =
    tested (ltb j k)
    (λ t.
    let less : j < k = ltb-true j k t in
    let more : k ≡ 1 + (k - (j + 1)) + j = omega arith in
    let halves : 2 ^ k / 2 ^ j ≡ 2 * 2 ^ (k - (j + 1)) = ap (λ (n : ℕ). 2 ^ n / 2 ^ j) more ∙ ap (λ (n : ℕ). n / 2 ^ j) (pow-add 2 (1 + (k - (j + 1))) j) ∙ shl-shr (2 ^ (1 + (k - (j + 1)))) j ∙ pow-add 2 1 (k - (j + 1)) in
    omega (arith, halves))
    (λ f. let less : k < j = (let h = ltb-false j k f in omega arith) in ap (λ (n : ℕ). n % 2) (div-eq_of_lt (pow-lt less)))

-- a bit of a number with one bit set
bit-or : (n m j : ℕ) (b : ℕ) → max (n / 2 ^ j % 2) (m / 2 ^ j % 2) ≡ b → b < 2 → bit_or n m / 2 ^ j % 2 ≡ b
bit-or n m j b e h =
    let step : bit_or (n / 2 ^ j) (m / 2 ^ j) ≡ bit_or (n / 2 ^ j / 2) (m / 2 ^ j / 2) * 2 + b = or_step (n / 2 ^ j) (m / 2 ^ j) ∙ ap (λ (x : ℕ). bit_or (n / 2 ^ j / 2) (m / 2 ^ j / 2) * 2 + x) e in
    ap (λ (x : ℕ). x % 2) (or_shr n m j ∙ step) ∙ omega arith

bit-same : (n k : ℕ) → bit_or n (2 ^ k) / 2 ^ k % 2 ≡ 1
bit-same n k = bit-or n (2 ^ k) k 1 (ap (max (n / 2 ^ k % 2)) (power-same k) ∙ max-eq_right (omega arith)) (omega arith)

bit-other : (n k j : ℕ) → (k ≡ j → ⊥) → bit_or n (2 ^ k) / 2 ^ j % 2 ≡ n / 2 ^ j % 2
bit-other n k j other = bit-or n (2 ^ k) j (n / 2 ^ j % 2) (ap (max (n / 2 ^ j % 2)) (power-other k j other) ∙ max-zero (n / 2 ^ j % 2)) (omega arith)

module _ (s : List ℕ) (position : ℕ) where
  pub with-length : length (with_bit s position) ≡ length s
  unfolding with_bit
  with-length = simp length-set

  module _ (sized : length s ≡ 32) (least : 1 ≤ position) (most : position ≤ 256) where
    there : octet_of position < length s
    unfolding octet_of
    there = omega arith

    with-same : bit_at (with_bit s position) (256 - position) ≡ 1
    unfolding bit_at with_bit octet_of
    with-same =
        let o : (256 - position) / 8 ≡ 31 - (position - 1) / 8 = omega arith in
        let k : 7 - (256 - position) % 8 ≡ (position - 1) % 8 = omega arith in
        rw (o, k, get_or-set_same s (31 - (position - 1) / 8) (bit_or (get_or s (31 - (position - 1) / 8) 0) (2 ^ ((position - 1) % 8))) 0 there) (bit-same (get_or s (31 - (position - 1) / 8) 0) ((position - 1) % 8))

    with-other : (i : ℕ) → i < 256 → (i ≡ 256 - position → ⊥) → bit_at (with_bit s position) i ≡ bit_at s i
    unfolding bit_at with_bit octet_of
    with-other i low other =
        tested (eqb (i / 8) (31 - (position - 1) / 8))
        (λ t.
        let o : i / 8 ≡ 31 - (position - 1) / 8 = eqb-true _ _ t in
        let k : (position - 1) % 8 ≡ 7 - i % 8 → ⊥ = λ e. other (omega arith) in
        rw (o, get_or-set_same s (31 - (position - 1) / 8) (bit_or (get_or s (31 - (position - 1) / 8) 0) (2 ^ ((position - 1) % 8))) 0 there) (bit-other (get_or s (31 - (position - 1) / 8) 0) ((position - 1) % 8) (7 - i % 8) k))
        (λ f. rw (get_or-set_other s (31 - (position - 1) / 8) (i / 8) (bit_or (get_or s (31 - (position - 1) / 8) 0) (2 ^ ((position - 1) % 8))) 0 (eqb-false _ _ f)))

    pub with-bit : (i : ℕ) → i < 256 → (bit_at (with_bit s position) i ≡ 1) ↔ ((i ≡ 256 - position) ⊎ (bit_at s i ≡ 1))
    with-bit i low = (
      λ e. tested (eqb i (256 - position)) (λ t. inl (eqb-true _ _ t)) (λ f. inr (sym (with-other i low (eqb-false _ _ f)) ∙ e)),
      λ x. tested (eqb i (256 - position)) (λ t. ap (bit_at (with_bit s position)) (eqb-true _ _ t) ∙ with-same) (λ f. ⊎_elim (λ e. absurd (eqb-false _ _ f e)) (λ e. with-other i low (eqb-false _ _ f) ∙ e) x),
    )

octets-set : (s : List ℕ) (i v : ℕ) → AllOctets s → v < 256 → AllOctets (set s i v)
octets-set [] i v none h = none
octets-set (x ∷ xs) zero v (one f o) h = one h o
octets-set (x ∷ xs) (suc i) v (one f o) h = one f (octets-set xs i v o h)

pub with-octets : (s : List ℕ) (position : ℕ) → AllOctets s → AllOctets (with_bit s position)
unfolding with_bit
with-octets s position o =
    octets-set s (octet_of position) _ o (or_lt 8 (get_or s (octet_of position) 0) (2 ^ ((position - 1) % 8)) (octet-at o (octet_of position)) (pow-lt (mod-lt (position - 1) (omega arith))))
