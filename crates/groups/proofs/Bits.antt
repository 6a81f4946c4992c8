-- Bits of octets: those of whole octets and of the first part of one, by equality, division and remainder.
use Prim.Native.Nat.{ℕ, zero, suc, ◌+◌, ◌*◌, ◌-◌, ◌/◌, ◌%◌, ◌^◌, ◌≤◌, ◌<◌}
use mathlib.Core.Path.{◌≡◌, refl, sym, ◌∙◌, ap, ap₂}
use mathlib.Core.Bool.{true}
use mathlib.Core.List.{List, [], ◌∷◌}
use mathlib.Core.Logic.{◌↔◌, ◌⊎◌, inl, inr, ⊎_elim}
use native.Mathlib.Omega.{arith}
use borrow.Author.Tests.{eqb-true, eqb-false, eq-eqb, ltb-true, ltb-false}
use lib.Dec.{eqb, ltb}
use lib.ListN.{length, get_or, take, drop, length-drop}
use lib.Pow.{shr-shr, shl-shr, shr_le, pow-add, split, mod-pow-add, field, mod-mod-pow}
use lib.Seq.{get_or-take, get_or-drop}
use Rattle.octets.specs.Choice.{both}
use Rattle.octets.specs.Octets.{AllOctets}
use Rattle.octets.specs.Order.{same, all_zero}
use Rattle.octets.proofs.Choice.{both_true, both-true-left, both-true-right, test-same, tested}
use Rattle.octets.proofs.Orders.{same-equal, same-of-equal, octet-alike}
use Rattle.octets.proofs.AllOctets.{octet-at}
use Rattle.groups.specs.Prefixes.{bit_at, same_bits, clear_bits}

-- the tests, bit by bit

last-or-less : (i n : ℕ) → i < suc n → (i ≡ n) ⊎ (i < n)
last-or-less i n h = tested (eqb i n) (λ t. inl (eqb-true _ _ t)) (λ f. let d : i ≡ n → ⊥ = eqb-false _ _ f in inr (omega arith))

same-there : (n : ℕ) (a b : List ℕ) → same_bits n a b ≡ true → (i : ℕ) → i < n → bit_at a i ≡ bit_at b i
unfolding same_bits
same-there zero a b h i low = absurd (omega arith)
same-there (suc n) a b h i low =
    ⊎_elim (λ e. ap (bit_at a) e ∙ eqb-true _ _ (both-true-right _ _ h) ∙ ap (bit_at b) (sym e)) (same-there n a b (both-true-left _ _ h) i) (last-or-less i n low)

same_back : (n : ℕ) (a b : List ℕ) → ((i : ℕ) → i < n → bit_at a i ≡ bit_at b i) → same_bits n a b ≡ true
unfolding same_bits
same_back zero a b h = refl
same_back (suc n) a b h = both_true _ _ (same_back n a b (λ i low. h i (omega arith))) (eq-eqb _ _ (h n (omega arith)))

pub same_bits_lem : (n : ℕ) (a b : List ℕ) → (same_bits n a b ≡ true) ↔ ((i : ℕ) → i < n → bit_at a i ≡ bit_at b i)
same_bits_lem n a b = (same-there n a b, same_back n a b)

clear-there : (n at : ℕ) (s : List ℕ) → clear_bits n at s ≡ true → (i : ℕ) → at ≤ i → i < at + n → bit_at s i ≡ 0
unfolding clear_bits
clear-there zero at s h i low high = absurd (omega arith)
clear-there (suc n) at s h i low high =
    let less : i < suc (at + n) = omega arith in
    ⊎_elim (λ e. ap (bit_at s) e ∙ eqb-true _ _ (both-true-right _ _ h)) (clear-there n at s (both-true-left _ _ h) i low) (last-or-less i (at + n) less)

clear-back : (n at : ℕ) (s : List ℕ) → ((i : ℕ) → at ≤ i → i < at + n → bit_at s i ≡ 0) → clear_bits n at s ≡ true
unfolding clear_bits
clear-back zero at s h = refl
clear-back (suc n) at s h = both_true _ _ (clear-back n at s (λ i low high. h i low (omega arith))) (eq-eqb _ _ (h (at + n) (omega arith) (omega arith)))

pub clear-bits : (n at : ℕ) (s : List ℕ) → (clear_bits n at s ≡ true) ↔ ((i : ℕ) → at ≤ i → i < at + n → bit_at s i ≡ 0)
clear-bits n at s = (clear-there n at s, clear-back n at s)

-- a bit of an octet
pub bit-of : (s : List ℕ) (j i : ℕ) → i < 8 → bit_at s (8 * j + i) ≡ (get_or s j 0 / 2 ^ (7 - i)) % 2
unfolding bit_at
bit-of s j i h =
    let d : (8 * j + i) / 8 ≡ j = omega arith in
    let m : (8 * j + i) % 8 ≡ i = omega arith in
    ap₂ (λ (q r : ℕ). (get_or s q 0 / 2 ^ (7 - r)) % 2) d m

bit_in : (s : List ℕ) (i : ℕ) → bit_at s i ≡ (get_or s (i / 8) 0 / 2 ^ (7 - i % 8)) % 2
unfolding bit_at
bit_in s i = refl

-- the first bits of two octets

octet-high : (k : ℕ) → k ≤ 8 → (x y : ℕ) → x < 256 → y < 256 → ((i : ℕ) → i < k → (x / 2 ^ (7 - i)) % 2 ≡ (y / 2 ^ (7 - i)) % 2) → x / 2 ^ (8 - k) ≡ y / 2 ^ (8 - k)
octet-high zero h x y lx ly e = let p : x / 256 ≡ 0 = omega arith in let q : y / 256 ≡ 0 = omega arith in p ∙ sym q
octet-high (suc k) h x y lx ly e =
    let high = octet-high k (omega arith) x y lx ly (λ i l. e i (omega arith)) in
    let sum : 7 - k + 1 ≡ 8 - k = omega arith in
    let here : 8 - suc k ≡ 7 - k = omega arith in
    let u : x / 2 ^ (7 - k) / 2 ≡ x / 2 ^ (8 - k) = shr-shr x (7 - k) 1 ∙ ap (λ (n : ℕ). x / 2 ^ n) sum in
    let v : y / 2 ^ (7 - k) / 2 ≡ y / 2 ^ (8 - k) = shr-shr y (7 - k) 1 ∙ ap (λ (n : ℕ). y / 2 ^ n) sum in
    let bit = e k (omega arith) in
    let all : x / 2 ^ (7 - k) ≡ y / 2 ^ (7 - k) = omega (arith, u, v, high, bit) in
    ap (λ (n : ℕ). x / 2 ^ n) here ∙ all ∙ ap (λ (n : ℕ). y / 2 ^ n) (sym here)

octet-low : (k : ℕ) → k ≤ 8 → (x y : ℕ) → x / 2 ^ (8 - k) ≡ y / 2 ^ (8 - k) → (i : ℕ) → i < k → (x / 2 ^ (7 - i)) % 2 ≡ (y / 2 ^ (7 - i)) % 2
octet-low k h x y e i l =
    let sum : 8 - k + (k - suc i) ≡ 7 - i = omega arith in
    let u : x / 2 ^ (8 - k) / 2 ^ (k - suc i) ≡ x / 2 ^ (7 - i) = shr-shr x (8 - k) (k - suc i) ∙ ap (λ (n : ℕ). x / 2 ^ n) sum in
    let v : y / 2 ^ (8 - k) / 2 ^ (k - suc i) ≡ y / 2 ^ (7 - i) = shr-shr y (8 - k) (k - suc i) ∙ ap (λ (n : ℕ). y / 2 ^ n) sum in
    ap (λ (n : ℕ). n % 2) (sym u ∙ ap (λ (n : ℕ). n / 2 ^ (k - suc i)) e ∙ v)

-- the last bits of a number are clear

low-there : (m x : ℕ) → x % 2 ^ m ≡ 0 → (j : ℕ) → j < m → (x / 2 ^ j) % 2 ≡ 0
low-there m x e j l =
    let sum : m - suc j + (1 + j) ≡ m = omega arith in
    let whole : x % 2 ^ m % 2 ^ (1 + j) ≡ x % 2 ^ (1 + j) = ap (λ (n : ℕ). x % 2 ^ n % 2 ^ (1 + j)) (sym sum) ∙ mod-mod-pow x (m - suc j) (1 + j) in
    let none : 0 % 2 ^ (1 + j) ≡ 0 = omega (arith, split 0 (1 + j)) in
    let rest : x % 2 ^ (1 + j) ≡ 0 = sym whole ∙ ap (λ (n : ℕ). n % 2 ^ (1 + j)) e ∙ none in
    let nought : 0 / 2 ^ j ≡ 0 = omega (arith, shr_le 0 j) in
    sym (field x 1 j) ∙ ap (λ (n : ℕ). n / 2 ^ j) rest ∙ nought

low-back : (m x : ℕ) → ((j : ℕ) → j < m → (x / 2 ^ j) % 2 ≡ 0) → x % 2 ^ m ≡ 0
low-back zero x h = let z : x % 1 ≡ 0 = omega arith in z
low-back (suc m) x h =
    let rest = low-back m x (λ j l. h j (omega arith)) in
    let top = h m (omega arith) in
    let one : suc m ≡ 1 + m = omega arith in
    let nought : 0 * 2 ^ m + 0 ≡ 0 = omega arith in
    ap (λ (n : ℕ). x % 2 ^ n) one ∙ mod-pow-add x 1 m ∙ ap₂ (λ (p q : ℕ). p * 2 ^ m + q) top rest ∙ nought

-- whole octets, and the first bits of the next

take_same : (w : ℕ) (a b : List ℕ) → w ≤ length a → w ≤ length b → ((j : ℕ) → j < w → get_or a j 0 ≡ get_or b j 0) → take w a ≡ take w b
take_same zero a b la lb h = refl
take_same (suc w) a b la lb h =
    let one : w + 1 ≡ suc w = omega arith in
    let next = octet-alike a b w (take_same w a b (omega arith) (omega arith) (λ j l. h j (omega arith))) (omega arith) (omega arith) (h w (omega arith)) in
    ap (λ (n : ℕ). take n a) (sym one) ∙ next ∙ ap (λ (n : ℕ). take n b) one

module _ (n : ℕ) (a b : List ℕ) (oa : AllOctets a) (ob : AllOctets b) (la : n ≤ 8 * length a) (lb : n ≤ 8 * length b) where
  octets-same : ((i : ℕ) → i < n → bit_at a i ≡ bit_at b i) → (j : ℕ) (k : ℕ) → k ≤ 8 → 8 * j + k ≤ n → get_or a j 0 / 2 ^ (8 - k) ≡ get_or b j 0 / 2 ^ (8 - k)
  octets-same h j k low within =
      octet-high k low (get_or a j 0) (get_or b j 0) (octet-at oa j) (octet-at ob j) (λ i l. sym (bit-of a j i (omega arith)) ∙ h (8 * j + i) (omega arith) ∙ bit-of b j i (omega arith))

  pub bits-octets : same_bits n a b ≡ both (same (take (n / 8) a) (take (n / 8) b)) (eqb (get_or a (n / 8) 0 / 2 ^ (8 - n % 8)) (get_or b (n / 8) 0 / 2 ^ (8 - n % 8)))
  bits-octets = test-same _ _ there back
    where
      there : same_bits n a b ≡ true → both (same (take (n / 8) a) (take (n / 8) b)) (eqb (get_or a (n / 8) 0 / 2 ^ (8 - n % 8)) (get_or b (n / 8) 0 / 2 ^ (8 - n % 8))) ≡ true
      there t =
          let h = same-there n a b t in
          both_true _ _ (same-of-equal _ _ (take_same (n / 8) a b (omega arith) (omega arith) (λ j l. let e : get_or a j 0 / 1 ≡ get_or b j 0 / 1 = octets-same h j 8 (omega arith) (omega arith) in omega (arith, e))))
          (eq-eqb _ _ (octets-same h (n / 8) (n % 8) (omega arith) (omega arith)))

      back : both (same (take (n / 8) a) (take (n / 8) b)) (eqb (get_or a (n / 8) 0 / 2 ^ (8 - n % 8)) (get_or b (n / 8) 0 / 2 ^ (8 - n % 8))) ≡ true → same_bits n a b ≡ true
      back t = same_back n a b (λ i l. bit_in a i ∙ each i l ∙ sym (bit_in b i))
        where
          wholes : take (n / 8) a ≡ take (n / 8) b
          wholes = same-equal _ _ (both-true-left _ _ t)

          each : (i : ℕ) → i < n → (get_or a (i / 8) 0 / 2 ^ (7 - i % 8)) % 2 ≡ (get_or b (i / 8) 0 / 2 ^ (7 - i % 8)) % 2
          each i l =
              tested (ltb (i / 8) (n / 8))
              (λ y.
              let less = ltb-true (i / 8) (n / 8) y in
              let e : get_or a (i / 8) 0 ≡ get_or b (i / 8) 0 = sym (get_or-take (n / 8) a (i / 8) 0 less) ∙ ap (λ (s : List ℕ). get_or s (i / 8) 0) wholes ∙ get_or-take (n / 8) b (i / 8) 0 less in
              ap (λ (x : ℕ). (x / 2 ^ (7 - i % 8)) % 2) e)
              (λ no.
              let at_last = ltb-false (i / 8) (n / 8) no in
              let is : i / 8 ≡ n / 8 = omega arith in
              ap (λ (q : ℕ). (get_or a q 0 / 2 ^ (7 - i % 8)) % 2) is
              ∙ octet-low (n % 8) (omega arith) _ _ (eqb-true _ _ (both-true-right _ _ t)) (i % 8) (omega arith)
              ∙ ap (λ (q : ℕ). (get_or b q 0 / 2 ^ (7 - i % 8)) % 2) (sym is))

-- zeros

zero-there : (s : List ℕ) → all_zero s ≡ true → (j : ℕ) → get_or s j 0 ≡ 0
unfolding all_zero
zero-there [] h j = refl
zero-there (x ∷ s) h zero = eqb-true _ _ (both-true-left _ _ h)
zero-there (x ∷ s) h (suc j) = zero-there s (both-true-right _ _ h) j

zero-back : (s : List ℕ) → ((j : ℕ) → j < length s → get_or s j 0 ≡ 0) → all_zero s ≡ true
unfolding all_zero
zero-back [] h = refl
zero-back (x ∷ s) h = both_true _ _ (eq-eqb _ _ (h 0 (omega arith))) (zero-back s (λ j l. h (suc j) (omega arith)))

pub bits_none : (n : ℕ) (s : List ℕ) → n / 8 ≡ length s → true ≡ clear_bits (8 * length s - n) n s
bits_none n s e = sym (clear-back (8 * length s - n) n s (λ i low high. absurd (omega arith)))

module _ (n : ℕ) (s : List ℕ) (o : AllOctets s) (within : n ≤ 8 * length s) where
  pub bits-clear : (n / 8 ≡ length s → ⊥) → both (eqb (get_or s (n / 8) 0 % 2 ^ (8 - n % 8)) 0) (all_zero (drop (n / 8 + 1) s)) ≡ clear_bits (8 * length s - n) n s
  bits-clear some = test-same _ _ back there
    where
      below : n / 8 < length s
      below = omega arith

      all : 8 * length s - n + n ≡ 8 * length s
      all = omega arith

      there : clear_bits (8 * length s - n) n s ≡ true → both (eqb (get_or s (n / 8) 0 % 2 ^ (8 - n % 8)) 0) (all_zero (drop (n / 8 + 1) s)) ≡ true
      there t =
          let h = clear-there (8 * length s - n) n s t in
          both_true _ _
          (eq-eqb _ _ (low-back (8 - n % 8) (get_or s (n / 8) 0) (λ j l.
          let here : 7 - (7 - j) ≡ j = omega arith in
          ap (λ (m : ℕ). (get_or s (n / 8) 0 / 2 ^ m) % 2) (sym here) ∙ sym (bit-of s (n / 8) (7 - j) (omega arith)) ∙ h (8 * (n / 8) + (7 - j)) (omega arith) (omega arith))))
          (zero-back _ (λ j l.
          let size = length-drop (n / 8 + 1) s in
          let k : ℕ = n / 8 + 1 + j in
          let none : get_or s k 0 % 256 ≡ 0 = low-back 8 (get_or s k 0) (λ m lm.
          let here : 7 - (7 - m) ≡ m = omega arith in
          ap (λ (e : ℕ). (get_or s k 0 / 2 ^ e) % 2) (sym here) ∙ sym (bit-of s k (7 - m) (omega arith)) ∙ h (8 * k + (7 - m)) (omega arith) (omega (arith, l, size, below, all))) in
          get_or-drop (n / 8 + 1) s j 0 ∙ omega (arith, none, octet-at o k)))

      back : both (eqb (get_or s (n / 8) 0 % 2 ^ (8 - n % 8)) 0) (all_zero (drop (n / 8 + 1) s)) ≡ true → clear_bits (8 * length s - n) n s ≡ true
      back t = clear-back (8 * length s - n) n s (λ i low high. bit_in s i ∙ each i low)
        where
          each : (i : ℕ) → n ≤ i → (get_or s (i / 8) 0 / 2 ^ (7 - i % 8)) % 2 ≡ 0
          each i low =
              tested (eqb (i / 8) (n / 8))
              (λ y.
              let is : i / 8 ≡ n / 8 = eqb-true _ _ y in
              ap (λ (q : ℕ). (get_or s q 0 / 2 ^ (7 - i % 8)) % 2) is ∙ low-there (8 - n % 8) (get_or s (n / 8) 0) (eqb-true _ _ (both-true-left _ _ t)) (7 - i % 8) (omega arith))
              (λ no.
              let other : i / 8 ≡ n / 8 → ⊥ = eqb-false _ _ no in
              let sum : n / 8 + 1 + (i / 8 - (n / 8 + 1)) ≡ i / 8 = omega arith in
              let e : get_or s (i / 8) 0 ≡ 0 = ap (λ (q : ℕ). get_or s q 0) (sym sum) ∙ sym (get_or-drop (n / 8 + 1) s (i / 8 - (n / 8 + 1)) 0) ∙ zero-there _ (both-true-right _ _ t) (i / 8 - (n / 8 + 1)) in
              let nought : 0 / 2 ^ (7 - i % 8) ≡ 0 = omega (arith, shr_le 0 (7 - i % 8)) in
              ap (λ (x : ℕ). (x / 2 ^ (7 - i % 8)) % 2) e ∙ ap (λ (x : ℕ). x % 2) nought)

-- what an octet is divided by
pub past_is : (k : ℕ) → k ≤ 8 → 256 / 2 ^ k ≡ 2 ^ (8 - k)
past_is k h =
    let sum : 8 - k + k ≡ 8 = omega arith in
    let all : 256 ≡ 2 ^ (8 - k) * 2 ^ k = ap (λ (n : ℕ). 2 ^ n) (sym sum) ∙ pow-add 2 (8 - k) k in
    ap (λ (n : ℕ). n / 2 ^ k) all ∙ shl-shr (2 ^ (8 - k)) k
