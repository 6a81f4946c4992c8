-- Laws of `low_first`: numbers with the least significant octet first.
use Prim.Native.Nat.{ℕ, suc, ◌+◌, ◌*◌, ◌^◌, ◌<◌, ◌≤◌}
use mathlib.Core.Path.{◌≡◌, refl, sym, ap, ap₂, ◌∙◌}
use mathlib.Core.List.{List, [], ◌∷◌, ◌++◌}
use native.Mathlib.Nat.{pow-suc}
use native.Mathlib.Numerals.{add-one}
use native.Mathlib.Omega.{arith}
use lib.Dec.{eqb}
use lib.ListN.{length, get_or}
use lib.Seq.{drop-cons}
use borrow.Author.Tests.{eqb-true, eq-eqb}
use Rattle.octets.specs.Choice.{both}
use Rattle.octets.specs.Octets.{AllOctets, none, one, part, number_in, low_first}
use Rattle.octets.specs.Order.{all_zero}
use Rattle.octets.proofs.Choice.{test-same, both_true, both-held}
use Rattle.octets.proofs.AllOctets.{octet-at, octets-part}
use Rattle.octets.proofs.Lists.{length_part, part_then}
use Rattle.octets.proofs.NetworkOrder.{number-two}

-- the first octet of a part, and the others
pub low_part : (s : List ℕ) (at n : ℕ) → at < length s → low_first (part s at (suc n)) ≡ get_or s at 0 + 256 * low_first (part s (at + 1) n)
unfolding part low_first
low_part s at n h = rw (drop-cons s at 0, add-one)

pub low-two : (s : List ℕ) (at : ℕ) → at + 2 ≤ length s → get_or s at 0 + get_or s (at + 1) 0 * 256 ≡ low_first (part s at 2)
unfolding part low_first
low-two s at h =
    let d : low_first (part s (at + 1) 1) ≡ get_or s (at + 1) 0 + 256 * 0 = low_part s (at + 1) 0 (omega arith) in
    omega (arith, low_part s at 1 (omega arith), d)

low-append : (xs ys : List ℕ) → low_first (xs ++ ys) ≡ low_first xs + 256 ^ length xs * low_first ys
unfolding low_first
low-append [] ys = omega arith
low-append (x ∷ xs) ys = rw (low-append xs ys, pow-suc 256 (length xs)) (omega arith)

-- the number in a part, and in the part straight after it
pub low-then : (s : List ℕ) (at m n : ℕ) → at + m + n ≤ length s → low_first (part s at m) + low_first (part s (at + m) n) * 256 ^ m ≡ low_first (part s at (m + n))
low-then s at m n h =
    let l : length (part s at m) ≡ m = length_part s at m (omega arith) in
    sym (rw (part_then s at m n, low-append (part s at m) (part s (at + m) n), l) (omega arith))

-- octets are told by their number
low_told : {xs ys : List ℕ} → AllOctets xs → AllOctets ys → length xs ≡ length ys → low_first xs ≡ low_first ys → xs ≡ ys
unfolding low_first
low_told none none l e = refl
low_told none (one p a) l e = absurd (omega arith)
low_told (one p a) none l e = absurd (omega arith)
low_told (one {x} {xs} p a) (one {x = y} {xs = ys} q b) l e =
    ap₂ (λ (o : ℕ) (os : List ℕ). o ∷ os) (omega arith) (low_told a b (omega arith) (omega arith))

pub same_low : {a b : List ℕ} → AllOctets a → AllOctets b → (at n : ℕ) → at + n ≤ length a → at + n ≤ length b → low_first (part a at n) ≡ low_first (part b at n) → part a at n ≡ part b at n
same_low {a} {b} p q at n h k e = low_told (octets-part at n p) (octets-part at n q) (length_part a at n h ∙ sym (length_part b at n k)) e

-- the number is 0 where every octet is
sum-zero : (x y : ℕ) → eqb (x + 256 * y) 0 ≡ both (eqb x 0) (eqb y 0)
sum-zero x y =
    test-same _ _ (λ t. let e = eqb-true (x + 256 * y) 0 t in both_true _ _ (eq-eqb x 0 (omega arith)) (eq-eqb y 0 (omega arith)))
    (λ t. let p = both-held _ _ t in eq-eqb (x + 256 * y) 0 (omega (arith, eqb-true x 0 p.0, eqb-true y 0 p.1)))

pub low-zero : (xs : List ℕ) → eqb (low_first xs) 0 ≡ all_zero xs
unfolding low_first all_zero
low-zero [] = refl
low-zero (x ∷ xs) = sum-zero x (low_first xs) ∙ ap (both (eqb x 0)) (low-zero xs)

-- two octets are a number below 256 exactly when the first is 0
pub low-number : {s : List ℕ} → AllOctets s → (at m : ℕ) → at + 2 ≤ length s → m < 256 → eqb (low_first (part s at 2)) (m * 256) ≡ eqb (number_in (part s at 2) 0) m
low-number {s} a at m h k =
    let x = octet-at a at in
    let y = octet-at a (at + 1) in
    let low = low-two s at h in
    let high = number-two s at h in
    test-same _ _ (λ t. let e = eqb-true (low_first (part s at 2)) (m * 256) t in eq-eqb (number_in (part s at 2) 0) m (omega arith))
    (λ t. let e = eqb-true (number_in (part s at 2) 0) m t in eq-eqb (low_first (part s at 2)) (m * 256) (omega arith))
