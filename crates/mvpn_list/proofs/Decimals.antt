-- Numbers in decimal: the digits that are printed of a number are the definition's, and how many a number has at most.
use mathlib.Core.Path.{◌≡◌, sym, ◌∙◌, ap}
use mathlib.Core.List.{List, [], ◌∷◌, ◌++◌}
use Prim.Native.Nat.{ℕ, zero, suc, ◌+◌, ◌/◌, ◌%◌, ◌^◌, ◌≤◌, ◌<◌}
use native.Mathlib.Nat.{pow-succ'}
use native.Mathlib.Omega.{arith}
use borrow.Author.Tests.{ltb-false, lt-ltb, le-ltb}
use lib.ListN.{length, length-append}
use lib.Dec.{ltb}
use Rattle.std.specs.Fmt.{decimal}
use Rattle.std.proofs.lemmas.Fmt.{decimal_by_steps}
use Rattle.octets.proofs.Choice.{tested, pick-case, pick_true, pick-false}
use Rattle.mvpn_list.specs.Listing.{last_digit, digits_within, decimal_of}

-- more digits than a number has make no difference
digits-same : (a b n : ℕ) → n < a → n < b → digits_within a n ≡ digits_within b n
unfolding digits_within
digits-same zero b n h k = absurd (omega arith)
digits-same (suc a) zero n h k = absurd (omega arith)
digits-same (suc a) (suc b) n h k =
    tested (ltb n 10) (λ t. pick_true _ _ _ t ∙ sym (pick_true _ _ _ t))
    (λ f.
    let many : 10 ≤ n = ltb-false _ _ f in
    pick-false _ _ _ f ∙ ap (λ (x : List ℕ). x ++ (last_digit n ∷ [])) (digits-same a b (n / 10) (omega arith) (omega arith)) ∙ sym (pick-false _ _ _ f))

one-digit : (n : ℕ) → n < 10 → (48 + n) ∷ [] ≡ decimal_of n
unfolding decimal_of digits_within last_digit
one-digit n h = let same : n ≡ n % 10 = omega arith in ap (λ (d : ℕ). (48 + d) ∷ []) same ∙ sym (pick_true _ _ _ (lt-ltb n 10 h))

more-digits : (n : ℕ) (ds : List ℕ) → 10 ≤ n → ds ≡ decimal_of (n / 10) → ds ++ ((48 + n % 10) ∷ []) ≡ decimal_of n
unfolding decimal_of digits_within last_digit
more-digits n ds h e =
    ap (λ (x : List ℕ). x ++ ((48 + n % 10) ∷ [])) (e ∙ digits-same (suc (n / 10)) n (n / 10) (omega arith) (omega arith)) ∙ sym (pick-false _ _ _ (le-ltb n 10 h))

pub decimal-is : (n : ℕ) → n < 2 ^ 64 → decimal n ≡ decimal_of n
decimal-is = decimal_by_steps (λ n ds. ds ≡ decimal_of n) one-digit more-digits

length-digits_within : (k n most : ℕ) → n < 10 ^ suc k → length (digits_within most n) ≤ suc k
unfolding digits_within
length-digits_within k n zero h = omega arith
length-digits_within zero n (suc most) h = pick-case (λ (x : List ℕ). length x ≤ 1) (ltb n 10) _ _ (λ t. omega arith) (λ t. absurd (omega (arith, ltb-false n 10 t)))
length-digits_within (suc i) n (suc most) h =
    let q = pow-succ' 10 (suc i) in
    let later : length (digits_within most (n / 10)) ≤ suc i = length-digits_within i (n / 10) most (omega arith) in
    pick-case (λ (x : List ℕ). length x ≤ suc (suc i)) (ltb n 10) _ _ (λ t. omega arith) (λ t. simp length-append (omega arith))

-- a number below ten to the power of k has at most k digits
pub length-decimal_of : (k n : ℕ) → n < 10 ^ suc k → length (decimal_of n) ≤ suc k
unfolding decimal_of
length-decimal_of k n h = length-digits_within k n (suc n) h
