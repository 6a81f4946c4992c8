-- The digits printed of a number are the only ones that are it in decimal without padding.
use mathlib.Core.Path.{◌≡◌, refl, sym, ◌∙◌, ap₂}
use mathlib.Core.List.{List, [], ◌∷◌, ◌++◌}
use mathlib.Core.Logic.{◌≢◌}
use Prim.Native.Nat.{ℕ, zero, suc, ◌+◌, ◌-◌, ◌*◌, ◌/◌, ◌%◌, ◌≤◌, ◌<◌}
use native.Mathlib.Omega.{arith}
use borrow.Author.Tests.{ltb-true, ltb-false, leb-true, leb-false, eqb-true, eqb-false}
use lib.ListN.{length, get_or, length-append, get_or-append}
use lib.Dec.{ltb, leb, eqb}
use Rattle.octets.specs.Choice.{pick}
use Rattle.octets.proofs.Choice.{tested, pick-case}
use Rattle.mvpn_list.specs.Listing.{last_digit, digits_within, decimal_of}
use Rattle.mvpn_list.specs.Rules.ListingRule.{decimal_value, AllDigits, none, one, Decimal}

decimal_value-append : (digits : List ℕ) (digit high : ℕ) → decimal_value (digits ++ (digit ∷ [])) high ≡ decimal_value digits high * 10 + (digit - 48)
unfolding decimal_value
decimal_value-append [] digit high = refl
decimal_value-append (x ∷ digits) digit high = decimal_value-append digits digit (high * 10 + (x - 48))

decimal_value-digits_within : (most n : ℕ) → n < most → decimal_value (digits_within most n) 0 ≡ n
unfolding digits_within last_digit decimal_value
decimal_value-digits_within zero n h = absurd (omega arith)
decimal_value-digits_within (suc most) n h =
    pick-case (λ (x : List ℕ). decimal_value x 0 ≡ n) (ltb n 10) _ _ (λ t. omega (arith, ltb-true n 10 t))
    (λ t. let high = decimal_value-digits_within most (n / 10) (omega (arith, ltb-false n 10 t)) in decimal_value-append (digits_within most (n / 10)) (48 + n % 10) 0 ∙ omega arith)

all_digits-append : {s t : List ℕ} → AllDigits s → AllDigits t → AllDigits (s ++ t)
all_digits-append none q = q
all_digits-append (one low high p) q = one low high (all_digits-append p q)

all_digits-last_digit : (n : ℕ) → AllDigits (last_digit n ∷ [])
unfolding last_digit
all_digits-last_digit n = one {x = 48 + n % 10} (omega arith) (omega arith) none

all_digits-digits_within : (most n : ℕ) → AllDigits (digits_within most n)
unfolding digits_within
all_digits-digits_within zero n = none
all_digits-digits_within (suc most) n =
    pick-case AllDigits (ltb n 10) _ _ (λ _. all_digits-last_digit n) (λ _. all_digits-append (all_digits-digits_within most (n / 10)) (all_digits-last_digit n))

some-digits_within : (most n : ℕ) → 1 ≤ length (digits_within (suc most) n)
unfolding digits_within
some-digits_within most n = pick-case (λ (x : List ℕ). 1 ≤ length x) (ltb n 10) _ _ (λ _. omega arith) (λ _. simp length-append (omega arith))

-- the first digit of a number other than 0 is not 0
get_or-digits_within : (most n : ℕ) → 0 < n → n < most → get_or (digits_within most n) 0 0 ≢ 48
unfolding digits_within last_digit
get_or-digits_within zero n some h = absurd (omega arith)
get_or-digits_within (suc zero) n some h = absurd (omega arith)
get_or-digits_within (suc (suc most)) n some h =
    pick-case (λ (x : List ℕ). get_or x 0 0 ≢ 48) (ltb n 10) _ _ (λ t e. omega (arith, ltb-true n 10 t))
    (λ t e.
    let many = ltb-false n 10 t in
    let inside = get_or-append (digits_within (suc most) (n / 10)) ((48 + n % 10) ∷ []) 0 0 (omega (arith, some-digits_within most (n / 10))) in
    get_or-digits_within (suc most) (n / 10) (omega arith) (omega arith) (sym inside ∙ e))

get_or-decimal_of : (n : ℕ) → 1 < length (decimal_of n) → get_or (decimal_of n) 0 0 ≢ 48
unfolding decimal_of digits_within pick
get_or-decimal_of zero many = absurd (omega arith)
get_or-decimal_of (suc n) many = get_or-digits_within (suc (suc n)) (suc n) (omega arith) (omega arith)

pub decimal-decimal_of : (n : ℕ) → Decimal n (decimal_of n)
unfolding decimal_of
decimal-decimal_of n =
    record {
      each = all_digits-digits_within (suc n) n;
      value = decimal_value-digits_within (suc n) n (omega arith);
      some = some-digits_within n n;
      unpadded = get_or-decimal_of n;
    }

-- of as many digits, those behind a lower number stand for a lower one
decimal_value-less : {s t : List ℕ} → AllDigits s → AllDigits t → length s ≡ length t → (low high : ℕ) → low < high → decimal_value s low < decimal_value t high
unfolding decimal_value
decimal_value-less none none e low high h = h
decimal_value-less none (one a b q) e low high h = absurd (omega arith)
decimal_value-less (one a b p) none e low high h = absurd (omega arith)
decimal_value-less (one a b p) (one c d q) e low high h = decimal_value-less p q (omega arith) _ _ (omega arith)

-- and digits behind nothing for less than as many or more behind a number other than 0
decimal_value-fewer : {s t : List ℕ} → AllDigits s → AllDigits t → length s ≤ length t → (high : ℕ) → 0 < high → decimal_value s 0 < decimal_value t high
unfolding decimal_value
decimal_value-fewer p none few high h = decimal_value-less p none (omega arith) 0 high h
decimal_value-fewer {s = s} p (one {x = y} {xs = t} a b q) few high h =
    tested (leb (length s) (length t)) (λ e. decimal_value-fewer p q (leb-true _ _ e) (high * 10 + (y - 48)) (omega arith))
    (λ e. decimal_value-less p (one a b q) (omega (arith, leb-false (length s) (length t) e)) 0 high h)

-- as many digits that stand for the same number are the same
decimal_value-same : {s t : List ℕ} → AllDigits s → AllDigits t → length s ≡ length t → (low high : ℕ) → decimal_value s low ≡ decimal_value t high → (low ≡ high) × (s ≡ t)
unfolding decimal_value
decimal_value-same none none e low high v = (v, refl)
decimal_value-same none (one a b q) e low high v = absurd (omega arith)
decimal_value-same (one a b p) none e low high v = absurd (omega arith)
decimal_value-same (one {x = x} {xs = s} a b p) (one {x = y} {xs = t} c d q) e low high v =
    let later = decimal_value-same p q (omega arith) _ _ v in
    let first : x ≡ y = omega arith in
    (omega arith, ap₂ (λ (z : ℕ) (zs : List ℕ). z ∷ zs) first later.1)

-- digits stand for less than more digits of which the first is not 0
decimal_value-longer : {s : List ℕ} {y : ℕ} {t : List ℕ} → AllDigits s → AllDigits (y ∷ t) → length s ≤ length t → y ≢ 48 → decimal_value s 0 < decimal_value (y ∷ t) 0
unfolding decimal_value
decimal_value-longer {y = y} p (one low high q) few first =
    let some : 0 < 0 * 10 + (y - 48) = tested (eqb y 48) (λ e. absurd (first (eqb-true _ _ e))) (λ e. omega (arith, eqb-false y 48 e)) in
    decimal_value-fewer p q few (0 * 10 + (y - 48)) some

-- of two decimals of a number neither has fewer digits
decimal-fewer : {n : ℕ} {s t : List ℕ} → Decimal n s → Decimal n t → length s < length t → ⊥
decimal-fewer {s = s} {t = []} p q h = omega arith
decimal-fewer {s = s} {t = y ∷ t} p q h =
    let less = decimal_value-longer p.each q.each (omega arith) (q.unpadded (omega (arith, p.some))) in
    omega (arith, p.value, q.value)

pub decimal-only : {n : ℕ} {s t : List ℕ} → Decimal n s → Decimal n t → s ≡ t
decimal-only {s = s} {t = t} p q =
    tested (ltb (length s) (length t)) (λ e. absurd (decimal-fewer p q (ltb-true _ _ e)))
    (λ e. tested (ltb (length t) (length s)) (λ d. absurd (decimal-fewer q p (ltb-true _ _ d)))
    (λ d. (decimal_value-same p.each q.each (omega (arith, ltb-false (length s) (length t) e, ltb-false (length t) (length s) d)) 0 0 (p.value ∙ sym q.value)).1))
