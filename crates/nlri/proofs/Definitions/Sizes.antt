-- Bounds on the sizes that fields come to.
use Rattle.std.proofs.Common.{◌≡◌, ℕ, ◌+◌, ◌-◌, ◌/◌, ◌≤◌, true, List, length, get_or, sym, ap, ◌∙◌, ap₂, arith, ltb-false, le-ltb, leb-false}
use Rattle.octets.specs.Outcome.{given}
use Rattle.octets.proofs.Choice.{pick-false}
use Rattle.octets.proofs.Outcome.{given-otherwise, given-unless, given-same}
use Rattle.nlri.specs.Family.{allowed, is_originator_size}
use Rattle.nlri.specs.Reading.{fixed_field, address_end, address_field, originator_field}
use Rattle.nlri.specs.Inner.{header_at}

pub fixed-is : (n m : ℕ) (s : List ℕ) → fixed_field n s ≡ given m → (n ≡ m) × (n ≤ length s)
unfolding fixed_field
fixed-is n m s e = let p = given-otherwise _ _ _ _ e in (given-same p.1, omega (arith, ltb-false))

-- an address takes its length octet, which is allowed, and as many bits as that says
pub address_is : (bits type : ℕ) (s : List ℕ) (n : ℕ) → address_field bits type s ≡ given n → (n ≡ 1 + get_or s 0 0 / 8) × (n ≤ length s) × (allowed bits type (get_or s 0 0) ≡ true)
unfolding address_field address_end
address_is bits type s n e =
    let p = given-unless _ _ _ _ (given-otherwise _ _ _ _ e).1 in
    let q = given-otherwise _ _ _ _ p.1 in
    let size : 1 + get_or s 0 0 / 8 ≡ n = given-same q.1 in
    (sym size, omega (arith, leb-false), p.0)

pub originator-given : (n : ℕ) (s : List ℕ) → originator_field s ≡ given n → (is_originator_size (length s) ≡ true) × (n ≡ length s)
unfolding originator_field
originator-given n s e = let p = given-unless _ _ _ _ e in (p.0, sym (given-same p.1))

pub header-within : (s : List ℕ) (a b : ℕ) → header_at s ≡ given (a, b) → 2 + b ≤ length s
unfolding header_at
header-within s a b e =
    let p = given-otherwise _ _ _ _ e in
    let q = given-otherwise _ _ _ _ p.1 in
    let same = given-same q.1 in
    let eb : get_or s 1 0 ≡ b = ap (λ (x : ℕ × ℕ). x.1) same in
    omega (arith, ltb-false)

pub header-stands : (s : List ℕ) (a b : ℕ) → get_or s 0 0 ≡ a → get_or s 1 0 ≡ b → 2 + b ≤ length s → header_at s ≡ given (a, b)
unfolding header_at
header-stands s a b p q h =
    pick-false _ _ _ (le-ltb (length s) 2 (omega arith)) ∙ pick-false _ _ _ (le-ltb (length s - 2) (get_or s 1 0) (omega arith)) ∙ ap₂ (λ (x y : ℕ). given (x, y)) p q
