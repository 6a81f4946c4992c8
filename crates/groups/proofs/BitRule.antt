-- The bits of octets (specs/Rules/BitRule.antt).
use Prim.Native.Nat.{ℕ, ◌+◌, ◌*◌, ◌/◌, ◌%◌, ◌^◌, ◌≤◌, ◌<◌}
use mathlib.Core.Path.{◌≡◌, sym, ◌∙◌, ap}
use mathlib.Core.List.{List}
use native.Mathlib.Omega.{arith}
use lib.ListN.{get_or}
use lib.Pow.{shr-shr}
use Rattle.octets.specs.Octets.{AllOctets}
use Rattle.octets.proofs.AllOctets.{octet-at}
use Rattle.groups.specs.Prefixes.{bit_at}
use Rattle.groups.specs.Rules.BitRule.{BitRule}
use Rattle.groups.proofs.Bits.{bit-of}

bit-most : (s : List ℕ) (i : ℕ) → bit_at s i ≤ 1
unfolding bit_at
bit-most s i = omega arith

-- a number halved eight times
halved : (x i : ℕ) → x / 2 ^ i ≡ 2 * (x / 2 ^ (i + 1)) + x / 2 ^ i % 2
halved x i = let next : x / 2 ^ i / 2 ≡ x / 2 ^ (i + 1) = shr-shr x i 1 in omega arith

module _ (x₀ x₁ x₂ x₃ x₄ x₅ x₆ x₇ b₀ b₁ b₂ b₃ b₄ b₅ b₆ b₇ : ℕ) where
  summed : x₀ ≡ 2 * x₁ + b₀ → x₁ ≡ 2 * x₂ + b₁ → x₂ ≡ 2 * x₃ + b₂ → x₃ ≡ 2 * x₄ + b₃ → x₄ ≡ 2 * x₅ + b₄ → x₅ ≡ 2 * x₆ + b₅ → x₆ ≡ 2 * x₇ + b₆ → x₇ ≡ 2 * 0 + b₇
      → x₀ ≡ 128 * b₇ + 64 * b₆ + 32 * b₅ + 16 * b₄ + 8 * b₃ + 4 * b₂ + 2 * b₁ + b₀
  summed e₀ e₁ e₂ e₃ e₄ e₅ e₆ e₇ = omega arith

made_of : (x : ℕ) → x < 256 → x ≡ 128 * (x / 128 % 2) + 64 * (x / 64 % 2) + 32 * (x / 32 % 2) + 16 * (x / 16 % 2) + 8 * (x / 8 % 2) + 4 * (x / 4 % 2) + 2 * (x / 2 % 2) + x / 1 % 2
made_of x h =
    let whole : x ≡ x / 1 = omega arith in
    let none : x / 256 ≡ 0 = omega arith in
    summed x (x / 2) (x / 4) (x / 8) (x / 16) (x / 32) (x / 64) (x / 128) _ _ _ _ _ _ _ _
    (whole ∙ halved x 0) (halved x 1) (halved x 2) (halved x 3) (halved x 4) (halved x 5) (halved x 6) (halved x 7 ∙ ap (λ (n : ℕ). 2 * n + x / 128 % 2) none)

octet-is : (s : List ℕ) (k : ℕ) → AllOctets s
    → get_or s k 0
    ≡ 128 * bit_at s (8 * k) + 64 * bit_at s (8 * k + 1) + 32 * bit_at s (8 * k + 2) + 16 * bit_at s (8 * k + 3)
    + 8 * bit_at s (8 * k + 4) + 4 * bit_at s (8 * k + 5) + 2 * bit_at s (8 * k + 6) + bit_at s (8 * k + 7)
octet-is s k a =
    let first : bit_at s (8 * k) ≡ get_or s k 0 / 128 % 2 = let none : 8 * k ≡ 8 * k + 0 = omega arith in ap (bit_at s) none ∙ bit-of s k 0 (omega arith) in
    made_of (get_or s k 0) (octet-at a k)
    ∙ sym (rw (first, bit-of s k 1 (omega arith), bit-of s k 2 (omega arith), bit-of s k 3 (omega arith), bit-of s k 4 (omega arith), bit-of s k 5 (omega arith), bit-of s k 6 (omega arith), bit-of s k 7 (omega arith)))

pub bit_rule : BitRule
bit_rule = record { bit = bit-most; octet = octet-is }
