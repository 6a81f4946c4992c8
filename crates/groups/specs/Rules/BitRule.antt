-- What the bits of octets are, by which prefixes and groups are compared. Proved in proofs/BitRule.antt.
use Rattle.std.specs.Prelude.{ℕ, ◌+◌, ◌*◌, ◌≤◌, ◌≡◌, List, get_or}
use Rattle.octets.specs.Octets.{AllOctets}
use Rattle.groups.specs.Prefixes.{bit_at}

-- eight bits for each octet, the most significant first; past the last octet every bit is 0. No other bits are so
pub record BitRule : Type 0 where
  -- a bit is 0 or 1
  pub bit : (s : List ℕ) (i : ℕ) → bit_at s i ≤ 1
  -- an octet is made of its eight bits
  pub octet : (s : List ℕ) (k : ℕ) → AllOctets s
      → get_or s k 0
      ≡ 128 * bit_at s (8 * k) + 64 * bit_at s (8 * k + 1) + 32 * bit_at s (8 * k + 2) + 16 * bit_at s (8 * k + 3)
      + 8 * bit_at s (8 * k + 4) + 4 * bit_at s (8 * k + 5) + 2 * bit_at s (8 * k + 6) + bit_at s (8 * k + 7)
