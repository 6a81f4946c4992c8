-- What the tests of Order.antt say of octets. Stated here, proved in proofs/OrderRule.antt.
use Rattle.std.specs.Prelude.{ℕ, ◌<◌, ◌≡◌, true, List, ◌∷◌, ◌++◌, ◌↔◌, length, get_or}
use Rattle.octets.specs.Octets.{AllOctets, number_in}
use Rattle.octets.specs.Order.{same, before, all_zero}

-- a comes before b
pub data ComesBefore (a b : List ℕ) : Type 0 where
  -- a ends where b goes on
  ends : (y : ℕ) (ys : List ℕ) → b ≡ a ++ (y ∷ ys) → ComesBefore a b
  -- behind a common front a has the lower octet
  lower : (front : List ℕ) (x y : ℕ) (xs ys : List ℕ) → a ≡ front ++ (x ∷ xs) → b ≡ front ++ (y ∷ ys) → x < y → ComesBefore a b

-- equality, order and zeros: when each test holds
pub record OrderRule : Type 0 where
  -- the same size and octets
  pub equal : (a b : List ℕ) → (same a b ≡ true) ↔ (a ≡ b)
  -- strictly increasing octet by octet, whatever the sizes
  pub order : (a b : List ℕ) → (before a b ≡ true) ↔ ComesBefore a b
  -- octets of one size, as those of two distinguishers, come in the order of the numbers that they make
  pub numbers : (a b : List ℕ) → AllOctets a → AllOctets b → length a ≡ length b → (before a b ≡ true) ↔ (number_in a 0 < number_in b 0)
  -- each octet is 0
  pub zeros : (s : List ℕ) → (all_zero s ≡ true) ↔ ((i : ℕ) → get_or s i 0 ≡ 0)
