-- Lists of octets, and numbers in them.
use Rattle.std.specs.Prelude.{ℕ, zero, suc, ◌+◌, ◌*◌, ◌/◌, ◌%◌, ◌<◌, List, [], ◌∷◌, ◌++◌, length, take, drop, replicate}

-- every element is an octet
pub data AllOctets : List ℕ → Type 0 where
  none : AllOctets []
  one : {x : ℕ} {xs : List ℕ} → x < 256 → AllOctets xs → AllOctets (x ∷ xs)

-- `size` elements from `start` on
unfoldable pub part : List ℕ → ℕ → ℕ → List ℕ
part s start size = take size (drop start s)

-- d with e in place of what stood there from `at` on
unfoldable pub placed : ℕ → List ℕ → List ℕ → List ℕ
placed at e d = take at d ++ (e ++ drop (at + length e) d)

-- d with e at its front
unfoldable pub front : List ℕ → List ℕ → List ℕ
front e d = e ++ drop (length e) d

-- the first n of xs, with zeros where xs has no more
unfoldable pub sized : ℕ → List ℕ → List ℕ
sized n xs = take n (xs ++ replicate n 0)

-- the number that octets stand for, the most significant first
unfoldable pub number_in : List ℕ → ℕ → ℕ
number_in [] high = high
number_in (x ∷ xs) high = number_in xs (high * 256 + x)

-- the number that octets stand for, the least significant first
unfoldable pub low_first : List ℕ → ℕ
low_first [] = 0
low_first (x ∷ xs) = x + 256 * low_first xs

-- the last n octets of a number, the most significant first
unfoldable pub big_endian : ℕ → ℕ → List ℕ
big_endian zero x = []
big_endian (suc n) x = big_endian n (x / 256) ++ (x % 256 ∷ [])
