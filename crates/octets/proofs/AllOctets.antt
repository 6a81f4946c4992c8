-- Laws of `AllOctets`.
use Prim.Native.Nat.{ℕ, zero, suc, ◌+◌, ◌*◌, ◌^◌, ◌<◌}
use mathlib.Core.List.{List, [], ◌∷◌, ◌++◌}
use native.Mathlib.Nat.{pow-suc}
use native.Mathlib.Omega.{arith}
use lib.ListN.{length, get_or, take, drop, replicate}
use Rattle.octets.specs.Octets.{AllOctets, none, one, part, sized, number_in}

pub octet-at : {xs : List ℕ} → AllOctets xs → (i : ℕ) → get_or xs i 0 < 256
octet-at none i = omega arith
octet-at (one h a) zero = h
octet-at (one h a) (suc i) = octet-at a i

pub octets-take : {xs : List ℕ} (n : ℕ) → AllOctets xs → AllOctets (take n xs)
octets-take zero a = none
octets-take (suc n) none = none
octets-take (suc n) (one h a) = one h (octets-take n a)

pub octets-drop : {xs : List ℕ} (n : ℕ) → AllOctets xs → AllOctets (drop n xs)
octets-drop zero a = a
octets-drop (suc n) none = none
octets-drop (suc n) (one h a) = octets-drop n a

pub octets-part : (start size : ℕ) {s : List ℕ} → AllOctets s → AllOctets (part s start size)
unfolding part
octets-part start size a = octets-take size (octets-drop start a)

-- what a slice tells of each element, of all
pub octets-of : (s : List ℕ) → ((i : ℕ) → get_or s i 0 < 256) → AllOctets s
octets-of [] h = none
octets-of (x ∷ xs) h = one (h 0) (octets-of xs (λ i. h (suc i)))

pub octets-append : {xs ys : List ℕ} → AllOctets xs → AllOctets ys → AllOctets (xs ++ ys)
octets-append none b = b
octets-append (one h a) b = one h (octets-append a b)

pub octets-zeros : (n : ℕ) → AllOctets (replicate n 0)
octets-zeros zero = none
octets-zeros (suc n) = let h : 0 < 256 = omega arith in one h (octets-zeros n)

pub octets-sized : (n : ℕ) {xs : List ℕ} → AllOctets xs → AllOctets (sized n xs)
unfolding sized
octets-sized n a = octets-take n (octets-append a (octets-zeros n))

pub number-below : {xs : List ℕ} → AllOctets xs → (high m : ℕ) → high < m → number_in xs high < m * 256 ^ length xs
unfolding number_in
number-below none high m h = omega arith
number-below (one {x} {xs} k a) high m h = rw (pow-suc 256 (length xs)) (omega (arith, number-below a (high * 256 + x) (m * 256) (omega arith)))

-- the number in n octets is below 256 to the n
pub number_fits : {xs : List ℕ} → AllOctets xs → number_in xs 0 < 256 ^ length xs
number_fits a = omega (arith, number-below a 0 1 (omega arith))
