-- Numbers in network order: reading undoes writing, and writing undoes reading, at every width; the number in a part, by its parts.
use Prim.Native.Nat.{ℕ, zero, suc, ◌+◌, ◌*◌, ◌/◌, ◌%◌, ◌^◌, ◌≤◌, ◌<◌}
use mathlib.Core.Path.{◌≡◌, refl, sym, ap, ◌∙◌}
use mathlib.Core.List.{List, [], ◌∷◌, ◌++◌, append_assoc, append-nil}
use native.Mathlib.Nat.{mod-lt, div-add-mod', div-lt_iff_lt-mul, pow-suc, mul-add-div_right, mul-add-mod_self_right, mod-eq_of_lt, div-eq_of_lt, add-zero, zero-add}
use native.Mathlib.Omega.{arith}
use lib.ListN.{length, take, drop, get_or, length-append, length-drop}
use lib.Seq.{take-suc, get_or-drop}
use Rattle.octets.proofs.AllOctets.{octets-part, octets-append, number_fits}
use Rattle.octets.proofs.Lists.{length_part, part_then}
use Rattle.octets.specs.Octets.{AllOctets, none, one, part, number_in, big_endian}

pub length-big_endian : (n x : ℕ) → length (big_endian n x) ≡ n
unfolding big_endian
length-big_endian zero x = refl
length-big_endian (suc n) x = simp (length-append, length-big_endian n (x / 256)) (omega arith)

pub octets-big_endian : (n x : ℕ) → AllOctets (big_endian n x)
unfolding big_endian
octets-big_endian zero x = none
octets-big_endian (suc n) x = octets-append (octets-big_endian n (x / 256)) (one (mod-lt x (omega arith)) none)

number-snoc : (xs : List ℕ) (x high : ℕ) → number_in (xs ++ (x ∷ [])) high ≡ number_in xs high * 256 + x
unfolding number_in
number-snoc [] x high = refl
number-snoc (y ∷ ys) x high = number-snoc ys x (high * 256 + y)

-- reading what was written
pub number-of-big-endian : (n x : ℕ) → x < 256 ^ n → number_in (big_endian n x) 0 ≡ x
unfolding number_in big_endian
number-of-big-endian zero x h = omega arith
number-of-big-endian (suc n) x h =
    rw (number-snoc (big_endian n (x / 256)) (x % 256) 0, number-of-big-endian n (x / 256) ((div-lt_iff_lt-mul {k = 256} (omega arith)).1 (rw (pow-suc 256 n) at h)))
    (div-add-mod' x 256)

big-endian-number : (m high : ℕ) {xs : List ℕ} → AllOctets xs → big_endian (length xs + m) (number_in xs high) ≡ big_endian m high ++ xs
unfolding number_in big_endian
big-endian-number m high none = rw (zero-add, append-nil)
big-endian-number m high (one {x} {xs} h a) =
    let sum : suc (length xs) + m ≡ length xs + suc m = omega arith in
    rw (sum, big-endian-number (suc m) (high * 256 + x) a, mul-add-div_right {m = 256} (omega arith) high x, div-eq_of_lt h, add-zero, mul-add-mod_self_right high 256 x, mod-eq_of_lt h)
    (append_assoc (big_endian m high) (x ∷ []) xs)

-- writing what was read
pub big-endian-of-number : {xs : List ℕ} → AllOctets xs → big_endian (length xs) (number_in xs 0) ≡ xs
unfolding big_endian
big-endian-of-number {xs} a = rw add-zero at (big-endian-number 0 0 a)

-- the number in one octet more
pub number-part : (s : List ℕ) (at n : ℕ) → at + n < length s → number_in (part s at (suc n)) 0 ≡ number_in (part s at n) 0 * 256 + get_or s (at + n) 0
unfolding part
number-part s at n h = rw (take-suc (drop at s) n 0 (simp length-drop (omega arith)), get_or-drop at s n 0) (number-snoc (take n (drop at s)) (get_or s (at + n) 0) 0)

-- what stands before the octets counts as many times as there are numbers in them
pub number-high : (xs : List ℕ) (high : ℕ) → number_in xs high ≡ high * 256 ^ length xs + number_in xs 0
unfolding number_in
number-high [] high = omega arith
number-high (x ∷ xs) high = rw (number-high xs (high * 256 + x), number-high xs (0 * 256 + x), pow-suc 256 (length xs)) (omega arith)

number_append : (xs ys : List ℕ) (high : ℕ) → number_in (xs ++ ys) high ≡ number_in ys (number_in xs high)
unfolding number_in
number_append [] ys high = refl
number_append (x ∷ xs) ys high = number_append xs ys (high * 256 + x)

-- the number in a part, and in the part straight after it
pub number-then : (s : List ℕ) (at m n : ℕ) → at + m + n ≤ length s → number_in (part s at m) 0 * 256 ^ n + number_in (part s (at + m) n) 0 ≡ number_in (part s at (m + n)) 0
number-then s at m n h =
    let l : length (part s (at + m) n) ≡ n = length_part s (at + m) n h in
    sym (rw (part_then s at m n, number_append (part s at m) (part s (at + m) n) 0, number-high (part s (at + m) n) (number_in (part s at m) 0), l))

-- the number in two octets
pub number-two : (s : List ℕ) (at : ℕ) → at + 2 ≤ length s → get_or s at 0 * 256 + get_or s (at + 1) 0 ≡ number_in (part s at 2) 0
unfolding part number_in
number-two s at h = sym (rw (number-part s at 1 (omega arith), number-part s at 0 (omega arith), add-zero) (omega arith))

-- the number in a part, and the part of a number
pub part-number : {s : List ℕ} → AllOctets s → (at n : ℕ) → at + n ≤ length s → big_endian n (number_in (part s at n) 0) ≡ part s at n
part-number {s} a at n h = rw (length_part s at n h) at (big-endian-of-number (octets-part at n a))

-- parts of the same number are the same
pub same_number : {a b : List ℕ} → AllOctets a → AllOctets b → (at n : ℕ) → at + n ≤ length a → at + n ≤ length b → number_in (part a at n) 0 ≡ number_in (part b at n) 0 → part a at n ≡ part b at n
same_number p q at n h k e = sym (part-number p at n h) ∙ ap (big_endian n) e ∙ part-number q at n k

pub part-fits : {s : List ℕ} → AllOctets s → (at n : ℕ) → at + n ≤ length s → number_in (part s at n) 0 < 256 ^ n
part-fits {s} a at n h = rw (length_part s at n h) at (number_fits (octets-part at n a))
