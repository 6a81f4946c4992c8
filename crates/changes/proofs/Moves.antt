-- Octets of a table moved by a place, and parts of it cleared.
use Prim.Native.Nat.{ℕ, ◌+◌, ◌-◌, ◌≤◌}
use mathlib.Core.Path.{◌≡◌, ap, ap₂, ◌∙◌}
use mathlib.Core.List.{List, [], ◌++◌, append_assoc, append-nil}
use native.Mathlib.Nat.{zero-add}
use native.Mathlib.Omega.{arith}
use lib.ListN.{length, take, drop, length-drop, drop_of_length-le}
use lib.Seq.{take_all, length-take-le, take-take, take_at, drop-drop, drop-length}
use Rattle.std.specs.List.{copy_within}
use Rattle.octets.specs.Order.{zeros}
use Rattle.octets.proofs.Lists.{drop-taken}

-- what stands after a part
after-part : (start end : ℕ) (t : List ℕ) → start ≤ end → drop (end - start) (drop start t) ≡ drop end t
after-part start end t h =
    let sum : start + (end - start) ≡ end = omega arith in
    drop-drop (end - start) start t ∙ ap (λ (i : ℕ). drop i t) sum

part-size : (start end : ℕ) (t : List ℕ) → start ≤ end → end ≤ length t → length (take (end - start) (drop start t)) ≡ end - start
part-size start end t h k = length-take-le (end - start) (drop start t) (simp length-drop (omega arith))

-- all octets copied up by n, as far as there is room
pub up_by_copy : (n : ℕ) (d : List ℕ) → n ≤ length d → copy_within d 0 (length d - n) n ≡ take n d ++ take (length d - n) d
up_by_copy n d h =
    let size : length d - n - 0 ≡ length d - n = omega arith in
    let none : drop (n + (length d - n)) d ≡ [] = drop_of_length-le d {i = n + (length d - n)} (omega arith) in
    rw (size, none) (append-nil (take n d ++ take (length d - n) d))

-- all octets from n on copied down by n
pub down_by_copy : (n : ℕ) (d : List ℕ) → copy_within d n (length d) 0 ≡ drop n d ++ drop (length d - n) d
down_by_copy n d =
    let all : take (length d - n) (drop n d) ≡ drop n d = take_all (length d - n) (drop n d) (simp length-drop (omega arith)) in
    rw (zero-add (length d - n), all)

-- a part lent to be moved up by n
pub lent-up : (n start end : ℕ) (t y : List ℕ) → start + n ≤ end → end ≤ length t
    → y ≡ take n (take (end - start) (drop start t)) ++ take (length (take (end - start) (drop start t)) - n) (take (end - start) (drop start t))
    → take start t ++ (y ++ drop (end - start) (drop start t)) ≡ take start t ++ (take n (drop start t) ++ (take (end - start - n) (drop start t) ++ drop end t))
lent-up n start end t y h k e =
    let x : List ℕ = drop start t in
    rw (e, part-size start end t (omega arith) k, take-take n (end - start) x (omega arith), take-take (end - start - n) (end - start) x (omega arith), after-part start end t (omega arith))
    (ap (λ (l : List ℕ). take start t ++ l) (append_assoc (take n x) (take (end - start - n) x) (drop end t)))

-- a part lent to be moved down by n, with z after it
pub lent-down : (n start end : ℕ) (t y z : List ℕ) → start + n ≤ end → end ≤ length t → y ≡ drop n (take (end - start) (drop start t)) ++ z
    → take start t ++ (y ++ drop (end - start) (drop start t)) ≡ take start t ++ (take (end - start - n) (drop (start + n) t) ++ (z ++ drop end t))
lent-down n start end t y z h k e =
    let x : List ℕ = drop start t in
    rw (e, drop-taken n (end - start) x (omega arith), drop-drop n start t, after-part start end t (omega arith))
    (ap (λ (l : List ℕ). take start t ++ l) (append_assoc (take (end - start - n) (drop (start + n) t)) z (drop end t)))

-- a part lent to be cleared
pub part-cleared : (start end : ℕ) (t z : List ℕ) → start ≤ end → end ≤ length t → z ≡ zeros (length (take (end - start) (drop start t)))
    → take start t ++ (z ++ drop (end - start) (drop start t)) ≡ take start t ++ (zeros (end - start) ++ drop end t)
part-cleared start end t z h k f = rw (f, part-size start end t h k, after-part start end t h)

-- zeros in all octets from k on
pub rest-cleared : (k : ℕ) (y z : List ℕ) → k ≤ length y → z ≡ zeros (length (take (length y - k) (drop k y)))
    → take k y ++ (z ++ drop (length y - k) (drop k y)) ≡ take k y ++ zeros (length y - k)
rest-cleared k y z h f =
    let size : length (take (length y - k) (drop k y)) ≡ length y - k = part-size k (length y) y h (omega arith) in
    let none : drop (length y - k) (drop k y) ≡ [] = after-part k (length y) y h ∙ drop-length y in
    rw (f, size, none) (ap (λ (m : List ℕ). take k y ++ m) (append-nil (zeros (length y - k))))

pub gap-closed : (n : ℕ) (d y z : List ℕ) → n ≤ length d → length y ≡ length d → y ≡ drop n d ++ drop (length d - n) d
    → z ≡ zeros (length (take (length y - (length y - n)) (drop (length y - n) y)))
    → take (length y - n) y ++ (z ++ drop (length y - (length y - n)) (drop (length y - n) y)) ≡ drop n d ++ zeros n
gap-closed n d y z h l e f =
    let k : ℕ = length y - n in
    let size : length (drop n d) ≡ k = simp length-drop (omega arith) in
    let low : take k y ≡ drop n d = ap (take k) e ∙ take_at (drop n d) (drop (length d - n) d) k size in
    rest-cleared k y z (omega arith) f ∙ ap₂ (λ (a : List ℕ) (m : ℕ). a ++ zeros m) low (back (length y) n (omega arith))
  where
    back : (a b : ℕ) → b ≤ a → a - (a - b) ≡ b
    back a b q = omega arith
