-- Octets written over others, and gaps filled and closed, in lists that are put together from their parts.
use Prim.Native.Nat.{ℕ, ◌+◌, ◌-◌}
use mathlib.Core.Path.{◌≡◌, refl, sym, ap, ap₂, ◌∙◌}
use mathlib.Core.List.{List, ◌++◌, append_assoc}
use native.Mathlib.Omega.{arith}
use lib.ListN.{length, take, drop, length-append}
use lib.Seq.{take_at, drop_at, drop-drop, length-take-le}
use Rattle.octets.specs.Octets.{part, placed}
use Rattle.octets.specs.Order.{zeros}
use Rattle.changes.specs.Changing.{opened, closed}

-- octets written over others of their size
pub over : (start : ℕ) (x q r p : List ℕ) → length x ≡ start → length q ≡ length p → placed start p (x ++ (q ++ r)) ≡ x ++ (p ++ r)
unfolding placed
over start x q r p e f =
    let size : length (x ++ q) ≡ start + length p = simp length-append (omega arith) in
    let rest : drop (start + length p) (x ++ (q ++ r)) ≡ r = rw (← append_assoc x q r) (drop_at (x ++ q) r (start + length p) size) in
    rw (rest, take_at x (q ++ r) start e)

-- a gap opened before b, over z, and written
pub gap-filled : (start end : ℕ) (x b z w p : List ℕ) → length x ≡ start → length z ≡ 128 → length p ≡ 128 → end ≡ start + (length b + 128)
    → placed start p (opened start end (x ++ (b ++ (z ++ w)))) ≡ x ++ (p ++ (b ++ w))
unfolding opened part
gap-filled start end x b z w p e f g h =
    let t : List ℕ = x ++ (b ++ (z ++ w)) in
    let low : take start t ≡ x = take_at x (b ++ (z ++ w)) start e in
    let from : drop start t ≡ b ++ (z ++ w) = drop_at x (b ++ (z ++ w)) start e in
    let size : end - start - 128 ≡ length b = omega arith in
    let mid : take (end - start - 128) (drop start t) ≡ b = ap₂ (λ (n : ℕ) (l : List ℕ). take n l) size from ∙ take_at b (z ++ w) (length b) refl in
    let last : length (b ++ z) ≡ length b + 128 = simp length-append (omega arith) in
    let high : drop end t ≡ w =
    ap (λ (n : ℕ). drop n t) h ∙ sym (drop-drop (length b + 128) start t) ∙ ap (drop (length b + 128)) (from ∙ sym (append_assoc b z w)) ∙ drop_at (b ++ z) w (length b + 128) last in
    let first : length (take 128 (drop start t)) ≡ 128 = length-take-le 128 (drop start t) (rw (from, length-append, length-append) (omega arith)) in
    rw (low, mid, high) (over start x (take 128 (drop start t)) (b ++ w) p e (first ∙ sym g))

-- q closed up by what stands after it
pub gap-closed-over : (start end : ℕ) (x q b w : List ℕ) → length x ≡ start → length q ≡ 128 → end ≡ start + (length b + 128)
    → closed start end (x ++ (q ++ (b ++ w))) ≡ x ++ (b ++ (zeros 128 ++ w))
unfolding closed part
gap-closed-over start end x q b w e f h =
    let t : List ℕ = x ++ (q ++ (b ++ w)) in
    let low : take start t ≡ x = take_at x (q ++ (b ++ w)) start e in
    let from : drop (start + 128) t ≡ b ++ w =
    sym (drop-drop 128 start t) ∙ ap (drop 128) (drop_at x (q ++ (b ++ w)) start e) ∙ drop_at q (b ++ w) 128 f in
    let size : end - start - 128 ≡ length b = omega arith in
    let mid : take (end - start - 128) (drop (start + 128) t) ≡ b = ap₂ (λ (n : ℕ) (l : List ℕ). take n l) size from ∙ take_at b w (length b) refl in
    let sum : end ≡ start + 128 + length b = omega arith in
    let high : drop end t ≡ w =
    ap (λ (n : ℕ). drop n t) sum ∙ sym (drop-drop (length b) (start + 128) t) ∙ ap (drop (length b)) from ∙ drop_at b w (length b) refl in
    rw (low, mid, high)
