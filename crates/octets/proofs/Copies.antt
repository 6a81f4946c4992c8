-- Laws of copies in blocks.
use Prim.Native.Nat.{ℕ, zero, suc, ◌+◌, ◌-◌, ◌≤◌}
use mathlib.Core.Path.{◌≡◌, refl, sym, ap, ap₂, ◌∙◌}
use mathlib.Core.List.{List, [], ◌∷◌, ◌++◌, append_assoc}
use native.Mathlib.Nat.{add-zero, zero-add}
use native.Mathlib.Omega.{arith}
use lib.ListN.{length, get_or, take, drop, length-append}
use lib.Seq.{drop-cons, drop-drop, length-take-le, take_all, take_at, drop_at}
use Rattle.octets.specs.Octets.{part, placed}
use Rattle.octets.proofs.Outputs.{put-none}
use Rattle.octets.proofs.Lists.{placed-placed, placed-then, length-placed, length_part, part_then}

-- n octets of s, each by itself, of which the first stands at k + i
abbrev octets_from : (s : List ℕ) (k i n : ℕ) → List ℕ
octets_from s k i zero = []
octets_from s k i (suc n) = get_or s (k + i) 0 ∷ octets_from s k (suc i) n

part-octets : (s : List ℕ) (k i n : ℕ) → k + i + n ≤ length s → octets_from s k i n ≡ part s (k + i) n
unfolding part
part-octets s k i zero h = refl
part-octets s k i (suc n) h =
    let e : k + suc i ≡ suc (k + i) = omega arith in
    rw (drop-cons s (k + i) 0 (omega arith), part-octets s k (suc i) n (omega arith), e)

-- a part as an array of its octets
pub part-array : (s : List ℕ) (k n : ℕ) → k + suc n ≤ length s → get_or s k 0 ∷ octets_from s k 1 n ≡ part s k (suc n)
part-array s k n h = ap (λ (j : ℕ). get_or s j 0 ∷ octets_from s k 1 n) (sym (add-zero k)) ∙ part-octets s k 0 (suc n) (omega arith) ∙ ap (λ (j : ℕ). part s j (suc n)) (add-zero k)

-- a part in two blocks, one straight after the other, as two calls leave them
pub placed-blocks : (s d y z : List ℕ) (k at m n : ℕ) → y ≡ placed at (part s k m) d → z ≡ placed (at + m) (part s (k + m) m) y → n ≡ m + m → k + n ≤ length s → at + n ≤ length d
    → z ≡ placed at (part s k n) d
placed-blocks s d y z k at m n p q e h r =
    let l : length (part s k m) ≡ m = length_part s k m (omega arith) in
    let l' : length (part s (k + m) m) ≡ m = length_part s (k + m) m (omega arith) in
    rw (e, part_then s k m m) (placed-then at (at + m) (part s k m) (part s (k + m) m) d y z (omega arith) (omega arith) p q)

-- what is written over is gone
placed-over : (at : ℕ) (e f d : List ℕ) → length e ≤ length f → at + length f ≤ length d → placed at f (placed at e d) ≡ placed at f d
unfolding placed
placed-over at e f d l h =
    let p = take at d in
    let rest = drop (at + length e) d in
    let lp : length p ≡ at = length-take-le at d (omega arith) in
    let n = length f - length e in
    let lpe : length (p ++ e) ≡ at + length e = simp (length-append, lp) in
    let low : take at (p ++ (e ++ rest)) ≡ p = take_at p (e ++ rest) at lp in
    let mid : drop (at + length e) (p ++ (e ++ rest)) ≡ rest = rw (← append_assoc p e rest) (drop_at (p ++ e) rest (at + length e) lpe) in
    let high : drop (at + length f) (p ++ (e ++ rest)) ≡ drop (at + length f) d =
    ap (λ (k : ℕ). drop k (p ++ (e ++ rest))) (sum at (length e) (length f) l) ∙ sym (drop-drop n (at + length e) (p ++ (e ++ rest))) ∙ ap (drop n) mid
    ∙ drop-drop n (at + length e) d ∙ ap (λ (k : ℕ). drop k d) (sym (sum at (length e) (length f) l)) in
    ap₂ (λ (a b : List ℕ). a ++ (f ++ b)) low high
  where
    sum : (at m n : ℕ) → m ≤ n → at + n ≡ at + m + (n - m)
    sum at m n l = omega arith

part-whole : (s : List ℕ) (n : ℕ) → length s ≤ n → part s 0 n ≡ s
unfolding part
part-whole s n l = take_all n s l

-- the first octets and the last ones, as two calls leave them
pub placed-last : (s d y z : List ℕ) (at m n : ℕ) → m ≤ length s → n ≤ length s → length s ≤ m + n → at + length s ≤ length d → y ≡ placed at (part s 0 m) d → z ≡ placed (at + (length s - n)) (part s (length s - n) n) y
    → z ≡ placed at s d
placed-last s d y z at m n h k l r p q =
    let j : ℕ = length s - n in
    let e : List ℕ = part s 0 j in
    let g : List ℕ = part s (0 + j) (m - j) in
    let f : List ℕ = part s (0 + j) n in
    let le : length e ≡ j = length_part s 0 j (omega arith) in
    let lg : length g ≡ m - j = length_part s (0 + j) (m - j) (omega arith) in
    let lf : length f ≡ n = length_part s (0 + j) n (omega arith) in
    let first : part s 0 m ≡ e ++ g = ap (part s 0) (sum j m (omega arith)) ∙ part_then s 0 j (m - j) in
    let last : e ++ f ≡ s = sym (part_then s 0 j n) ∙ part-whole s (j + n) (omega arith) in
    let x : List ℕ = placed at e d in
    let lx : length x ≡ length d = length-placed at e d (omega arith) in
    let y' : y ≡ placed (at + length e) g x = p ∙ ap (λ (a : List ℕ). placed at a d) first ∙ sym (placed-placed at e g d (omega arith)) in
    let start : at + j ≡ at + length e = ap (λ (i : ℕ). at + i) (sym le) in
    let from : part s j n ≡ f = ap (λ (i : ℕ). part s i n) (sym (zero-add j)) in
    q ∙ ap₂ (λ (a : ℕ) (b : List ℕ). placed a b y) start from ∙ ap (placed (at + length e) f) y' ∙ placed-over (at + length e) g f x (omega arith) (omega arith)
    ∙ placed-placed at e f d (omega arith) ∙ ap (λ (a : List ℕ). placed at a d) last
  where
    sum : (j m : ℕ) → j ≤ m → m ≡ j + (m - j)
    sum j m l = omega arith

pub placed-ends : (s d y z : List ℕ) (at m : ℕ) → m ≤ length s → length s ≤ m + m → at + length s ≤ length d → y ≡ placed at (part s 0 m) d → z ≡ placed (at + (length s - m)) (part s (length s - m) m) y
    → z ≡ placed at s d
placed-ends s d y z at m h l r p q = placed-last s d y z at m m h h l r p q

-- one block more
pub placed-more : (s d y z : List ℕ) (at i n : ℕ) → i + n ≤ length s → at + (i + n) ≤ length d → y ≡ placed at (part s 0 i) d → z ≡ placed (at + i) (part s i n) y → z ≡ placed at (part s 0 (i + n)) d
placed-more s d y z at i n h r p q =
    let l : length (part s 0 i) ≡ i = length_part s 0 i (omega arith) in
    let l' : length (part s (0 + i) n) ≡ n = length_part s (0 + i) n (omega arith) in
    let from : part s i n ≡ part s (0 + i) n = ap (λ (j : ℕ). part s j n) (sym (zero-add i)) in
    placed-then at (at + i) (part s 0 i) (part s (0 + i) n) d y z (omega arith) (omega arith) p (q ∙ ap (λ (x : List ℕ). placed (at + i) x y) from) ∙ ap (λ (x : List ℕ). placed at x d) (sym (part_then s 0 i n))

-- no block yet
pub placed-none : (s d : List ℕ) (at : ℕ) → d ≡ placed at (part s 0 0) d
unfolding part
placed-none s d at = (put-none at d).1
