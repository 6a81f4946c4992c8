-- Places kept in a table, at the same octets or before them, and their marks.
use Prim.Native.Nat.{ℕ, ◌+◌, ◌-◌, ◌≤◌}
use mathlib.Core.Path.{◌≡◌, sym, ◌∙◌, ap, ap₂}
use mathlib.Core.List.{List, [], ◌∷◌, ◌++◌, append_assoc}
use native.Mathlib.Omega.{arith}
use lib.ListN.{length, get_or, take, drop, set, length-append, length-drop, drop_of_length-le}
use lib.Seq.{length-take-le, set_at, split_at}
use Rattle.octets.specs.Octets.{part, placed}
use Rattle.changes.specs.Changing.{remarked}
use Rattle.std.specs.List.{copy_within}

-- a place copied to `to`
pub kept_at : (at to : ℕ) (t : List ℕ) → at + 128 ≤ length t → copy_within t at (at + 128) to ≡ placed to (part t at 128) t
unfolding placed part
kept_at at to t h =
    let n : at + 128 - at ≡ 128 = omega arith in
    let size : length (take 128 (drop at t)) ≡ 128 = length-take-le 128 (drop at t) (simp length-drop (omega arith)) in
    rw (n, size) (append_assoc (take to t) (take 128 (drop at t)) (drop (to + 128) t))

-- a place with another mark has the size of a place
pub length-remarked : (m : ℕ) (p : List ℕ) → length p ≡ 128 → length (remarked m p) ≡ 128
unfolding remarked
length-remarked m p l = length-append (take 127 p) (m ∷ []) ∙ ap (λ (n : ℕ). n + 1) (length-take-le 127 p (omega arith))

-- its mark set
pub mark_set : (to m : ℕ) (p t : List ℕ) → length p ≡ 128 → to ≤ length t → set (placed to p t) (to + 127) m ≡ placed to (remarked m p) t
unfolding placed remarked
mark_set to m p t l h =
    let q : List ℕ = take to t ++ take 127 p in
    let lq : length q ≡ to + 127 = length-append (take to t) (take 127 p) ∙ ap₂ (λ (i j : ℕ). i + j) (length-take-le to t h) (length-take-le 127 p (omega arith)) in
    let cut : p ≡ take 127 p ++ (get_or p 127 0 ∷ []) = split_at p 127 0 (omega arith) ∙ ap (λ (x : List ℕ). take 127 p ++ (get_or p 127 0 ∷ x)) (drop_of_length-le p {i = 128} (omega arith)) in
    ap (λ (x : List ℕ). set x (to + 127) m)
    (ap (λ (n : ℕ). take to t ++ (p ++ drop (to + n) t)) l ∙ ap (λ (x : List ℕ). take to t ++ (x ++ drop (to + 128) t)) cut ∙ shaped (get_or p 127 0))
    ∙ set_at q (get_or p 127 0) (drop (to + 128) t) m (to + 127) lq
    ∙ sym (ap (λ (n : ℕ). take to t ++ (remarked m p ++ drop (to + n) t)) (length-remarked m p l) ∙ last)
  where
    shaped : (x : ℕ) → take to t ++ ((take 127 p ++ (x ∷ [])) ++ drop (to + 128) t) ≡ (take to t ++ take 127 p) ++ (x ∷ drop (to + 128) t)
    shaped x = ap (λ (y : List ℕ). take to t ++ y) (append_assoc (take 127 p) (x ∷ []) (drop (to + 128) t)) ∙ sym (append_assoc (take to t) (take 127 p) (x ∷ drop (to + 128) t))

    last : take to t ++ (remarked m p ++ drop (to + 128) t) ≡ (take to t ++ take 127 p) ++ (m ∷ drop (to + 128) t)
    last = shaped m
