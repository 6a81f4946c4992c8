-- Laws of `part`, `placed`, `front` and `sized`.
use Prim.Native.Nat.{ℕ, zero, suc, ◌+◌, ◌*◌, ◌-◌, ◌≤◌, ◌<◌}
use mathlib.Core.Path.{◌≡◌, refl, sym, ap, ap₂, ◌∙◌}
use mathlib.Core.List.{List, [], ◌∷◌, ◌++◌, append_assoc, append-nil}
use native.Mathlib.Nat.{suc-mul, zero-add, add-sub_cancel_left}
use native.Mathlib.Omega.{arith}
use borrow.Author.Tests.{ltb-true, ltb-false}
use lib.ListN.{length, get_or, take, drop, replicate, length-append, length-take, length-drop, length-replicate, replicate-append-replicate, drop_of_length-le, take-append-drop, get_or-append, get_or-eq_default}
use lib.Dec.{ltb}
use lib.Seq.{take_all, take_at, drop_at, drop-drop, length-take-le, take-append-le, take-length, take-append-add, take-add, take-take, take-append_seam, take-nil, get_or-append-add, get_or-take, get_or-drop}
use Rattle.octets.specs.Octets.{part, placed, front, sized}
use Rattle.octets.specs.Order.{zeros}
use Rattle.octets.proofs.Choice.{tested}

-- what a slice hands on: its part from `start` on, all of it from `at` on, and all of it
pub lent-part : (start size : ℕ) (s : List ℕ) → take (start + size - start) (drop start s) ≡ part s start size
unfolding part
lent-part start size s = ap (λ (k : ℕ). take k (drop start s)) (add-sub_cancel_left start size)

pub lent-rest : (at : ℕ) (s : List ℕ) → take (length s - at) (drop at s) ≡ drop at s
lent-rest at s = take_all (length s - at) (drop at s) (simp length-drop (omega arith))

pub lent-whole : (s : List ℕ) → take (length s - 0) (drop 0 s) ≡ s
lent-whole s = lent-rest 0 s

pub length-placed : (at : ℕ) (e d : List ℕ) → at + length e ≤ length d → length (placed at e d) ≡ length d
unfolding placed
length-placed at e d h = simp (length-append, length-take, length-drop) (omega arith)

-- what a write leaves as far as its end
pub take-placed : (at : ℕ) (e d : List ℕ) → at ≤ length d → take (at + length e) (placed at e d) ≡ take at d ++ e
unfolding placed
take-placed at e d h =
    ap (take (at + length e)) (sym (append_assoc (take at d) e (drop (at + length e) d)))
    ∙ take_at (take at d ++ e) (drop (at + length e) d) (at + length e) (length-append (take at d) e ∙ ap (λ (n : ℕ). n + length e) (length-take-le at d h))

-- what it leaves behind its end
pub drop-placed : (at : ℕ) (e d : List ℕ) → at ≤ length d → (n : ℕ) → at + length e ≤ n → drop n (placed at e d) ≡ drop n d
unfolding placed
drop-placed at e d h n past =
    let end : ℕ = at + length e in
    let on : end + (n - end) ≡ n = omega arith in
    let size : length (take at d ++ e) ≡ end = length-append (take at d) e ∙ ap (λ (k : ℕ). k + length e) (length-take-le at d h) in
    rw (← on, ← drop-drop (n - end) end (take at d ++ (e ++ drop end d)), ← drop-drop (n - end) end d)
    (ap (drop (n - end)) (ap (drop end) (sym (append_assoc (take at d) e (drop end d))) ∙ drop_at (take at d ++ e) (drop end d) end size))

-- a part written where it stands
pub placed-part : (at size : ℕ) (d : List ℕ) → at + size ≤ length d → placed at (part d at size) d ≡ d
unfolding placed part
placed-part at size d h =
    rw (length-take-le size (drop at d) (simp length-drop (omega arith)), ← drop-drop size at d, take-append-drop size (drop at d)) (take-append-drop at d)

-- what stands in d with e put in from `at` on: e there, and every other element as it was
module _ (at : ℕ) (e d : List ℕ) (room : at ≤ length d) where
  pub placed-before : (i : ℕ) → i < at → get_or (placed at e d) i 0 ≡ get_or d i 0
  unfolding placed
  placed-before i h = get_or-append (take at d) (e ++ drop (at + length e) d) 0 i (omega (arith, length-take-le at d room)) ∙ get_or-take at d i 0 h

  pub placed_past : (i : ℕ) → at + length e ≤ i → get_or (placed at e d) i 0 ≡ get_or d i 0
  placed_past i h =
      let none : i ≡ i + 0 = omega arith in
      ap (λ (n : ℕ). get_or (placed at e d) n 0) none ∙ sym (get_or-drop i (placed at e d) 0 0) ∙ ap (λ (l : List ℕ). get_or l 0 0) (drop-placed at e d room i h) ∙ get_or-drop i d 0 0
      ∙ ap (λ (n : ℕ). get_or d n 0) (sym none)

  pub part_placed : part (placed at e d) at (length e) ≡ e
  unfolding placed part
  part_placed = ap (take (length e)) (drop_at (take at d) (e ++ drop (at + length e) d) at (length-take-le at d room)) ∙ take-append_seam e (drop (at + length e) d)

pub front-is-placed : (e d : List ℕ) → front e d ≡ placed 0 e d
unfolding front placed
front-is-placed e d = rw zero-add

pub length_front : (e d : List ℕ) → length e ≤ length d → length (front e d) ≡ length d
unfolding front
length_front e d h = simp (length-append, length-drop) (omega arith)

pub take-front : (e d : List ℕ) → take (length e) (front e d) ≡ e
unfolding front
take-front e d = take-append_seam e (drop (length e) d)

pub past-front : (e d : List ℕ) (i : ℕ) → length e ≤ i → get_or (front e d) i 0 ≡ get_or d i 0
unfolding front
past-front e d i h =
    let k : i ≡ length e + (i - length e) = omega arith in
    ap (λ (n : ℕ). get_or (e ++ drop (length e) d) n 0) k ∙ get_or-append-add e (drop (length e) d) (i - length e) 0 ∙ get_or-drop (length e) d (i - length e) 0 ∙ ap (λ (n : ℕ). get_or d n 0) (sym k)

-- what a copy to the front of a part leaves, the part having been lent from `at` to the end
pub lent_placed : (at : ℕ) (e d y : List ℕ) → at + length e ≤ length d → y ≡ take (length e) e ++ drop (length e) (take (length d - at) (drop at d))
    → take at d ++ (y ++ drop (length d - at) (drop at d)) ≡ placed at e d
unfolding placed
lent_placed at e d y h q =
    rw (q, take-length e, lent-rest at d, drop-drop (length d - at) at d, drop_of_length-le d {i = at + (length d - at)} (omega arith), append-nil)
    (rw drop-drop)

-- what a copy into a part that was lent, from `at` on and as long as what is copied, leaves
pub copied-placed : (at : ℕ) (e d y : List ℕ) → y ≡ e → take at d ++ (y ++ drop (at + length e - at) (drop at d)) ≡ placed at e d
unfolding placed
copied-placed at e d y q =
    let n : at + length e - at ≡ length e = omega arith in
    rw (q, n, drop-drop)

-- two writes, one straight after the other, are one
pub placed-placed : (at : ℕ) (e f d : List ℕ) → at + length e + length f ≤ length d → placed (at + length e) f (placed at e d) ≡ placed at (e ++ f) d
unfolding placed
placed-placed at e f d h =
    let p : List ℕ = take at d in
    let x : List ℕ = drop (at + length e) d in
    let lp : length p ≡ at = length-take-le at d (omega arith) in
    let lpe : length (p ++ e) ≡ at + length e = simp (length-append, lp) in
    let low : take (at + length e) (p ++ (e ++ x)) ≡ p ++ e = rw (← append_assoc p e x) (take_at (p ++ e) x (at + length e) lpe) in
    let mid : drop (at + length e) (p ++ (e ++ x)) ≡ x = rw (← append_assoc p e x) (drop_at (p ++ e) x (at + length e) lpe) in
    let high : drop (at + length e + length f) (p ++ (e ++ x)) ≡ drop (at + length e + length f) d =
    sym (drop-drop (length f) (at + length e) (p ++ (e ++ x))) ∙ ap (drop (length f)) mid ∙ drop-drop (length f) (at + length e) d in
    let sum : at + length e + length f ≡ at + length (e ++ f) = simp length-append (omega arith) in
    ap₂ (λ (a b : List ℕ). a ++ (f ++ b)) low (high ∙ ap (λ (n : ℕ). drop n d) sum)
    ∙ append_assoc p e (f ++ drop (at + length (e ++ f)) d)
    ∙ ap (λ (l : List ℕ). p ++ l) (sym (append_assoc e f (drop (at + length (e ++ f)) d)))

-- the same, as two calls leave it
pub placed-then : (at next : ℕ) (e f d y z : List ℕ) → at + length e + length f ≤ length d → next ≡ at + length e → y ≡ placed at e d → z ≡ placed next f y → z ≡ placed at (e ++ f) d
placed-then at next e f d y z h k p q = q ∙ ap₂ (λ (i : ℕ) (l : List ℕ). placed i f l) k p ∙ placed-placed at e f d h

pub length-sized : (n : ℕ) (xs : List ℕ) → length (sized n xs) ≡ n
unfolding sized
length-sized n xs = length-take-le n (xs ++ replicate n 0) (simp (length-append, length-replicate) (omega arith))

pub sized-taken : (n : ℕ) (xs : List ℕ) → n ≤ length xs → sized n xs ≡ take n xs
unfolding sized
sized-taken n xs h = take-append-le n xs (replicate n 0) h

-- a list with the zeros that it lacks
pub sized-zeros : (n : ℕ) (xs : List ℕ) → length xs ≤ n → sized n xs ≡ xs ++ zeros (n - length xs)
unfolding sized zeros
sized-zeros n xs h =
    let k : ℕ = n - length xs in
    let sum : n ≡ length xs + k = omega arith in
    let turned : n ≡ k + length xs = omega arith in
    let high : zeros n ≡ zeros k ++ zeros (length xs) = ap (λ (m : ℕ). zeros m) turned ∙ sym (replicate-append-replicate k (length xs) 0) in
    let taken : take k (zeros n) ≡ zeros k = ap (take k) high ∙ take_at (zeros k) (zeros (length xs)) k (length-replicate k 0) in
    ap (λ (m : ℕ). take m (xs ++ zeros n)) sum ∙ take-append-add xs (zeros n) k ∙ ap (λ (l : List ℕ). xs ++ l) taken

-- zeros with xs copied over their front
pub copied-sized : (n : ℕ) (xs : List ℕ) → length xs ≤ n → take (length xs) xs ++ drop (length xs) (replicate n 0) ≡ sized n xs
unfolding zeros
copied-sized n xs h =
    let k : ℕ = n - length xs in
    let sum : n ≡ length xs + k = omega arith in
    let low : zeros n ≡ zeros (length xs) ++ zeros k = ap (λ (m : ℕ). zeros m) sum ∙ sym (replicate-append-replicate (length xs) k 0) in
    let dropped : drop (length xs) (zeros n) ≡ zeros k = ap (drop (length xs)) low ∙ drop_at (zeros (length xs)) (zeros k) (length xs) (length-replicate (length xs) 0) in
    ap₂ (λ (a b : List ℕ). a ++ b) (take-length xs) dropped ∙ sym (sized-zeros n xs h)

-- zeros behind a list change no element of it, where a missing one is 0
get_or-zeros : (xs : List ℕ) (n i : ℕ) → get_or (xs ++ replicate n 0) i 0 ≡ get_or xs i 0
get_or-zeros [] zero i = refl
get_or-zeros [] (suc n) zero = refl
get_or-zeros [] (suc n) (suc i) = get_or-zeros [] n i
get_or-zeros (x ∷ xs) n zero = refl
get_or-zeros (x ∷ xs) n (suc i) = get_or-zeros xs n i

-- an element of a sized list: that of the list, and 0 where it has no more
pub get_or-sized : (n : ℕ) (xs : List ℕ) (i : ℕ) → i < n → get_or (sized n xs) i 0 ≡ get_or xs i 0
unfolding sized
get_or-sized n xs i h = get_or-take n (xs ++ replicate n 0) i 0 h ∙ get_or-zeros xs n i

-- a list by its first element and the rest
pub front_rest : (s : List ℕ) → 1 ≤ length s → s ≡ get_or s 0 0 ∷ drop 1 s
front_rest [] h = absurd (omega arith)
front_rest (x ∷ s) h = refl

-- the first two elements, and a part after them
pub take-two : (s : List ℕ) (n : ℕ) → 2 ≤ length s → take (2 + n) s ≡ get_or s 0 0 ∷ (get_or s 1 0 ∷ part s 2 n)
unfolding part
take-two [] n h = absurd (omega arith)
take-two (x ∷ []) n h = absurd (omega arith)
take-two (x ∷ (y ∷ s)) n h = let e : 2 + n ≡ suc (suc n) = omega arith in rw e

pub length_part : (s : List ℕ) (start size : ℕ) → start + size ≤ length s → length (part s start size) ≡ size
unfolding part
length_part s start size h = length-take-le size (drop start s) (rw length-drop (omega arith))

-- a part, and the part straight after it
pub part_then : (s : List ℕ) (start m n : ℕ) → part s start (m + n) ≡ part s start m ++ part s (start + m) n
unfolding part
part_then s start m n = rw (take-add m n (drop start s), drop-drop m start s)

-- what a part adds to the front before it
pub take-then : (s : List ℕ) (at n : ℕ) → take (at + n) s ≡ take at s ++ part s at n
unfolding part
take-then s at n = take-add at n s

-- what is taken, without its first k elements
pub drop-taken : (k n : ℕ) (s : List ℕ) → k ≤ n → drop k (take n s) ≡ take (n - k) (drop k s)
drop-taken zero n s h = let same : n ≡ n - 0 = omega arith in ap (λ (m : ℕ). take m s) same
drop-taken (suc k) zero s h = absurd (omega arith)
drop-taken (suc k) (suc n) [] h = sym (take-nil (suc n - suc k))
drop-taken (suc k) (suc n) (x ∷ s) h = let same : n - k ≡ suc n - suc k = omega arith in drop-taken k n s (omega arith) ∙ ap (λ (m : ℕ). take m (drop k s)) same

-- an element of a part
pub part-octet : (s : List ℕ) (start size i : ℕ) → i < size → get_or (part s start size) i 0 ≡ get_or s (start + i) 0
unfolding part
part-octet s start size i h = get_or-take size (drop start s) i 0 h ∙ get_or-drop start s i 0

-- a part whose elements from n on are 0 has 0 there, and past its end
pub part_filled : (s : List ℕ) (start size n : ℕ) → ((i : ℕ) → n ≤ i → i < size → get_or s (start + i) 0 ≡ 0) → (i : ℕ) → n ≤ i → get_or (part s start size) i 0 ≡ 0
unfolding part
part_filled s start size n h i least =
    tested (ltb i size)
    (λ yes. let less : i < size = ltb-true i size yes in part-octet s start size i less ∙ h i least less)
    (λ none. let past : size ≤ i = ltb-false i size none in get_or-eq_default (take size (drop start s)) 0 {n = i} (omega (arith, length-take size (drop start s))))

-- a part of a part
pub part-within : (s : List ℕ) (at n start size : ℕ) → start + size ≤ n → part (part s at n) start size ≡ part s (at + start) size
unfolding part
part-within s at n start size h =
    ap (take size) (drop-taken start n (drop at s) (omega arith)) ∙ take-take size (n - start) (drop start (drop at s)) (omega arith) ∙ ap (take size) (drop-drop start at s)

-- from a place on: a part, and what follows it
pub drop-part : (s : List ℕ) (at n : ℕ) → drop at s ≡ part s at n ++ drop (at + n) s
unfolding part
drop-part s at n = sym (rw (← drop-drop n at s) (take-append-drop n (drop at s)))

-- no elements
pub empty-list : {A : Type 0} (s : List A) → length s ≡ 0 → s ≡ []
empty-list [] h = refl
empty-list (x ∷ s) h = absurd (omega arith)

-- a list given the size that it has
pub sized_same : (n : ℕ) (xs : List ℕ) → length xs ≡ n → sized n xs ≡ xs
unfolding sized
sized_same n xs h = take_at xs (replicate n 0) n h

-- a list filled up with zeros, and cut to its size again
pub sized-back : (n : ℕ) (xs : List ℕ) → length xs ≤ n → sized (length xs) (sized n xs) ≡ xs
unfolding sized
sized-back n xs h =
    let l : length xs ≤ length (take n (xs ++ replicate n 0)) = rw (length-take-le n (xs ++ replicate n 0) (simp (length-append, length-replicate) (omega arith))) h in
    take-append-le (length xs) (take n (xs ++ replicate n 0)) (replicate (length xs) 0) l
    ∙ take-take (length xs) n (xs ++ replicate n 0) h
    ∙ take-append_seam xs (replicate n 0)

-- all octets filled with zeros
pub filled : (n : ℕ) (d s : List ℕ) → length d ≤ n → n ≤ length d → s ≡ replicate n 0 ++ drop n d → s ≡ zeros (length d)
unfolding zeros
filled n d s h k e =
    let same : n ≡ length d = omega arith in
    e ∙ ap (λ (x : List ℕ). replicate n 0 ++ x) (drop_of_length-le d h) ∙ append-nil (replicate n 0) ∙ ap (λ (m : ℕ). replicate m 0) same

-- one more of blocks of one size
pub next-block : (i n : ℕ) → (i + 1) * n ≡ i * n + n
next-block i n = let e : i + 1 ≡ suc i = omega arith in rw (e, suc-mul) (omega arith)
