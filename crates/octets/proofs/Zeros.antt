-- Laws of `all_zero` and `zeros`.
use Prim.Native.Nat.{ℕ, zero, suc, ◌+◌, ◌-◌, ◌<◌, ◌≤◌}
use mathlib.Core.Path.{◌≡◌, refl, sym, ap, ap₂, ◌∙◌}
use mathlib.Core.Bool.{Bool, true, false}
use mathlib.Core.List.{List, [], ◌∷◌, ◌++◌}
use native.Mathlib.Numerals.{add-one}
use native.Mathlib.Omega.{arith}
use lib.Bits.{bit_or, or_add_and, and_le_l, and_le_r}
use lib.ListN.{length, get_or, take, drop, length-drop, take-append-drop}
use lib.Seq.{drop-cons, drop-drop, take_all, take-take, get_or-drop}
use lib.Dec.{eqb}
use borrow.Author.Tests.{eqb-true, eq-eqb}
use Rattle.std.specs.List.{fold, zip}
use Rattle.octets.specs.Choice.{both}
use Rattle.octets.specs.Octets.{part}
use Rattle.octets.specs.Order.{zeros, all_zero}
use Rattle.octets.proofs.Choice.{opposite, test-same, both-held, both-true-left, both-true-right, both_true, both-assoc, is_false}
use Rattle.octets.proofs.Lists.{take-then}

pub zeros-all : (n : ℕ) → all_zero (zeros n) ≡ true
unfolding zeros all_zero both
zeros-all zero = refl
zeros-all (suc n) = zeros-all n

pub all-zeros : (s : List ℕ) → all_zero s ≡ true → s ≡ zeros (length s)
unfolding zeros all_zero
all-zeros [] h = refl
all-zeros (x ∷ s) h = ap₂ (λ (a : ℕ) (l : List ℕ). a ∷ l) (eqb-true x 0 (both-true-left _ _ h)) (all-zeros s (both-true-right _ _ h))

-- zeros, octet by octet
pub zero-at : (s : List ℕ) → all_zero s ≡ true → (i : ℕ) → get_or s i 0 ≡ 0
unfolding all_zero
zero-at [] h i = refl
zero-at (x ∷ s) h zero = eqb-true x 0 (both-true-left _ _ h)
zero-at (x ∷ s) h (suc i) = zero-at s (both-true-right _ _ h) i

-- octets of which each is 0
pub zero-each : (s : List ℕ) → ((i : ℕ) → get_or s i 0 ≡ 0) → all_zero s ≡ true
unfolding all_zero
zero-each [] h = refl
zero-each (x ∷ s) h = both_true _ _ (eq-eqb x 0 (h 0)) (zero-each s (λ i. h (suc i)))

-- zeros from n on
pub zero-past : (n : ℕ) (s : List ℕ) → all_zero (drop n s) ≡ true → (i : ℕ) → n ≤ i → get_or s i 0 ≡ 0
zero-past n s h i least =
    let sum : n + (i - n) ≡ i = omega arith in
    ap (λ (k : ℕ). get_or s k 0) (sym sum) ∙ sym (get_or-drop n s (i - n) 0) ∙ zero-at (drop n s) h (i - n)

-- octets of which each from n on is 0
pub zero-each-past : (n : ℕ) (s : List ℕ) → ((i : ℕ) → n ≤ i → get_or s i 0 ≡ 0) → all_zero (drop n s) ≡ true
zero-each-past n s h = zero-each (drop n s) (λ i. get_or-drop n s i 0 ∙ h (n + i) (omega arith))

-- one octet looked at
zero-from : (s : List ℕ) (i : ℕ) → i < length s → all_zero (drop i s) ≡ both (eqb (get_or s i 0) 0) (all_zero (drop (i + 1) s))
unfolding all_zero
zero-from s i h = rw (drop-cons s i 0, add-one)

both-then-true : (a : Bool) → both a true ≡ a
unfolding both
both-then-true true = refl
both-then-true false = refl

-- octets put together by `bit_or` are zero where each is
or-zero : (x y : ℕ) → eqb (bit_or x y) 0 ≡ both (eqb x 0) (eqb y 0)
or-zero x y =
    test-same _ _ (λ t. let e : bit_or x y ≡ 0 = eqb-true _ _ t in both_true _ _ (eq-eqb x 0 (omega (arith, or_add_and x y, and_le_r x y))) (eq-eqb y 0 (omega (arith, or_add_and x y, and_le_l x y))))
    (λ t. let p = both-held _ _ t in eq-eqb (bit_or x y) 0 (omega (arith, or_add_and x y, eqb-true x 0 p.0, eqb-true y 0 p.1)))

-- octets put together, with what stood before them
zero-fold-from : (s : List ℕ) (any : ℕ) → eqb (fold bit_or any s) 0 ≡ both (eqb any 0) (all_zero s)
unfolding all_zero
zero-fold-from [] any = sym (both-then-true (eqb any 0))
zero-fold-from (x ∷ s) any = zero-fold-from s (bit_or any x) ∙ ap (λ (b : Bool). both b (all_zero s)) (or-zero any x) ∙ both-assoc (eqb any 0) (eqb x 0) (all_zero s)

pub zero-fold : (s : List ℕ) → eqb (fold bit_or 0 s) 0 ≡ all_zero s
unfolding both
zero-fold s = zero-fold-from s 0

zero-append : (xs ys : List ℕ) → all_zero (xs ++ ys) ≡ both (all_zero xs) (all_zero ys)
unfolding all_zero both
zero-append [] ys = refl
zero-append (x ∷ xs) ys = rw (zero-append xs ys) (sym (both-assoc (eqb x 0) (all_zero xs) (all_zero ys)))

zero-front : (n : ℕ) (s : List ℕ) → all_zero s ≡ true → all_zero (take n s) ≡ true
zero-front n s h = both-true-left _ _ (sym (zero-append (take n s) (drop n s)) ∙ ap all_zero (take-append-drop n s) ∙ h)

zero_rest : (n : ℕ) (s : List ℕ) → all_zero s ≡ true → all_zero (drop n s) ≡ true
zero_rest n s h = both-true-right _ _ (sym (zero-append (take n s) (drop n s)) ∙ ap all_zero (take-append-drop n s) ∙ h)

-- a rest and a front that leave nothing out between them
pub zero-covered : (s : List ℕ) (m n : ℕ) → n ≤ m → both (all_zero (drop n s)) (all_zero (take m s)) ≡ all_zero s
zero-covered s m n h =
    test-same _ _
    (λ t.
    let front : all_zero (take n s) ≡ true = ap all_zero (sym (take-take n m s h)) ∙ zero-front n (take m s) (both-true-right _ _ t) in
    ap all_zero (sym (take-append-drop n s)) ∙ zero-append (take n s) (drop n s) ∙ both_true _ _ front (both-true-left _ _ t))
    (λ t. both_true _ _ (zero_rest n s t) (zero-front m s t))

-- the last n octets, and m from `start` on that reach them: all from `start` on
pub zero-overlap : (r : Bool) (s : List ℕ) (last n start m : ℕ) → last + n ≡ length s → start ≤ last → last ≤ start + m → r ≡ both (all_zero (part s last n)) (all_zero (part s start m))
    → r ≡ all_zero (drop start s)
unfolding part
zero-overlap r s last n start m e h k q =
    let at : start + (last - start) ≡ last = omega arith in
    let end : take n (drop last s) ≡ drop (last - start) (drop start s) = take_all n (drop last s) (simp length-drop (omega arith)) ∙ ap (λ (j : ℕ). drop j s) (sym at) ∙ sym (drop-drop (last - start) start s) in
    q ∙ ap (λ (l : List ℕ). both (all_zero l) (all_zero (take m (drop start s)))) end ∙ zero-covered (drop start s) m (last - start) (omega arith)

-- zeros as far as a test has come, block by block
pub zero-begins : (flag : Bool) (s : List ℕ) (i n : ℕ) → all_zero (take i s) ≡ true → flag ≡ all_zero (part s i n) → flag ≡ true → all_zero (take (i + n) s) ≡ true
zero-begins flag s i n h e t = ap all_zero (take-then s i n) ∙ zero-append (take i s) (part s i n) ∙ both_true _ _ h (sym e ∙ t)

pub zero-fails : (flag : Bool) (s : List ℕ) (i n : ℕ) → flag ≡ all_zero (part s i n) → flag ≡ false → false ≡ all_zero s
unfolding part
zero-fails flag s i n e f = sym (is_false (all_zero s) (λ t. opposite (zero-front n (drop i s) (zero_rest i s t)) (sym e ∙ f)))

pub zero-last : (r : Bool) (s : List ℕ) (last n i : ℕ) → last + n ≡ length s → last ≤ i → all_zero (take i s) ≡ true → r ≡ all_zero (part s last n) → r ≡ all_zero s
unfolding part
zero-last r s last n i e k h q = zero-overlap r s last n 0 i e (omega arith) (omega arith) (q ∙ sym (both-then-true _) ∙ ap (both (all_zero (part s last n))) (sym h))

-- octets of two lists of one length put together, with what stood before them
both-four : (e x y a b : Bool) → both (both (both e x) y) (both a b) ≡ both e (both (both x a) (both y b))
unfolding both
both-four false x y a b = refl
both-four true false y a b = refl
both-four true true false true b = refl
both-four true true false false b = refl
both-four true true true a b = refl

abbrev pub or_pair : ℕ → (ℕ × ℕ) → ℕ
or_pair any pair = bit_or (bit_or any pair.0) pair.1

zeros-fold-from : (a b : List ℕ) (any : ℕ) → length a ≡ length b → eqb (fold or_pair any (zip a b)) 0 ≡ both (eqb any 0) (both (all_zero a) (all_zero b))
unfolding all_zero both
zeros-fold-from [] [] any h = sym (both-then-true (eqb any 0))
zeros-fold-from [] (y ∷ b) any h = absurd (omega arith)
zeros-fold-from (x ∷ a) [] any h = absurd (omega arith)
zeros-fold-from (x ∷ a) (y ∷ b) any h =
    let l : length a ≡ length b = omega arith in
    zeros-fold-from a b (bit_or (bit_or any x) y) l
    ∙ ap (λ (e : Bool). both e (both (all_zero a) (all_zero b))) (or-zero (bit_or any x) y ∙ ap (λ (e : Bool). both e (eqb y 0)) (or-zero any x))
    ∙ both-four (eqb any 0) (eqb x 0) (eqb y 0) (all_zero a) (all_zero b)

pub zeros-fold : (a b : List ℕ) → length a ≡ length b → eqb (fold or_pair 0 (zip a b)) 0 ≡ both (all_zero a) (all_zero b)
unfolding both
zeros-fold a b h = zeros-fold-from a b 0 h
