-- Laws of `same` and `before`.
use Prim.Native.Nat.{ℕ, zero, suc, ◌+◌, ◌*◌, ◌<◌, ◌≤◌, min}
use mathlib.Core.Path.{◌≡◌, refl, sym, ap, ap₂, ◌∙◌}
use mathlib.Core.Bool.{Bool, true, false}
use mathlib.Core.List.{List, [], ◌∷◌, ◌++◌}
use native.Mathlib.Nat.{le_of_lt}
use native.Mathlib.Numerals.{add-one}
use native.Mathlib.Omega.{arith}
use lib.ListN.{length, get_or, take, drop, length-drop, take-append-drop, drop_of_length-le}
use lib.Seq.{drop-cons, take-suc, take_all, take-take}
use lib.Dec.{ltb, eqb}
use borrow.Author.Tests.{ltb-true, ltb-false, eqb-true, eqb-false, eq-eqb, ne_eqb, lt-ltb, le-ltb}
use Rattle.octets.specs.Octets.{AllOctets, none, one, part, number_in}
use Rattle.octets.specs.Order.{same, before}
use Rattle.octets.proofs.Choice.{opposite, both-true-left, both-true-right, both_true, pick_true, pick-false, tested, is_false, is_true}
use Rattle.octets.proofs.AllOctets.{octets-part, number-below}
use Rattle.octets.proofs.Lists.{length_part, take-then}
use Rattle.octets.proofs.NetworkOrder.{number-high, same_number}

pub same-itself : (xs : List ℕ) → same xs xs ≡ true
unfolding same
same-itself [] = refl
same-itself (x ∷ xs) = both_true _ _ (eq-eqb x x refl) (same-itself xs)

pub same-equal : (xs ys : List ℕ) → same xs ys ≡ true → xs ≡ ys
unfolding same
same-equal [] [] h = refl
same-equal [] (y ∷ ys) h = absurd (opposite {b = true} refl (sym h))
same-equal (x ∷ xs) [] h = absurd (opposite {b = true} refl (sym h))
same-equal (x ∷ xs) (y ∷ ys) h =
    ap₂ (λ (a : ℕ) (l : List ℕ). a ∷ l) (eqb-true x y (both-true-left _ _ h)) (same-equal xs ys (both-true-right _ _ h))

pub same-of-equal : (xs ys : List ℕ) → xs ≡ ys → same xs ys ≡ true
same-of-equal xs ys e = rw e (same-itself ys)

pub unequal-other : (xs ys : List ℕ) → (xs ≡ ys → ⊥) → same xs ys ≡ false
unequal-other xs ys h = is_false (same xs ys) (λ t. h (same-equal xs ys t))

pub other-unequal : (xs ys : List ℕ) → same xs ys ≡ false → xs ≡ ys → ⊥
other-unequal xs ys h e = opposite (same-of-equal xs ys e) h

pub same-swapped : (xs ys : List ℕ) → same xs ys ≡ same ys xs
same-swapped xs ys =
    tested (same xs ys)
    (λ t. let e : xs ≡ ys = same-equal xs ys t in rw e)
    (λ f. f ∙ sym (unequal-other ys xs (λ e. other-unequal xs ys f (sym e))))

-- octets compared, and others that they are
module _ (flag : Bool) (xs zs ys : List ℕ) (are : zs ≡ xs) (told : flag ≡ same zs ys) where
  pub same-is : flag ≡ same xs ys
  same-is = rw (← are) told

  pub same-on : flag ≡ true → same xs ys ≡ true
  same-on h = sym same-is ∙ h

  pub same-off : flag ≡ false → same xs ys ≡ false
  same-off h = sym same-is ∙ h

-- nothing comes before itself
pub before-itself : (xs : List ℕ) → before xs xs ≡ false
unfolding before
before-itself [] = refl
before-itself (x ∷ xs) = rw (pick_true _ _ _ (eq-eqb x x refl)) (before-itself xs)

-- of two that differ, one comes before the other
pub before-other : (xs ys : List ℕ) → same xs ys ≡ false → before xs ys ≡ false → before ys xs ≡ true
unfolding before same
before-other [] [] d h = absurd (opposite {b = true} refl d)
before-other [] (y ∷ ys) d h = absurd (opposite {b = true} refl h)
before-other (x ∷ xs) [] d h = refl
before-other (x ∷ xs) (y ∷ ys) d h =
    tested (eqb x y)
    (λ t.
    let e : x ≡ y = eqb-true x y t in
    let d' : same xs ys ≡ false = is_false (same xs ys) (λ s. opposite (both_true _ _ t s) d) in
    rw (pick_true _ _ _ (eq-eqb y x (sym e))) (before-other xs ys d' (rw (pick_true _ (before xs ys) (ltb x y) t) at h)))
    (λ f.
    let n : x ≡ y → ⊥ = eqb-false x y f in
    let l : y ≤ x = ltb-false x y (rw (pick-false _ (before xs ys) (ltb x y) f) at h) in
    rw (pick-false _ (before ys xs) (ltb y x) (ne_eqb y x (λ e. n (sym e)))) (lt-ltb y x (below x y n l)))
  where
    below : (a b : ℕ) → (a ≡ b → ⊥) → b ≤ a → b < a
    below a b n l = omega arith

none_after : (xs : List ℕ) → before xs [] ≡ false
unfolding before
none_after [] = refl
none_after (x ∷ xs) = refl

pub before-then : (xs ys zs : List ℕ) → before xs ys ≡ true → before ys zs ≡ true → before xs zs ≡ true
unfolding before
before-then xs [] zs h k = absurd (opposite h (none_after xs))
before-then xs (y ∷ ys) [] h k = absurd (opposite k (none_after (y ∷ ys)))
before-then [] (y ∷ ys) (z ∷ zs) h k = refl
before-then (x ∷ xs) (y ∷ ys) (z ∷ zs) h k =
    tested (eqb x y)
    (λ t.
    let e : x ≡ y = eqb-true x y t in
    let h' : before xs ys ≡ true = rw (pick_true _ (before xs ys) (ltb x y) t) at h in
    tested (eqb y z)
    (λ u. rw (pick_true _ (before xs zs) (ltb x z) (eq-eqb x z (cc (eqb-true y z u)))) (before-then xs ys zs h' (rw (pick_true _ (before ys zs) (ltb y z) u) at k)))
    (λ u.
    let l : y < z = ltb-true y z (rw (pick-false _ (before ys zs) (ltb y z) u) at k) in
    rw (pick-false _ (before xs zs) (ltb x z) (ne_eqb x z (λ q. omega arith))) (lt-ltb x z (omega arith))))
    (λ f.
    let l : x < y = ltb-true x y (rw (pick-false _ (before xs ys) (ltb x y) f) at h) in
    tested (eqb y z)
    (λ u.
    let e : y ≡ z = eqb-true y z u in
    rw (pick-false _ (before xs zs) (ltb x z) (ne_eqb x z (λ q. omega arith))) (lt-ltb x z (omega arith)))
    (λ u.
    let m : y < z = ltb-true y z (rw (pick-false _ (before ys zs) (ltb y z) u) at k) in
    rw (pick-false _ (before xs zs) (ltb x z) (ne_eqb x z (λ q. omega arith))) (lt-ltb x z (omega arith))))

-- what comes before another is not the same, and the other does not come before it
pub before-differs : (xs ys : List ℕ) → before xs ys ≡ true → same xs ys ≡ false
before-differs xs ys h = unequal-other xs ys (λ e. opposite h (rw e (before-itself ys)))

pub before-once : (xs ys : List ℕ) → before xs ys ≡ true → before ys xs ≡ false
before-once xs ys h = is_false (before ys xs) (λ k. opposite (before-then xs ys xs h k) (before-itself xs))

-- where one does not come before a second, nor the second before a third, the first does not come before the third
pub before-not : (xs ys zs : List ℕ) → before xs ys ≡ false → before ys zs ≡ false → before xs zs ≡ false
before-not xs ys zs h k =
    is_false (before xs zs) (λ b.
    tested (same ys zs) (λ t. opposite b (rw (← same-equal ys zs t) h)) (λ d. opposite (before-then xs zs ys b (before-other ys zs d k)) h))

-- two of which neither comes before the other are one
pub before-neither : (xs ys : List ℕ) → before xs ys ≡ false → before ys xs ≡ false → xs ≡ ys
before-neither xs ys h k = same-equal xs ys (is_true _ (λ d. opposite (before-other xs ys d h) k))

-- no octets come before any others
pub before-none : (xs : List ℕ) → 0 < length xs → before [] xs ≡ true
unfolding before
before-none [] h = absurd (omega arith)
before-none (x ∷ xs) h = refl

-- lists of different lengths
pub lengths_differ : (xs ys : List ℕ) → (length xs ≡ length ys → ⊥) → same xs ys ≡ false
lengths_differ xs ys h = unequal-other xs ys (λ e. h (ap length e))

-- lists that begin alike: what is left decides
before-past : (n : ℕ) (a b : List ℕ) → take n a ≡ take n b → before a b ≡ before (drop n a) (drop n b)
unfolding before
before-past zero a b e = refl
before-past (suc n) [] [] e = refl
before-past (suc n) [] (y ∷ b) e = let z : ◌≡◌ {A = ℕ} 0 1 = cc in absurd (omega arith)
before-past (suc n) (x ∷ a) [] e = let z : ◌≡◌ {A = ℕ} 0 1 = cc in absurd (omega arith)
before-past (suc n) (x ∷ a) (y ∷ b) e =
    let p : x ≡ y = cc in
    let q : take n a ≡ take n b = cc in
    pick_true _ _ _ (eq-eqb x y p) ∙ before-past n a b q

-- octets that begin alike, and one of each after that
module _ (a b : List ℕ) (i : ℕ) (front : take i a ≡ take i b) where
  pub octet-alike : i < length a → i < length b → get_or a i 0 ≡ get_or b i 0 → take (i + 1) a ≡ take (i + 1) b
  octet-alike h k e = rw (add-one, take-suc a i 0 h, take-suc b i 0 k, front, e)

  pub octet-decides : i < length a → i < length b → (get_or a i 0 ≡ get_or b i 0 → ⊥) → ltb (get_or a i 0) (get_or b i 0) ≡ before a b
  unfolding before
  octet-decides h k d = sym (before-past i a b front ∙ rw (drop-cons a i 0 h, drop-cons b i 0 k) (pick-false _ _ _ (ne_eqb _ _ d)))

  pub alike-whole : length a ≤ i → length b ≤ i → true ≡ same a b
  alike-whole h k = sym (same-of-equal a b (sym (take_all i a h) ∙ front ∙ take_all i b k))

pub octet-other : (a b : List ℕ) (i : ℕ) → (get_or a i 0 ≡ get_or b i 0 → ⊥) → false ≡ same a b
octet-other a b i d = sym (unequal-other a b (λ e. d (ap (λ (s : List ℕ). get_or s i 0) e)))

-- lists of one length that differ decide, whatever follows them
before-first : (xs ys p q : List ℕ) → length xs ≡ length ys → (xs ≡ ys → ⊥) → before (xs ++ p) (ys ++ q) ≡ before xs ys
unfolding before
before-first [] [] p q h n = absurd (n refl)
before-first [] (y ∷ ys) p q h n = absurd (omega arith)
before-first (x ∷ xs) [] p q h n = absurd (omega arith)
before-first (x ∷ xs) (y ∷ ys) p q h n =
    tested (eqb x y)
    (λ t.
    let e : x ≡ y = eqb-true x y t in
    let k : length xs ≡ length ys = omega arith in
    rw (pick_true _ (before (xs ++ p) (ys ++ q)) (ltb x y) t, pick_true _ (before xs ys) (ltb x y) t)
    (before-first xs ys p q k (λ l. n (ap₂ (λ (a : ℕ) (l : List ℕ). a ∷ l) e l))))
    (λ f. rw (pick-false _ (before (xs ++ p) (ys ++ q)) (ltb x y) f, pick-false _ (before xs ys) (ltb x y) f))

-- octets come in the order of the numbers in them
number-lower : {xs : List ℕ} → AllOctets xs → (ys : List ℕ) (h k : ℕ) → length xs ≡ length ys → h < k → number_in xs h < number_in ys k
number-lower {xs} a ys h k l m = rw (number-high ys k, ← l) (omega (arith, number-below a h k m))

pub number-before : {xs ys : List ℕ} → AllOctets xs → AllOctets ys → (high : ℕ) → length xs ≡ length ys → ltb (number_in xs high) (number_in ys high) ≡ before xs ys
unfolding before number_in
number-before none none high l = le-ltb high high (omega arith)
number-before none (one p a) high l = absurd (omega arith)
number-before (one p a) none high l = absurd (omega arith)
number-before (one {x} {xs} p a) (one {x = y} {xs = ys} q b) high l =
    let k : length xs ≡ length ys = omega arith in
    tested (eqb x y)
    (λ t.
    let e : x ≡ y = eqb-true x y t in
    rw (pick_true _ (before xs ys) (ltb x y) t, ← e) (number-before a b (high * 256 + x) k))
    (λ f.
    rw (pick-false _ (before xs ys) (ltb x y) f)
    (tested (ltb x y)
    (λ t. lt-ltb _ _ (number-lower a ys (high * 256 + x) (high * 256 + y) k (omega (arith, ltb-true x y t))) ∙ sym t)
    (λ g. le-ltb _ _ (le_of_lt (number-lower b xs (high * 256 + y) (high * 256 + x) (sym k) (below x y (eqb-false x y f) (ltb-false x y g) high))) ∙ sym g)))
  where
    below : (x y : ℕ) → (x ≡ y → ⊥) → y ≤ x → (high : ℕ) → high * 256 + y < high * 256 + x
    below x y n l high = omega arith

-- octets that begin alike, and n of each after that
module _ (a b : List ℕ) (i n : ℕ) (front : take i a ≡ take i b) where
  parts-go-on : part a i n ≡ part b i n → take (i + n) a ≡ take (i + n) b
  parts-go-on e = take-then a i n ∙ ap₂ (λ (p q : List ℕ). p ++ q) front e ∙ sym (take-then b i n)

  pub parts-decide : AllOctets a → AllOctets b → i + n ≤ length a → i + n ≤ length b → (x y : ℕ) → x ≡ number_in (part a i n) 0 → y ≡ number_in (part b i n) 0
      → (part a i n ≡ part b i n → ⊥) → ltb x y ≡ before a b
  unfolding part
  parts-decide each-a each-b fits-a fits-b x y in-a in_b d =
      let l : length (part a i n) ≡ length (part b i n) = length_part a i n fits-a ∙ sym (length_part b i n fits-b) in
      rw (in-a, in_b)
      (number-before (octets-part i n each-a) (octets-part i n each-b) 0 l
      ∙ sym (before-first (part a i n) (part b i n) (drop n (drop i a)) (drop n (drop i b)) l d)
      ∙ ap₂ before (take-append-drop n (drop i a)) (take-append-drop n (drop i b))
      ∙ sym (before-past i a b front))

-- numbers that n octets of each stand for
module _ (number : List ℕ → ℕ) (a b : List ℕ) (i n x y : ℕ) (in-a : x ≡ number (part a i n)) (in_b : y ≡ number (part b i n)) where
  pub parts-differ : (x ≡ y → ⊥) → part a i n ≡ part b i n → ⊥
  parts-differ d e = d (in-a ∙ ap number e ∙ sym in_b)

  pub parts-other : (x ≡ y → ⊥) → false ≡ same a b
  parts-other d = sym (unequal-other a b (λ e. parts-differ d (ap (λ (s : List ℕ). part s i n) e)))

  -- where octets are told by their numbers
  module _ (told : number (part a i n) ≡ number (part b i n) → part a i n ≡ part b i n) (front : take i a ≡ take i b) where
    pub parts-alike : x ≡ y → take (i + n) a ≡ take (i + n) b
    parts-alike e = parts-go-on a b i n front (told (sym in-a ∙ e ∙ in_b))

    pub parts-end : length a ≡ i + n → length b ≡ i + n → eqb x y ≡ same a b
    parts-end h k =
        tested (eqb x y)
        (λ t. t ∙ alike-whole a b (i + n) (parts-alike (eqb-true x y t)) (omega arith) (omega arith))
        (λ f. f ∙ parts-other (eqb-false x y f))

-- lists that begin alike begin alike before that too
pub alike-before : (a b : List ℕ) (i j : ℕ) → i ≤ j → take j a ≡ take j b → take i a ≡ take i b
alike-before a b i j h e = sym (take-take i j a h) ∙ ap (take i) e ∙ take-take i j b h

-- lists that are alike as far as the shorter goes
pub lengths-decide : (a b : List ℕ) (n : ℕ) → n ≡ min (length a) (length b) → take n a ≡ take n b → (r : Bool) → r ≡ ltb (length a) (length b) → r ≡ before a b
lengths-decide a b n h e r q =
    q
    ∙ sym
    (before-past n a b e
    ∙ tested (ltb (length a) (length b))
    (λ t.
    let l : length a < length b = ltb-true _ _ t in
    rw (drop_of_length-le a {i = n} (omega arith), t) (before-none (drop n b) (simp length-drop (omega arith))))
    (λ f.
    let l : length b ≤ length a = ltb-false _ _ f in
    rw (drop_of_length-le b {i = n} (omega arith), f) (none_after (drop n a))))

-- octets of one size that begin alike: the last n of each decide, whether or not they differ
pub parts_last : (a b : List ℕ) (i n : ℕ) → take i a ≡ take i b → AllOctets a → AllOctets b → length a ≡ i + n → length b ≡ i + n
    → (x y : ℕ) → x ≡ number_in (part a i n) 0 → y ≡ number_in (part b i n) 0 → ltb x y ≡ before a b
parts_last a b i n front each-a each-b la lb x y in-a in_b =
    let number : List ℕ → ℕ = λ s. number_in s 0 in
    let fits-a : i + n ≤ length a = omega arith in
    let fits-b : i + n ≤ length b = omega arith in
    tested (eqb x y)
    (λ t.
    let e : x ≡ y = eqb-true x y t in
    let alike : take (i + n) a ≡ take (i + n) b = parts-alike number a b i n x y in-a in_b (same_number each-a each-b i n fits-a fits-b) front e in
    let same : a ≡ b = sym (take_all (i + n) a (omega arith)) ∙ alike ∙ take_all (i + n) b (omega arith) in
    le-ltb x y (omega arith) ∙ sym (ap (λ (s : List ℕ). before s b) same ∙ before-itself b))
    (λ f. parts-decide a b i n front each-a each-b fits-a fits-b x y in-a in_b (parts-differ number a b i n x y in-a in_b (eqb-false x y f)))
