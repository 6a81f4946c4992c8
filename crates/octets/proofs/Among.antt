-- Laws of `Among`, `PutIn`, `Rearranged` and `Once`.
use Prim.Native.Nat.{ℕ, zero, suc, ◌≤◌, ◌<◌}
use mathlib.Core.Path.{◌≡◌, refl, sym, ap, subst}
use mathlib.Core.List.{List, [], ◌∷◌, ◌++◌}
use mathlib.Core.Logic.{◌⊎◌, inl, inr, ⊎_elim}
use native.Mathlib.Omega.{arith}
use lib.ListN.{length, get_or}
use Rattle.octets.specs.Lists.{Among, first, later, PutIn, front, behind, Rearranged, Once, one}

module _ {A : Type 0} where
  pub among_none : {x : A} → Among x [] → ⊥
  among_none m = elim m [ ]

  pub among-left : {x : A} {xs : List A} (ys : List A) → Among x xs → Among x (xs ++ ys)
  among-left ys (first e) = first e
  among-left ys (later m) = later (among-left ys m)

  pub among-right : {x : A} (xs : List A) {ys : List A} → Among x ys → Among x (xs ++ ys)
  among-right [] m = m
  among-right (y ∷ xs) m = later (among-right xs m)

  pub among_cases : {x y : A} {ys : List A} → Among x (y ∷ ys) → (x ≡ y) ⊎ Among x ys
  among_cases (first e) = inl e
  among_cases (later m) = inr m

  pub among-either : {x : A} (xs : List A) {ys : List A} → Among x (xs ++ ys) → Among x xs ⊎ Among x ys
  among-either [] m = inr m
  among-either (y ∷ xs) m = ⊎_elim (λ e. inl (first e)) (λ a. ⊎_elim (λ b. inl (later b)) (λ b. inr b) (among-either xs a)) (among_cases m)

  pub among-behind : {x y : A} {xs ys : List A} → (Among x xs → Among x ys) → Among x (y ∷ xs) → Among x (y ∷ ys)
  among-behind h (first e) = first e
  among-behind h (later m) = later (h m)

  among-as : {x y : A} {xs : List A} → x ≡ y → Among x xs → Among y xs
  among-as {xs = xs} e m = subst (λ z. Among z xs) e m

  -- what holds of an element and of those behind it, of all but the last and of the last
  pub among-each : (P : A → Type 0) {x : A} {xs : List A} → P x → ((y : A) → Among y xs → P y) → (y : A) → Among y (x ∷ xs) → P y
  among-each P p h y (first e) = subst P (sym e) p
  among-each P p h y (later m) = h y m

  pub among-each-last : (P : A → Type 0) {x : A} (xs : List A) → ((y : A) → Among y xs → P y) → P x → (y : A) → Among y (xs ++ (x ∷ [])) → P y
  among-each-last P xs h p y m = ⊎_elim (h y) (among-each P p (λ z n. absurd (among_none n)) y) (among-either xs m)

  -- an element by its index; what stands for a missing one does not matter
  pub among-index : (missing : A) {x : A} {xs : List A} → Among x xs → (i : ℕ) × (i < length xs) × (get_or xs i missing ≡ x)
  among-index missing (first e) = (0, omega arith, sym e)
  among-index missing (later m) = let p = among-index missing m in let h = p.1 in (suc p.0, omega arith, p.2)

  pub index-among : (missing : A) (xs : List A) (i : ℕ) → i < length xs → Among (get_or xs i missing) xs
  index-among missing [] i h = absurd (omega arith)
  index-among missing (x ∷ xs) zero h = first refl
  index-among missing (x ∷ xs) (suc i) h = later (index-among missing xs i (omega arith))

  -- an element that is put in

  put-among : {x : A} {ys : List A} → Among x ys → (zs : List A) × PutIn x zs ys
  put-among (first {y} {ys} e) = (ys, rw e front)
  put-among (later {y} m) = let p = put-among m in (y ∷ p.0, behind p.1)

  put_other : {x z : A} {zs ys : List A} → PutIn x zs ys → Among z ys → (z ≡ x) ⊎ Among z zs
  put_other front m = among_cases m
  put_other (behind p) (first e) = inr (first e)
  put_other (behind p) (later m) = ⊎_elim (λ e. inl e) (λ a. inr (later a)) (put_other p m)

  put-itself : {x : A} {zs ys : List A} → PutIn x zs ys → Among x ys
  put-itself front = first refl
  put-itself (behind p) = later (put-itself p)

  put-kept : {x z : A} {zs ys : List A} → PutIn x zs ys → Among z zs → Among z ys
  put-kept front m = later m
  put-kept (behind p) m = among-behind (put-kept p) m

  put-length : {x : A} {zs ys : List A} → PutIn x zs ys → length ys ≡ suc (length zs)
  put-length front = refl
  put-length (behind p) = ap suc (put-length p)

  pub rearranged-itself : (xs : List A) → Rearranged xs xs
  rearranged-itself [] = Rearranged.none
  rearranged-itself (x ∷ xs) = Rearranged.one front (rearranged-itself xs)

  pub rearranged-among : {x : A} {xs ys : List A} → Rearranged xs ys → Among x xs → Among x ys
  rearranged-among Rearranged.none m = elim m [ ]
  rearranged-among (Rearranged.one p r) (first e) = rw e (put-itself p)
  rearranged-among (Rearranged.one p r) (later m) = put-kept p (rearranged-among r m)

  pub among-rearranged : {x : A} {xs ys : List A} → Rearranged xs ys → Among x ys → Among x xs
  among-rearranged Rearranged.none m = m
  among-rearranged (Rearranged.one p r) m = ⊎_elim (λ e. first e) (λ a. later (among-rearranged r a)) (put_other p m)

  once-put : {x : A} {ys zs : List A} → PutIn x ys zs → (Among x ys → ⊥) → Once ys → Once zs
  once-put front n o = one n o
  once-put (behind p) n (Once.one k o) = one (λ m. ⊎_elim (λ e. n (first (sym e))) k (put_other p m)) (once-put p (λ m. n (later m)) o)

  pub once-rearranged : {xs ys : List A} → Rearranged xs ys → Once xs → Once ys
  once-rearranged Rearranged.none o = o
  once-rearranged (Rearranged.one p r) (Once.one n o) = once-put p (λ m. n (among-rearranged r m)) (once-rearranged r o)

  -- a list with no element twice is no longer than one that has all of its elements
  pub once-fewer : {xs : List A} (ys : List A) → Once xs → ((x : A) → Among x xs → Among x ys) → length xs ≤ length ys
  once-fewer ys Once.none h = omega arith
  once-fewer ys (Once.one {x} {xs} n o) h =
      let p = put-among (h x (first refl)) in
      let fewer : length xs ≤ length p.0 = once-fewer p.0 o (λ z m. ⊎_elim (λ e. absurd (n (among-as e m))) (λ a. a) (put_other p.1 (h z (later m)))) in
      rw (put-length p.1) (omega arith)
