-- Laws of `chosen`.
use mathlib.Core.Path.{◌≡◌, refl, sym, ap, ◌∙◌}
use mathlib.Core.Bool.{Bool, true, false}
use mathlib.Core.List.{List, [], ◌∷◌, ◌++◌}
use Rattle.octets.specs.Choice.{pick}
use Rattle.octets.specs.Lists.{Among, first, later, PutIn, front, behind, Rearranged, chosen}
use Rattle.octets.proofs.Choice.{pick_true, pick-false, pick-case, tested, is_false}
use Rattle.octets.proofs.Among.{among_none, among-behind, among-each}

module _ {A : Type 0} (test : A → Bool) where
  pub chosen-first : (x : A) (xs : List A) → test x ≡ true → chosen test (x ∷ xs) ≡ x ∷ chosen test xs
  unfolding chosen
  chosen-first x xs t = pick_true _ _ _ t

  pub chosen-later : (x : A) (xs : List A) → test x ≡ false → chosen test (x ∷ xs) ≡ chosen test xs
  unfolding chosen
  chosen-later x xs f = pick-false _ _ _ f

  pub chosen-append : (xs ys : List A) → chosen test (xs ++ ys) ≡ chosen test xs ++ chosen test ys
  unfolding chosen
  chosen-append [] ys = refl
  chosen-append (x ∷ xs) ys = rw (chosen-append xs ys) (pick-case (λ (l : List A). pick (test x) (x ∷ (chosen test xs ++ chosen test ys)) (chosen test xs ++ chosen test ys) ≡ l ++ chosen test ys) (test x) _ _ (λ t. pick_true _ _ _ t) (λ f. pick-false _ _ _ f))

  pub chosen-among : {x : A} (xs : List A) → Among x (chosen test xs) → Among x xs
  unfolding chosen
  chosen-among [] m = m
  chosen-among {x} (y ∷ ys) m = pick-case (λ (l : List A). Among x l → Among x (y ∷ ys)) (test y) _ _ (λ t. among-behind (chosen-among ys)) (λ f n. later (chosen-among ys n)) m

  -- what is chosen passes the test
  pub chosen-passes : {x : A} (xs : List A) → Among x (chosen test xs) → test x ≡ true
  unfolding chosen
  chosen-passes [] m = absurd (among_none m)
  chosen-passes {x} (y ∷ ys) m =
      pick-case (λ (l : List A). Among x l → test x ≡ true) (test y) _ _ (λ t. among-each (λ z. test z ≡ true) t (λ z n. chosen-passes {x = z} ys n) x) (λ f n. chosen-passes {x = x} ys n) m

  -- all, or none
  pub chosen-all : (xs : List A) → ((x : A) → Among x xs → test x ≡ true) → chosen test xs ≡ xs
  unfolding chosen
  chosen-all [] h = refl
  chosen-all (x ∷ xs) h = chosen-first x xs (h x (first refl)) ∙ ap (λ (l : List A). x ∷ l) (chosen-all xs (λ y m. h y (later m)))

  pub chosen_none : (xs : List A) → ((x : A) → Among x xs → test x ≡ true → ⊥) → chosen test xs ≡ []
  unfolding chosen
  chosen_none [] h = refl
  chosen_none (x ∷ xs) h = chosen-later x xs (is_false _ (h x (first refl))) ∙ chosen_none xs (λ y m. h y (later m))

module _ {A : Type 0} (test : A → Bool) where
  -- what was put in among those chosen was put in, and no other choice has it
  pub record Back (x : A) (zs ys : List A) : Type 0 where
    pub rest : List A
    pub put : PutIn x rest ys
    pub same : chosen test rest ≡ zs
    pub others : (other : A → Bool) → other x ≡ false → chosen other rest ≡ chosen other ys

  back-behind : {x : A} {zs ys : List A} (y : A) (b : Back x zs ys) (us : List A) → chosen test (y ∷ b.rest) ≡ us → Back x us (y ∷ ys)
  unfolding chosen
  back-behind y b us e =
      record { rest = y ∷ b.rest; put = behind b.put; same = e; others = λ other f. ap (λ (l : List A). pick (other y) (y ∷ l) l) (b.others other f) }

  back-first : {x y : A} {zs ws : List A} (ys : List A) → PutIn x zs (y ∷ ws) → chosen test ys ≡ ws → test y ≡ true → ((us : List A) → PutIn x us ws → Back x us ys) → Back x zs (y ∷ ys)
  back-first {x} ys front e t again = record { rest = ys; put = front; same = e; others = λ other f. sym (chosen-later other x ys f) }
  back-first ys (behind {y} {ys = us} p) e t again = let b = again us p in back-behind y b (y ∷ us) (chosen-first test y b.rest t ∙ ap (λ (l : List A). y ∷ l) b.same)

  pub put_back : {x : A} {zs : List A} (ys : List A) → PutIn x zs (chosen test ys) → Back x zs ys
  unfolding chosen
  put_back [] p = elim p [ ]
  put_back {x} {zs} (y ∷ ys) p =
      tested (test y)
      (λ t. back-first ys (rw (chosen-first test y ys t) at p) refl t (λ us q. put_back {x = x} {zs = us} ys q))
      (λ f. let b = put_back {x = x} {zs = zs} ys (rw (chosen-later test y ys f) at p) in back-behind y b zs (chosen-later test y b.rest f ∙ b.same))

  -- what is chosen of a list in another order
  chosen-put : {x : A} {ys zs : List A} → test x ≡ true → PutIn x ys zs → PutIn x (chosen test ys) (chosen test zs)
  chosen-put {x} {ys} t front = rw (chosen-first test x ys t) front
  chosen-put h (behind {y} {ys} {zs} p) =
      tested (test y)
      (λ t. rw (chosen-first test y ys t, chosen-first test y zs t) (behind (chosen-put h p)))
      (λ f. rw (chosen-later test y ys f, chosen-later test y zs f) (chosen-put h p))

  chosen-past : {x : A} {ys zs : List A} → test x ≡ false → PutIn x ys zs → chosen test ys ≡ chosen test zs
  unfolding chosen
  chosen-past {x} {ys} f front = sym (chosen-later test x ys f)
  chosen-past h (behind {y} p) = ap (λ (l : List A). pick (test y) (y ∷ l) l) (chosen-past h p)

  pub chosen-rearranged : {xs ys : List A} → Rearranged xs ys → Rearranged (chosen test xs) (chosen test ys)
  unfolding chosen
  chosen-rearranged Rearranged.none = Rearranged.none
  chosen-rearranged (Rearranged.one {x} {xs} p r) =
      tested (test x)
      (λ t. rw (chosen-first test x xs t) (Rearranged.one (chosen-put t p) (chosen-rearranged r)))
      (λ f. rw (chosen-later test x xs f, ← chosen-past f p) (chosen-rearranged r))
