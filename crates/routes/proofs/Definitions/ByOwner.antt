-- Lists whose elements have owners: two that agree on each router's own, in order, and on nobody's, in any order, have the same elements.
use Prim.Native.Nat.{ℕ}
use mathlib.Core.Path.{◌≡◌, refl, sym, subst, ◌∙◌}
use mathlib.Core.Bool.{true, false}
use mathlib.Core.List.{List, [], ◌∷◌}
use native.Mathlib.Omega.{arith}
use Rattle.octets.proofs.Choice.{opposite, tested}
use Rattle.octets.specs.Lists.{PutIn, front, Rearranged, none, one, chosen}
use Rattle.routes.specs.Call.{Owner, nobody, owner, owned_by, is_nobody}
use Rattle.routes.proofs.Definitions.Ownership.{owned-itself, owned-nobody, owned-by, owners-same}
use Rattle.octets.proofs.Chosen.{chosen-first, chosen-later, put_back}

occupied : {A : Type 0} {x : A} {xs : List A} → x ∷ xs ≡ [] → ⊥
occupied e = let z : ◌≡◌ {A = ℕ} 0 1 = cc in omega arith

rearranged-none : {A : Type 0} {ys : List A} → Rearranged [] ys → ys ≡ []
rearranged-none none = refl

rearranged-first : {A : Type 0} {x : A} {xs ys : List A} → Rearranged (x ∷ xs) ys → (zs : List A) × PutIn x zs ys × Rearranged xs zs
rearranged-first (one {ys = zs} p r) = (zs, p, r)

nobody-is : (w : Owner) → w ≡ nobody → is_nobody w ≡ true
unfolding is_nobody
nobody-is w e = rw e

pub is-nobody : (w : Owner) → is_nobody w ≡ true → w ≡ nobody
unfolding is_nobody
is-nobody nobody h = refl
is-nobody (owner router) h = absurd (opposite {b = false} h refl)

owner-is : {router : List ℕ} (w : Owner) → w ≡ owner router → is_nobody w ≡ false
unfolding is_nobody
owner-is w e = rw e

module _ {A : Type 0} (of : A → Owner) where
  abbrev own : List ℕ → List A → List A
  own router xs = chosen (λ x. owned_by router (of x)) xs

  abbrev nobodys : List A → List A
  nobodys xs = chosen (λ x. is_nobody (of x)) xs

  none_left : (ys : List A) → ((router : List ℕ) → own router ys ≡ []) → nobodys ys ≡ [] → ys ≡ []
  none_left [] h n = refl
  none_left (y ∷ ys) h n = absurd (go (of y) refl)
    where
      go : (w : Owner) → of y ≡ w → ⊥
      go nobody e = occupied (sym (chosen-first _ y ys (nobody-is (of y) e)) ∙ n)
      go (owner router) e = occupied (sym (chosen-first _ y ys (owned-itself router (of y) e)) ∙ h router)

  pub by-owner : (xs ys : List A) → ((router : List ℕ) → own router xs ≡ own router ys) → Rearranged (nobodys xs) (nobodys ys) → Rearranged xs ys
  unfolding chosen
  by-owner [] ys h n = subst (λ (l : List A). Rearranged [] l) (sym (none_left ys (λ router. sym (h router)) (rearranged-none n))) none
  by-owner (x ∷ xs) ys h n = go (of x) refl (by-owner xs)
    where
      go : (w : Owner) → of x ≡ w → ((zs : List A) → ((router : List ℕ) → own router xs ≡ own router zs) → Rearranged (nobodys xs) (nobodys zs) → Rearranged xs zs) → Rearranged (x ∷ xs) ys
      go nobody e again =
          let p = rearranged-first (subst (λ (l : List A). Rearranged l (nobodys ys)) (chosen-first _ x xs (nobody-is (of x) e)) n) in
          let b = put_back _ ys p.1 in
          let foreign : (router : List ℕ) → owned_by router (of x) ≡ false = λ router. owned-nobody router (of x) e in
          one b.put
          (again b.rest (λ router. sym (chosen-later _ x xs (foreign router)) ∙ h router ∙ sym (b.others _ (foreign router)))
          (subst (λ (l : List A). Rearranged (nobodys xs) l) (sym b.same) p.2))
      go (owner router) e again =
          let mine : own router ys ≡ x ∷ own router xs = sym (h router) ∙ chosen-first _ x xs (owned-itself router (of x) e) in
          let b = put_back _ ys (subst (λ (l : List A). PutIn x (own router xs) l) (sym mine) front) in
          let not = owner-is (of x) e in
          one b.put
          (again b.rest
          (λ other.
          tested (owned_by other (of x))
          (λ t. subst (λ (r : List ℕ). own r xs ≡ own r b.rest) (owners-same e (owned-by other (of x) t)) (sym b.same))
          (λ f. sym (chosen-later _ x xs f) ∙ h other ∙ sym (b.others _ f)))
          (subst (λ (l : List A). Rearranged (nobodys xs) l) (sym (b.others _ not)) (subst (λ (l : List A). Rearranged l (nobodys ys)) (chosen-later _ x xs not) n)))
