-- Routes with one more behind them: what they hold, and what `arranged` makes of them.
use Prim.Native.Nat.{ℕ, suc, ◌≤◌}
use mathlib.Core.Path.{◌≡◌, refl, sym, ap, ◌∙◌}
use mathlib.Core.Bool.{true, false}
use mathlib.Core.Logic.{⊎_elim}
use mathlib.Core.List.{List, [], ◌∷◌, ◌++◌}
use native.Mathlib.Omega.{arith}
use lib.ListN.{length}
use Rattle.octets.specs.Order.{before}
use Rattle.octets.proofs.Choice.{opposite, pick-case}
use Rattle.octets.proofs.Orders.{same-of-equal}
use Rattle.routes.specs.Route.{Route, nlri_of, held, absent, lookup, holds, inserted, arranged, Increasing}
use Rattle.routes.specs.Place.{acceptable, AllAcceptable, none, one}
use Rattle.routes.proofs.Definitions.Lookups.{held-absent, held-or-absent, lookup-none, lookup-own, lookup_first, lookup-later, lookup-behind, lookup-cases, lookup-inserted, lookup-arranged, holds-absent, absent-holds}
use Rattle.routes.proofs.Definitions.Increases.{increasing-equal, increasing-inserted}

-- what they hold

pub lookup-front : (n : List ℕ) (xs ys : List Route) (q : Route) → lookup n xs ≡ held q → lookup n (xs ++ ys) ≡ held q
lookup-front n [] ys q h = absurd (held-absent h (lookup-none n))
lookup-front n (x ∷ xs) ys q h =
    lookup-cases n x xs (λ t e. lookup_first n x (xs ++ ys) (same-of-equal n (nlri_of x) t) ∙ sym e ∙ h)
    (λ f e. lookup-later n x (xs ++ ys) f ∙ lookup-front n xs ys q (sym e ∙ h))

pub lookup-past : (n : List ℕ) (xs ys : List Route) → lookup n xs ≡ absent → lookup n (xs ++ ys) ≡ lookup n ys
lookup-past n [] ys h = refl
lookup-past n (x ∷ xs) ys h =
    lookup-cases n x xs (λ t e. absurd (held-absent e h)) (λ f e. lookup-later n x (xs ++ ys) f ∙ lookup-past n xs ys (sym e ∙ h))

lookup-other : (n : List ℕ) (xs : List Route) (r : Route) → (lookup n xs ≡ absent → lookup n (r ∷ []) ≡ absent) → lookup n (xs ++ (r ∷ [])) ≡ lookup n xs
lookup-other n xs r h =
    ⊎_elim (λ p. lookup-front n xs (r ∷ []) p.0 p.1 ∙ sym p.1) (λ a. lookup-past n xs (r ∷ []) a ∙ h a ∙ sym a) (held-or-absent n xs)

lookup-held : (n : List ℕ) (xs : List Route) (r : Route) → holds (nlri_of r) xs ≡ true → lookup n (xs ++ (r ∷ [])) ≡ lookup n xs
lookup-held n xs r h =
    lookup-other n xs r
    (λ a. lookup-cases n r [] (λ t e. absurd (opposite h (holds-absent (nlri_of r) xs (ap (λ (x : List ℕ). lookup x xs) (sym t) ∙ a)))) (λ f e. e ∙ lookup-none n))

lookup-new : (n : List ℕ) (xs : List Route) (r : Route) → lookup (nlri_of r) xs ≡ absent → lookup n (xs ++ (r ∷ [])) ≡ lookup n (r ∷ xs)
lookup-new n xs r h =
    lookup-cases n r xs
    (λ t e. ap (λ (x : List ℕ). lookup x (xs ++ (r ∷ []))) t ∙ lookup-past (nlri_of r) xs (r ∷ []) h ∙ lookup-own r [] ∙ sym e)
    (λ f e. lookup-other n xs r (λ a. lookup-later n r [] f ∙ lookup-none n) ∙ sym e)

-- in increasing order, the first of each NLRI

module _ (xs : List Route) (r : Route) (old : Increasing [] (arranged xs)) (new : Increasing [] (arranged (xs ++ (r ∷ [])))) where
  pub arranged-held : holds (nlri_of r) xs ≡ true → arranged (xs ++ (r ∷ [])) ≡ arranged xs
  arranged-held h = increasing-equal new old (λ n. lookup-arranged n (xs ++ (r ∷ [])) ∙ lookup-held n xs r h ∙ sym (lookup-arranged n xs))

  pub arranged-new : before [] (nlri_of r) ≡ true → holds (nlri_of r) xs ≡ false → arranged (xs ++ (r ∷ [])) ≡ inserted r (arranged xs)
  arranged-new b h =
      increasing-equal new (increasing-inserted r b old)
      (λ n. lookup-arranged n (xs ++ (r ∷ [])) ∙ lookup-new n xs r (absent-holds (nlri_of r) xs h)
      ∙ sym (lookup-inserted n r (arranged xs) ∙ lookup-behind n r (arranged xs) xs (lookup-arranged n xs)))

-- how many

length_inserted : (r : Route) (rs : List Route) → length (inserted r rs) ≤ suc (length rs)
unfolding inserted
length_inserted r [] = omega arith
length_inserted r (q ∷ rs) =
    pick-case (λ (l : List Route). length l ≤ suc (suc (length rs))) _ (r ∷ rs) _ (λ t. omega arith)
    (λ f. pick-case (λ (l : List Route). length l ≤ suc (suc (length rs))) _ (r ∷ (q ∷ rs)) (q ∷ inserted r rs) (λ t. omega arith) (λ g. let h = length_inserted r rs in omega arith))

pub length-arranged : (rs : List Route) → length (arranged rs) ≤ length rs
unfolding arranged
length-arranged [] = omega arith
length-arranged (r ∷ rs) = let h = length-arranged rs in let k = length_inserted r (arranged rs) in omega arith

-- all are acceptable
pub acceptable-last : {afi : ℕ} (r : Route) (xs : List Route) → AllAcceptable afi xs → acceptable afi r ≡ true → AllAcceptable afi (xs ++ (r ∷ []))
acceptable-last r [] a h = one h none
acceptable-last r (x ∷ xs) (one k a) h = one k (acceptable-last r xs a h)
