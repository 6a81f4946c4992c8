-- The order of octets (specs/Rules/OrderRule.antt).
use Prim.Native.Nat.{ℕ, ◌<◌}
use mathlib.Core.Path.{◌≡◌, refl, sym, ap, ap₂, ◌∙◌}
use mathlib.Core.Bool.{true, false}
use mathlib.Core.List.{List, [], ◌∷◌, ◌++◌, append-nil}
use lib.ListN.{length}
use lib.Dec.{ltb, eqb}
use borrow.Author.Tests.{ltb-true, lt-ltb, eqb-true, eq-eqb, ne_eqb}
use native.Mathlib.Omega.{arith}
use Rattle.octets.specs.Octets.{AllOctets, number_in}
use Rattle.octets.specs.Order.{before}
use Rattle.octets.specs.Rules.OrderRule.{ComesBefore, ends, lower, OrderRule}
use Rattle.octets.proofs.Choice.{opposite, tested, pick_true, pick-false}
use Rattle.octets.proofs.Orders.{same-equal, same-of-equal, number-before}
use Rattle.octets.proofs.Zeros.{zero-at, zero-each}

-- one more octet in front of both
comes-before-more : {xs ys : List ℕ} (x y : ℕ) → x ≡ y → ComesBefore xs ys → ComesBefore (x ∷ xs) (y ∷ ys)
comes-before-more x y e (ends z zs p) = ends z zs (ap₂ (λ (a : ℕ) (l : List ℕ). a ∷ l) (sym e) p)
comes-before-more x y e (lower front u v us vs p q h) =
    lower (x ∷ front) u v us vs (ap (λ (l : List ℕ). x ∷ l) p) (ap₂ (λ (a : ℕ) (l : List ℕ). a ∷ l) (sym e) q) h

-- where the test holds
before-tested : (a b : List ℕ) → before a b ≡ true → ComesBefore a b
unfolding before
before-tested [] [] h = absurd (opposite {b = false} h refl)
before-tested [] (y ∷ ys) h = ends y ys refl
before-tested (x ∷ xs) [] h = absurd (opposite {b = false} h refl)
before-tested (x ∷ xs) (y ∷ ys) h =
    tested (eqb x y)
    (λ t. comes-before-more x y (eqb-true x y t) (before-tested xs ys (rw (pick_true _ (before xs ys) (ltb x y) t) at h)))
    (λ f. lower [] x y xs ys refl refl (ltb-true x y (rw (pick-false _ (before xs ys) (ltb x y) f) at h)))

-- a common front decides nothing
before-behind : (front a b : List ℕ) → before (front ++ a) (front ++ b) ≡ before a b
unfolding before
before-behind [] a b = refl
before-behind (x ∷ front) a b = pick_true _ _ _ (eq-eqb x x refl) ∙ before-behind front a b

-- where octets end, or are lower, the test holds
before-holds : {a b : List ℕ} → ComesBefore a b → before a b ≡ true
unfolding before
before-holds {a} {b} (ends y ys p) = ap₂ before (sym (append-nil a)) p ∙ before-behind a [] (y ∷ ys)
before-holds {a} {b} (lower front x y xs ys p q h) =
    rw (p, q, before-behind front (x ∷ xs) (y ∷ ys)) (pick-false _ _ _ (ne_eqb x y (λ e. omega arith)) ∙ lt-ltb x y h)

-- octets of one size: the order of their numbers
module _ (a b : List ℕ) (each-a : AllOctets a) (each-b : AllOctets b) (sized : length a ≡ length b) where
  before-number : before a b ≡ true → number_in a 0 < number_in b 0
  before-number h = ltb-true _ _ (number-before each-a each-b 0 sized ∙ h)

  before-of-number : number_in a 0 < number_in b 0 → before a b ≡ true
  before-of-number h = sym (number-before each-a each-b 0 sized) ∙ lt-ltb _ _ h

pub order_rule : OrderRule
order_rule =
    record {
      equal = λ a b. (same-equal a b, same-of-equal a b);
      order = λ a b. (before-tested a b, before-holds);
      numbers = λ a b each-a each-b sized. (before-number a b each-a each-b sized, before-of-number a b each-a each-b sized);
      zeros = λ s. (zero-at s, zero-each s);
    }
