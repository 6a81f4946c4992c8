-- Refusals in their order: a step's number is DONE exactly when what it asks holds.
use Prim.Native.Nat.{ℕ}
use mathlib.Core.Path.{◌≡◌, refl, sym, ◌∙◌}
use mathlib.Core.Bool.{Bool, true, false}
use mathlib.Core.Logic.{◌↔◌, ◌⊎◌, ◌≢◌, inl, inr, ⊎_elim}
use borrow.Author.Tests.{eqb-true, eqb-false, eq-eqb, ne_eqb}
use Rattle.octets.specs.Numbers.{DONE}
use Rattle.octets.specs.Choice.{pick}
use Rattle.octets.proofs.Choice.{opposite, picked, pick_true, pick-false}
use Rattle.plan.specs.Refusing.{or_next}

-- Refusals in their order: a step's number is DONE exactly when what it asks holds, and any other exactly for a reason.
pub record Step (m : ℕ) (P : Type 0) (R : ℕ → Type 0) : Type 0 where
  pub done : (m ≡ DONE) ↔ P
  pub fault : (k : ℕ) → k ≢ DONE → (m ≡ k) ↔ R k

pub next-is : (m n k : ℕ) → or_next m n ≡ k → ((m ≡ k) × (m ≢ DONE)) ⊎ ((m ≡ DONE) × (n ≡ k))
unfolding or_next
next-is m n k h = ⊎_elim (λ a. inr (eqb-true _ _ a.0, a.1)) (λ a. inl (a.1, eqb-false _ _ a.0)) (picked _ _ _ _ h)

pub stays : (m n k : ℕ) → k ≢ DONE → m ≡ k → or_next m n ≡ k
unfolding or_next
stays m n k d h = pick-false _ _ _ (ne_eqb _ _ (λ e. d (sym h ∙ e))) ∙ h

pub goes_on : (m n k : ℕ) → m ≡ DONE → n ≡ k → or_next m n ≡ k
unfolding or_next
goes_on m n k d h = pick_true _ _ _ (eq-eqb _ _ d) ∙ h

pub next-done : (m n : ℕ) → (or_next m n ≡ DONE) ↔ ((m ≡ DONE) × (n ≡ DONE))
next-done m n = (λ h. ⊎_elim (λ a. absurd (a.1 a.0)) (λ a. a) (next-is m n DONE h), λ h. goes_on m n DONE h.0 h.1)

module _ {m n : ℕ} {P Q : Type 0} {R S : ℕ → Type 0} where
  pub step-next : Step m P R → (P → Step n Q S) → Step (or_next m n) (P × Q) (λ k. R k ⊎ (P × S k))
  step-next s t =
      record {
        done = (
          λ h. let a = (next-done m n).0 h in let p = s.done.0 a.0 in (p, (t p).done.0 a.1),
          λ x. goes_on m n DONE (s.done.1 x.0) ((t x.0).done.1 x.1),
        );
        fault = λ k d. (
          λ h. ⊎_elim (λ a. inl ((s.fault k d).0 a.0)) (λ a. let p = s.done.0 a.0 in inr (p, ((t p).fault k d).0 a.1)) (next-is m n k h),
          λ x. ⊎_elim (λ r. stays m n k d ((s.fault k d).1 r)) (λ y. goes_on m n k (s.done.1 y.0) (((t y.0).fault k d).1 y.1)) x,
        );
      }

pub step-one : (m k : ℕ) (P : Type 0) → (m ≡ DONE) ↔ P → (m ≢ DONE → m ≡ k) → Step m P (λ n. (n ≡ k) × (P → ⊥))
step-one m k P done h =
    record {
      done = done;
      fault = λ n d. (λ e. (sym e ∙ h (λ z. d (sym e ∙ z)), λ p. d (sym e ∙ done.1 p)), λ x. h (λ z. x.1 (done.0 z)) ∙ sym x.0);
    }

pub step-as : {m : ℕ} {P Q : Type 0} {R S : ℕ → Type 0} → Step m P R → P ↔ Q → ((k : ℕ) → R k ↔ S k) → Step m Q S
step-as s p r =
    record {
      done = (λ e. p.0 (s.done.0 e), λ q. s.done.1 (p.1 q));
      fault = λ k d. (λ e. (r k).0 ((s.fault k d).0 e), λ x. (s.fault k d).1 ((r k).1 x));
    }

pub pick-done : (b : Bool) (n : ℕ) → n ≢ DONE → (pick b n DONE ≡ DONE) ↔ (b ≡ false)
unfolding pick
pick-done true n d = (λ h. absurd (d h), λ h. absurd (opposite {b = true} refl h))
pick-done false n d = (λ h. refl, λ h. refl)

pub done-pick : (b : Bool) (n : ℕ) → n ≢ DONE → (pick b DONE n ≡ DONE) ↔ (b ≡ true)
unfolding pick
done-pick true n d = (λ h. refl, λ h. refl)
done-pick false n d = (λ h. absurd (d h), λ h. absurd (opposite {b = true} refl (sym h)))

pub pick-number : (b : Bool) (k : ℕ) → pick b DONE k ≢ DONE → pick b DONE k ≡ k
unfolding pick
pick-number true k d = absurd (d refl)
pick-number false k d = refl

pub number-pick : (b : Bool) (k : ℕ) → pick b k DONE ≢ DONE → pick b k DONE ≡ k
unfolding pick
number-pick true k d = refl
number-pick false k d = absurd (d refl)
