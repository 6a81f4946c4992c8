-- Laws of outcomes: of `given` and `refused`, `and_then`, `on_outcome` and `number_of`, and of values and refusals behind tests.
use mathlib.Core.Path.{◌≡◌, refl, sym, subst, ap}
use mathlib.Core.Bool.{Bool, true, false}
use mathlib.Core.Logic.{◌⊎◌, inl, inr, ⊎_elim}
use Prim.Native.Nat.{ℕ}
use native.Mathlib.Omega.{arith}
use Rattle.octets.specs.Numbers.{DONE}
use Rattle.octets.specs.Choice.{pick}
use Rattle.octets.specs.Outcome.{Outcome, given, refused, on_outcome, and_then, number_of}
use Rattle.octets.proofs.Choice.{picked}

pub never : {A : Type 0} {a : A} {n : ℕ} {o : Outcome A} → o ≡ given a → o ≡ refused n → ⊥
never p q = let z : ◌≡◌ {A = ℕ} 0 1 = cc in omega arith

pub given-same : {A : Type 0} {a b : A} → given a ≡ given b → a ≡ b
given-same p = cc

pub refused-same : {A : Type 0} {m n : ℕ} → ◌≡◌ {A = Outcome A} (refused m) (refused n) → m ≡ n
refused-same p = cc

-- a value, or a refusal
pub outcome : {A : Type 0} (o : Outcome A) → ((a : A) × (o ≡ given a)) ⊎ ((n : ℕ) × (o ≡ refused n))
outcome (given a) = inl (a, refl)
outcome (refused n) = inr (n, refl)

-- a value behind a test that refuses
pub given-otherwise : {A : Type 0} (k : ℕ) (b : Bool) (y : Outcome A) (a : A) → pick b (refused k) y ≡ given a → (b ≡ false) × (y ≡ given a)
unfolding pick
given-otherwise k true y a e = absurd (never e refl)
given-otherwise k false y a e = (refl, e)

-- a value under a test that must hold
pub given-unless : {A : Type 0} (k : ℕ) (b : Bool) (x : Outcome A) (a : A) → pick b x (refused k) ≡ given a → (b ≡ true) × (x ≡ given a)
unfolding pick
given-unless k true x a e = (refl, e)
given-unless k false x a e = absurd (never e refl)

-- a refusal under a test that refuses, or else gives
pub refuses-where : {A : Type 0} (k n : ℕ) (b : Bool) (a : A) → pick b (refused k) (given a) ≡ refused n → (b ≡ true) × (n ≡ k)
refuses-where {A} k n b a e = ⊎_elim (λ yes. (yes.0, sym (refused-same {A = A} yes.1))) (λ no. absurd (never refl no.1)) (picked _ _ _ _ e)

-- a refusal where a test that must hold fails
pub refuses-unless : {A : Type 0} (k n : ℕ) (b : Bool) (a : A) → pick b (given a) (refused k) ≡ refused n → (b ≡ false) × (n ≡ k)
refuses-unless {A} k n b a e = ⊎_elim (λ yes. absurd (never refl yes.1)) (λ no. (no.0, sym (refused-same {A = A} no.1))) (picked _ _ _ _ e)

pub and-given : {A B : Type 0} (a : A) (f : A → Outcome B) → and_then (given a) f ≡ f a
unfolding and_then
and-given a f = refl

pub and-refused : {A B : Type 0} (n : ℕ) (f : A → Outcome B) → and_then (refused n) f ≡ refused n
unfolding and_then
and-refused n f = refl

-- the same, with `and_then` where a contract has it
pub and-goes-on : {A B : Type 0} (r : Outcome B) (o : Outcome A) (a : A) (next : A → Outcome B) → o ≡ given a → r ≡ next a → r ≡ and_then o next
unfolding and_then
and-goes-on r o a next p q = rw p q

pub and-stops : {A B : Type 0} (o : Outcome A) (n : ℕ) (next : A → Outcome B) → o ≡ refused n → refused n ≡ and_then o next
unfolding and_then
and-stops o n next p = rw p

pub and_assoc : {A B C : Type 0} (o : Outcome A) (f : A → Outcome B) (g : B → Outcome C) → and_then (and_then o f) g ≡ and_then o (λ a. and_then (f a) g)
unfolding and_then
and_assoc (given a) f g = refl
and_assoc (refused n) f g = refl

pub and-cong : {A B : Type 0} (o : Outcome A) (f g : A → Outcome B) → ((a : A) → o ≡ given a → f a ≡ g a) → and_then o f ≡ and_then o g
unfolding and_then
and-cong (given a) f g h = h a refl
and-cong (refused n) f g h = refl

pub and-pick : {A B : Type 0} (b : Bool) (x y : Outcome A) (f : A → Outcome B) → and_then (pick b x y) f ≡ pick b (and_then x f) (and_then y f)
unfolding pick
and-pick true x y f = refl
and-pick false x y f = refl

-- what holds of the first refusal and of the next step holds of the whole
pub and-case : {A B : Type 0} (P : Outcome B → Type 0) (o : Outcome A) (next : A → Outcome B) → ((n : ℕ) → o ≡ refused n → P (refused n)) → ((a : A) → o ≡ given a → P (next a)) → P (and_then o next)
unfolding and_then
and-case P (given a) next p q = q a refl
and-case P (refused n) next p q = p n refl

-- a value of two steps: what the first gave, and that the second gave it of that
pub record Passed {A B : Type 0} (o : Outcome A) (next : A → Outcome B) (b : B) : Type 0 where
  pub value : A
  pub first : o ≡ given value
  pub second : next value ≡ given b

pub passed : {A B : Type 0} (o : Outcome A) (next : A → Outcome B) (b : B) → and_then o next ≡ given b → Passed o next b
unfolding and_then
passed (given a) next b e = record { value = a; first = refl; second = e }
passed (refused n) next b e = absurd (never e refl)

-- a refusal of two steps: the first refused, or it gave a value of which the second refused
pub record Later {A B : Type 0} (o : Outcome A) (next : A → Outcome B) (n : ℕ) : Type 0 where
  pub value : A
  pub first : o ≡ given value
  pub second : next value ≡ refused n

pub stopped : {A B : Type 0} (o : Outcome A) (next : A → Outcome B) (n : ℕ) → and_then o next ≡ refused n → (o ≡ refused n) ⊎ Later o next n
unfolding and_then
stopped (given a) next n e = inr (record { value = a; first = refl; second = e })
stopped {A} {B} (refused m) next n e = inl (let same : m ≡ n = refused-same {A = B} e in rw same)

-- two steps and then a value: what refuses does not depend on the value
pub refused-alike : {A B C D : Type 0} (o : Outcome A) (next : A → Outcome B) (f : A → B → C) (g : A → B → D) (n : ℕ)
    → and_then o (λ a. and_then (next a) (λ b. given (f a b))) ≡ refused n → and_then o (λ a. and_then (next a) (λ b. given (g a b))) ≡ refused n
unfolding and_then
refused-alike (refused m) next f g n e = cc
refused-alike {B = B} (given a) next f g n e = go (next a) e
  where
    go : (x : Outcome B) → and_then x (λ b. given (f a b)) ≡ refused n → and_then x (λ b. given (g a b)) ≡ refused n
    go (given b) q = absurd (never {o = given (f a b)} refl q)
    go (refused m) q = cc

pub on-given : {A B : Type 0} (r : B) (o : Outcome A) (a : A) (bad : ℕ → B) (good : A → B) → o ≡ given a → r ≡ good a → r ≡ on_outcome bad good o
unfolding on_outcome
on-given r o a bad good p q = rw p q

pub on-refused : {A B : Type 0} (r : B) (o : Outcome A) (n : ℕ) (bad : ℕ → B) (good : A → B) → o ≡ refused n → r ≡ bad n → r ≡ on_outcome bad good o
unfolding on_outcome
on-refused r o n bad good p q = rw p q

-- what holds in both cases holds of the whole
pub on-case : {A B : Type 0} (P : B → Type 0) (o : Outcome A) (bad : ℕ → B) (good : A → B) → ((n : ℕ) → o ≡ refused n → P (bad n)) → ((a : A) → o ≡ given a → P (good a)) → P (on_outcome bad good o)
unfolding on_outcome
on-case P (given a) bad good p q = q a refl
on-case P (refused n) bad good p q = p n refl

pub on-mapped : {A B C : Type 0} (bad : ℕ → C) (good : B → C) (o : Outcome A) (f : A → B) → on_outcome bad good (and_then o (λ a. given (f a))) ≡ on_outcome bad (λ a. good (f a)) o
unfolding and_then on_outcome
on-mapped bad good (given a) f = refl
on-mapped bad good (refused n) f = refl

-- a value where every refusal is turned into another
pub on-given-given : {A B : Type 0} (n : ℕ) (next : A → Outcome B) (o : Outcome A) (b : B) → on_outcome (λ fault. refused n) next o ≡ given b → Passed o next b
unfolding on_outcome
on-given-given n next (given a) b e = record { value = a; first = refl; second = e }
on-given-given n next (refused m) b e = absurd (never e refl)

-- a refusal where every refusal is turned into one
pub turned : {A B : Type 0} (k n : ℕ) (good : A → Outcome B) (o : Outcome A) → ((a : A) (m : ℕ) → good a ≡ refused m → m ≡ k) → on_outcome (λ fault. refused k) good o ≡ refused n → n ≡ k
unfolding on_outcome
turned k n good (given a) h e = h a n e
turned {A} {B} k n good (refused m) h e = sym (refused-same {A = B} e)

pub number-given : {A : Type 0} {o : Outcome A} {a : A} → o ≡ given a → number_of o ≡ DONE
unfolding number_of
number-given e = rw e

pub number-refused : {A : Type 0} {o : Outcome A} {n : ℕ} → o ≡ refused n → number_of o ≡ n
unfolding number_of
number-refused e = rw e

-- a number other than DONE is a refusal's
pub refused-of : {A : Type 0} (o : Outcome A) (n : ℕ) → n ≡ number_of o → (n ≡ DONE → ⊥) → o ≡ refused n
unfolding number_of
refused-of (given a) n e h = absurd (h e)
refused-of (refused m) n e h = ap refused (sym e)

-- where no refusal is DONE, DONE comes with a value
pub done-given : {A : Type 0} (o : Outcome A) → ((n : ℕ) → o ≡ refused n → n ≡ DONE → ⊥) → number_of o ≡ DONE → (a : A) × (o ≡ given a)
unfolding number_of
done-given (given a) h e = (a, refl)
done-given (refused n) h e = absurd (h n refl e)

-- a number, where a contract has the number of a choice or of steps
pub number-picks : {A : Type 0} (n : ℕ) (x y : Outcome A) (b : Bool) → b ≡ true → n ≡ number_of x → n ≡ number_of (pick b x y)
unfolding pick
number-picks n x y b p q = rw p q

pub number-skips : {A : Type 0} (n : ℕ) (x y : Outcome A) (b : Bool) → b ≡ false → n ≡ number_of y → n ≡ number_of (pick b x y)
unfolding pick
number-skips n x y b p q = rw p q

pub number-goes : {A B : Type 0} (n : ℕ) (o : Outcome A) (a : A) (next : A → Outcome B) → o ≡ given a → n ≡ number_of (next a) → n ≡ number_of (and_then o next)
unfolding and_then
number-goes n o a next p q = rw p q

pub number-stops : {A B : Type 0} (n : ℕ) (o : Outcome A) (next : A → Outcome B) → o ≡ refused n → n ≡ number_of (and_then o next)
unfolding and_then number_of
number-stops n o next p = rw p

-- a refusal's number, a test that must hold, a step that refuses, and a step with a value after it
pub number-of-refused : {A : Type 0} (n : ℕ) (o : Outcome A) → o ≡ refused n → n ≡ number_of o
number-of-refused n o e = sym (number-refused e)

pub number-unless : {A : Type 0} (r n : ℕ) (b : Bool) (a : A) → r ≡ pick b DONE n → r ≡ number_of (pick b (given a) (refused n))
unfolding pick number_of
number-unless r n true a e = e
number-unless r n false a e = e

pub number-refuses : {A B : Type 0} (n : ℕ) (o : Outcome A) (next : A → Outcome B) → n ≡ number_of o → (n ≡ DONE → ⊥) → n ≡ number_of (and_then o next)
number-refuses n o next e d = number-stops n o next (refused-of o n e d)

pub number-kept : {A B : Type 0} (o : Outcome A) (b : B) → number_of o ≡ number_of (and_then o (λ _. given b))
unfolding number_of and_then
number-kept (given a) b = refl
number-kept (refused n) b = refl

-- a value, or a refusal of whose number P holds
pub data Refuses (P : ℕ → Type 0) {A : Type 0} : Outcome A → Type 0 where
  value : {a : A} → Refuses P (given a)
  number : {n : ℕ} → P n → Refuses P (refused n)

pub refuses-pick : {P : ℕ → Type 0} {A : Type 0} (b : Bool) (x y : Outcome A) → Refuses P x → Refuses P y → Refuses P (pick b x y)
unfolding pick
refuses-pick true x y u v = u
refuses-pick false x y u v = v

pub refuses-then : {P : ℕ → Type 0} {A B : Type 0} (o : Outcome A) (next : A → Outcome B) → Refuses P o → ((a : A) → Refuses P (next a)) → Refuses P (and_then o next)
unfolding and_then
refuses-then (given a) next u v = v a
refuses-then (refused n) next (number p) v = number p

-- every refusal turned into one
pub refuses-turned : {P : ℕ → Type 0} {A B : Type 0} (k : ℕ) (good : A → Outcome B) (o : Outcome A) → P k → ((a : A) → Refuses P (good a)) → Refuses P (on_outcome (λ fault. refused k) good o)
unfolding on_outcome
refuses-turned k good (given a) p v = v a
refuses-turned k good (refused n) p v = number p

pub refuses-by : {P : ℕ → Type 0} {A : Type 0} (o : Outcome A) (n : ℕ) → Refuses P o → o ≡ refused n → P n
refuses-by (given a) n u e = absurd (never {o = given a} refl e)
refuses-by {P} {A} (refused m) n (number p) e = subst P (refused-same {A = A} e) p

pub refuses-also : {P Q : ℕ → Type 0} {A : Type 0} {o : Outcome A} → ((n : ℕ) → P n → Q n) → Refuses P o → Refuses Q o
refuses-also h value = value
refuses-also h (number {n} p) = number (h n p)
