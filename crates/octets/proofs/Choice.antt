-- Laws of `pick`, `both` and `either`, and of the tests that they go by.
use mathlib.Core.Path.{◌≡◌, refl, sym, ap, ◌∙◌}
use mathlib.Core.Bool.{Bool, true, false, not}
use mathlib.Core.Logic.{◌⊎◌, inl, inr}
use Prim.Native.Nat.{ℕ}
use native.Mathlib.Omega.{arith}
use borrow.Author.Tests.{not-true, not-false}
use Rattle.octets.specs.Choice.{pick, both, either}

-- a test holds or fails
pub tested : {P : Type 0} (b : Bool) → (b ≡ true → P) → (b ≡ false → P) → P
tested true t f = t refl
tested false t f = f refl

pub opposite : {b : Bool} → b ≡ true → b ≡ false → ⊥
opposite p q = let z : ◌≡◌ {A = ℕ} 0 1 = cc in omega arith

-- a test that cannot hold, and one that cannot fail
pub is_false : (b : Bool) → (b ≡ true → ⊥) → b ≡ false
is_false true h = absurd (h refl)
is_false false h = refl

pub is_true : (b : Bool) → (b ≡ false → ⊥) → b ≡ true
is_true true h = refl
is_true false h = absurd (h refl)

-- tests that hold together are the same
pub test-same : (a b : Bool) → (a ≡ true → b ≡ true) → (b ≡ true → a ≡ true) → a ≡ b
test-same true b f g = sym (f refl)
test-same false true f g = g refl
test-same false false f g = refl

-- a choice by what its test says
pub pick_true : {A : Type 0} (b : Bool) (x y : A) → b ≡ true → pick b x y ≡ x
unfolding pick
pick_true b x y p = rw p

pub pick-false : {A : Type 0} (b : Bool) (x y : A) → b ≡ false → pick b x y ≡ y
unfolding pick
pick-false b x y p = rw p

-- the same, with the choice where a contract has it
pub picks : {A : Type 0} (r x y : A) (b : Bool) → b ≡ true → r ≡ x → r ≡ pick b x y
unfolding pick
picks r x y b p q = rw p q

pub skips : {A : Type 0} (r x y : A) (b : Bool) → b ≡ false → r ≡ y → r ≡ pick b x y
unfolding pick
skips r x y b p q = rw p q

-- each branch by what its test says
pub pick-cong : {A : Type 0} (b : Bool) (x x' y y' : A) → (b ≡ true → x ≡ x') → (b ≡ false → y ≡ y') → pick b x y ≡ pick b x' y'
unfolding pick
pick-cong true x x' y y' p q = p refl
pick-cong false x x' y y' p q = q refl

-- what holds of both branches holds of the choice
pub pick-case : {A : Type 0} (P : A → Type 0) (b : Bool) (x y : A) → (b ≡ true → P x) → (b ≡ false → P y) → P (pick b x y)
unfolding pick
pick-case P true x y p q = p refl
pick-case P false x y p q = q refl

-- what a choice came to, by its test
pub picked : {A : Type 0} (b : Bool) (x y : A) (r : A) → pick b x y ≡ r → ((b ≡ true) × (x ≡ r)) ⊎ ((b ≡ false) × (y ≡ r))
unfolding pick
picked true x y r e = inl (refl, e)
picked false x y r e = inr (refl, e)

-- a test that must fail for the whole to hold
pub pick-passed : (b y : Bool) → pick b false y ≡ true → (b ≡ false) × (y ≡ true)
unfolding pick
pick-passed true y h = (sym h, cc)
pick-passed false y h = (refl, h)

pub both_true : (a b : Bool) → a ≡ true → b ≡ true → both a b ≡ true
unfolding both
both_true a b p q = rw p q

pub both_left : (a b : Bool) → a ≡ false → both a b ≡ false
unfolding both
both_left a b p = rw p

pub both_right : (a b : Bool) → a ≡ true → b ≡ false → both a b ≡ false
unfolding both
both_right a b p q = rw p q

pub both-true-left : (a b : Bool) → both a b ≡ true → a ≡ true
unfolding both
both-true-left true b e = refl
both-true-left false b e = e

pub both-true-right : (a b : Bool) → both a b ≡ true → b ≡ true
unfolding both
both-true-right true b e = e
both-true-right false b e = absurd (opposite {b = true} refl (sym e))

pub both-held : (a b : Bool) → both a b ≡ true → (a ≡ true) × (b ≡ true)
both-held a b h = (both-true-left a b h, both-true-right a b h)

-- the last of tests joined decides
pub both-last : (a b c : Bool) → a ≡ true → c ≡ b → c ≡ both a b
unfolding both
both-last a b c p q = rw p q

pub both-assoc : (a b c : Bool) → both (both a b) c ≡ both a (both b c)
unfolding both
both-assoc true b c = refl
both-assoc false b c = refl

pub either_left : (a b : Bool) → a ≡ true → either a b ≡ true
unfolding either
either_left a b p = rw p

pub either_second : (a b : Bool) → b ≡ true → either a b ≡ true
unfolding either
either_second true b e = refl
either_second false b e = e

pub either-false : (a b : Bool) → a ≡ false → b ≡ false → either a b ≡ false
unfolding either
either-false a b p q = rw p q

pub either_true : (a b : Bool) → either a b ≡ true → (a ≡ true) ⊎ (b ≡ true)
unfolding either
either_true true b e = inl refl
either_true false b e = inr e

pub either-false-left : (a b : Bool) → either a b ≡ false → a ≡ false
unfolding either
either-false-left true b e = e
either-false-left false b e = refl

pub either-false-right : (a b : Bool) → either a b ≡ false → b ≡ false
unfolding either
either-false-right true b e = absurd (opposite {b = true} refl e)
either-false-right false b e = e

pub either-last : (a b c : Bool) → a ≡ false → c ≡ b → c ≡ either a b
unfolding either
either-last a b c p q = rw p q

-- a test whose value is a flag that the code branched on
pub flag_true : (flag b : Bool) → flag ≡ b → flag ≡ true → b ≡ true
flag_true flag b p q = sym p ∙ q

pub flag-false : (flag b : Bool) → flag ≡ b → flag ≡ false → b ≡ false
flag-false flag b p q = sym p ∙ q

-- a test that the code made by its negation
pub flag_off : (flag b : Bool) → flag ≡ b → not flag ≡ true → b ≡ false
flag_off flag b p q = sym p ∙ not-true flag q

pub flag-on : (flag b : Bool) → flag ≡ b → not flag ≡ false → b ≡ true
flag-on flag b p q = sym p ∙ not-false flag q

pub flag-not : (flag b c : Bool) → flag ≡ b → not flag ≡ c → not b ≡ c
flag-not flag b c p q = sym (ap not p) ∙ q

pub not_is : (flag b : Bool) → flag ≡ b → not flag ≡ not b
not_is flag b p = ap not p

pub true-is : (b : Bool) → b ≡ true → true ≡ b
true-is b p = sym p

pub false-is : (b : Bool) → b ≡ false → false ≡ b
false-is b p = sym p
