-- What a call comes to: a value, or the number that refuses it (document 01, "The numbers a call gives back").
use Rattle.std.specs.Prelude.{ℕ, Bool}
use Rattle.octets.specs.Numbers.{DONE}
use Rattle.octets.specs.Choice.{pick}

-- the value of work that was done, or a refusal
pub data Outcome (A : Type 0) : Type 0 where
  given : A → Outcome A
  refused : ℕ → Outcome A

-- by cases: of a refusal's number, or of the value
unfoldable pub on_outcome : {A B : Type 0} → (ℕ → B) → (A → B) → Outcome A → B
on_outcome bad good (given a) = good a
on_outcome bad good (refused n) = bad n

-- unless the test holds, the refusal with this number; so that refusals read from top to bottom in their order
abbrev pub unless : {A : Type 0} → Bool → (number : ℕ) → Outcome A → Outcome A
unless test number next = pick test next (refused number)

-- the next step on the value; the first refusal decides
unfoldable pub and_then : {A B : Type 0} → Outcome A → (A → Outcome B) → Outcome B
and_then (given a) next = next a
and_then (refused n) next = refused n

-- the number that a call answers: DONE where the work was done
unfoldable pub number_of : {A : Type 0} → Outcome A → ℕ
number_of (given a) = DONE
number_of (refused n) = n
