-- What functions that write answer, and what they leave in lent octets (document 01, "The numbers a call gives back").
use Rattle.std.specs.Prelude.{ℕ, ◌+◌, ◌≤◌, ◌≡◌, List, length}
use Rattle.octets.specs.declared.Written.{Written}
use Rattle.octets.specs.Outcome.{Outcome, on_outcome, number_of}
use Rattle.octets.specs.Octets.{placed, front}

-- DONE and the octets written, or the refusal's number and 0
unfoldable pub written_of : Outcome (List ℕ) → Written
written_of outcome = record { number = number_of outcome; size = on_outcome (λ number. 0) (λ octets. length octets) outcome }

-- the octets written at the front, those past them untouched; on a refusal the output as it was
unfoldable pub output_of : Outcome (List ℕ) → List ℕ → List ℕ
output_of outcome output = on_outcome (λ number. output) (λ octets. front octets output) outcome

-- octets put into an output from `at` on: the answer is the place just past them
abbrev pub Put : (at : ℕ) (octets before : List ℕ) (answer : ℕ) (after : List ℕ) → Type 0
Put at octets before answer after = (answer ≡ at + length octets) × (after ≡ placed at octets before)

-- `size` octets of s from `from` on, and room for them in d from `at` on
abbrev pub CopyWithin : (s : List ℕ) (from size : ℕ) (d : List ℕ) (at : ℕ) → Type 0
CopyWithin s from size d at = (from + size ≤ length s) × (at + size ≤ length d)

-- an outcome written: the answer, and what is left in the output
abbrev pub Wrote : Outcome (List ℕ) → (before : List ℕ) → (answer : Written) → (after : List ℕ) → Type 0
Wrote outcome before answer after = (answer ≡ written_of outcome) × (after ≡ output_of outcome before)

-- what a call answers, and the octets of its lent memory afterwards: a table's, an output's
pub record Changed (A : Type 0) : Type 0 where
  pub answer : A
  pub octets : List ℕ

-- a call of which this is due answers r and leaves these octets
abbrev pub Leaves : {A : Type 0} → Changed A → A → (octets : List ℕ) → Type 0
Leaves due r octets = (r ≡ due.answer) × (octets ≡ due.octets)
