-- What a caller sees of an answer, whatever the call (document 01, "The numbers a call gives back"). Each crate states it of the calls whose answers
-- it makes.
use Rattle.std.specs.Prelude.{ℕ, ◌≤◌, ◌≡◌, List, ◌↔◌, ◌≢◌, length, get_or, take}
use Rattle.octets.specs.declared.Written.{Written}
use Rattle.octets.specs.Outcome.{given, refused}
use Rattle.octets.specs.Outputs.{Wrote}

-- an answer of this number, by the reasons for which its call refuses, what is there when the work was done, and what is there when it was not
pub record Answering (number : ℕ) (Refusal : ℕ → Type 0) (Done Empty : Type 0) : Type 0 where
  -- a number other than 0, DONE, exactly where the call refuses with it
  pub refuses : (n : ℕ) → ((number ≡ n) × (n ≢ 0)) ↔ Refusal n
  -- 0 exactly where the work was done, and then the answer and the lent octets say what was done
  pub done : (number ≡ 0) ↔ Done
  -- on a refusal every other field is empty, and the lent octets are as they were
  pub empty : number ≢ 0 → Empty

-- octets written: as many as the answer says, at the front of the output, with every octet past them as it was
pub record WrittenAtFront (octets before : List ℕ) (answer : Written) (after : List ℕ) : Type 0 where
  pub size : answer.size ≡ length octets
  pub room : length octets ≤ length before
  pub kept : length after ≡ length before
  pub front : take (length octets) after ≡ octets
  pub past : (i : ℕ) → length octets ≤ i → get_or after i 0 ≡ get_or before i 0

-- nothing written: size 0, and the output as it was
pub record NothingWritten (before : List ℕ) (answer : Written) (after : List ℕ) : Type 0 where
  pub size : answer.size ≡ 0
  pub untouched : after ≡ before

-- what `Wrote`, which the contract of every writer cites, says of answer and output
pub record WroteRule : Type 0 where
  -- octets for which there is room: DONE, and they are written
  pub done : (octets before : List ℕ) (answer : Written) (after : List ℕ) → length octets ≤ length before → Wrote (given octets) before answer after
      → (answer.number ≡ 0) × WrittenAtFront octets before answer after
  -- a refusal: its number, and nothing is written
  pub refuses : (number : ℕ) (before : List ℕ) (answer : Written) (after : List ℕ) → Wrote (refused number) before answer after
      → (answer.number ≡ number) × NothingWritten before answer after
