-- A refusal's number is never DONE, and a refusal that is passed on keeps it.
use Rattle.std.proofs.Common.{◌≡◌, ◌≢◌, ℕ, ◌-◌, List, [], ◌∷◌, get_or, Result, Ok, Err, refl, sym, ap, ◌∙◌}
use Rattle.std.specs.Result.{IsErrAnd}
use Rattle.octets.specs.Numbers.{DONE}
use Rattle.octets.specs.declared.refusal.Refusal.{Refusal}
use Rattle.octets.specs.declared.refusal.Refusal.TheVariants.{Short, «Type», Length, Width, Key, Tunnel, Ident, Long, Label, Family, Table, Kind, Room, Absent, Flow, Space, Deep, Range, Group, Conflict}
use Rattle.octets.specs.Refusals.{refusal_number, result_number, outcome_in, written_by}
use Rattle.octets.specs.Outcome.{refused, on_outcome, number_of}
use Rattle.octets.specs.Outputs.{written_of}

pub refusal_number-not_done : (r : Refusal) → refusal_number r ≢ DONE
refusal_number-not_done Short e = cc
refusal_number-not_done «Type» e = cc
refusal_number-not_done Length e = cc
refusal_number-not_done Width e = cc
refusal_number-not_done Key e = cc
refusal_number-not_done Tunnel e = cc
refusal_number-not_done Ident e = cc
refusal_number-not_done Long e = cc
refusal_number-not_done Label e = cc
refusal_number-not_done Family e = cc
refusal_number-not_done Table e = cc
refusal_number-not_done Kind e = cc
refusal_number-not_done Room e = cc
refusal_number-not_done Absent e = cc
refusal_number-not_done Flow e = cc
refusal_number-not_done Space e = cc
refusal_number-not_done Deep e = cc
refusal_number-not_done Range e = cc
refusal_number-not_done Group e = cc
refusal_number-not_done Conflict e = cc

-- by `?`
pub passed_on : {A : Type 0} (result : Result A Refusal) (r : Refusal) → IsErrAnd result (λ x. x ≡ r) → result_number result ≡ refusal_number r
passed_on (Ok a) r h = absurd h
passed_on (Err x) r h = ap refusal_number h

-- the same as an outcome
pub passed_on-outcome : {A : Type 0} (result : Result A Refusal) (r : Refusal) → IsErrAnd result (λ x. x ≡ r) → outcome_in result ≡ refused (refusal_number r)
passed_on-outcome (Ok a) r h = absurd h
passed_on-outcome (Err x) r h = ap (λ (x : Refusal). refused (refusal_number x)) h

-- and as what a writer answers
pub refused-by : (result : Result ℕ Refusal) (r : Refusal) → IsErrAnd result (λ x. x ≡ r) → written_by result ≡ written_of (refused (refusal_number r))
unfolding written_of number_of on_outcome
refused-by (Ok n) r h = absurd h
refused-by (Err x) r h = ap (λ (y : Refusal). written_of (refused (refusal_number y))) h

-- an outcome has its result's number
pub number_of-outcome_in : {A : Type 0} (result : Result A Refusal) → number_of (outcome_in result) ≡ result_number result
unfolding number_of
number_of-outcome_in (Ok a) = refl
number_of-outcome_in (Err x) = refl

-- the refusals by number, from 1 on
refusals : List Refusal
refusals = Short ∷ «Type» ∷ Length ∷ Width ∷ Key ∷ Tunnel ∷ Ident ∷ Long ∷ Label ∷ Family ∷ Table ∷ Kind ∷ Room ∷ Absent ∷ Flow ∷ Space ∷ Deep ∷ Range ∷ Group ∷ Conflict ∷ []

refusal_in : ℕ → Refusal
refusal_in n = get_or refusals (n - 1) Short

refusal-of-number : (r : Refusal) → refusal_in (refusal_number r) ≡ r
unfolding refusal_in refusals
refusal-of-number Short = refl
refusal-of-number «Type» = refl
refusal-of-number Length = refl
refusal-of-number Width = refl
refusal-of-number Key = refl
refusal-of-number Tunnel = refl
refusal-of-number Ident = refl
refusal-of-number Long = refl
refusal-of-number Label = refl
refusal-of-number Family = refl
refusal-of-number Table = refl
refusal-of-number Kind = refl
refusal-of-number Room = refl
refusal-of-number Absent = refl
refusal-of-number Flow = refl
refusal-of-number Space = refl
refusal-of-number Deep = refl
refusal-of-number Range = refl
refusal-of-number Group = refl
refusal-of-number Conflict = refl

-- refusals of one number are equal
pub refusal_number-apart : (a b : Refusal) → refusal_number a ≡ refusal_number b → a ≡ b
refusal_number-apart a b e = sym (refusal-of-number a) ∙ ap refusal_in e ∙ refusal-of-number b
