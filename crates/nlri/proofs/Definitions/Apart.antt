-- Answers of the same number and value are equal: a refusal is told by its number.
use Rattle.std.proofs.Common.{◌≡◌, ℕ, Result, Ok, Err, List, [], ◌∷◌, get_or, sym, refl, ap, ◌∙◌}
use Rattle.octets.specs.Refusals.{refusal_number, outcome_in}
use Rattle.octets.specs.declared.refusal.Refusal.{Refusal}
use Rattle.octets.specs.declared.refusal.Refusal.TheVariants.{Short, «Type», Length, Width, Key, Tunnel, Ident, Long, Label, Family, Table, Kind, Room, Absent, Flow, Space, Deep, Range, Group, Conflict}
use Rattle.octets.proofs.Outcome.{given-same, refused-same, never}

abbrev refusals : List Refusal
refusals = Short ∷ Short ∷ «Type» ∷ Length ∷ Width ∷ Key ∷ Tunnel ∷ Ident ∷ Long ∷ Label ∷ Family ∷ Table ∷ Kind ∷ Room ∷ Absent ∷ Flow ∷ Space ∷ Deep ∷ Range ∷ Group ∷ Conflict ∷ []

-- the refusal of a number
abbrev refusal_at : ℕ → Refusal
refusal_at n = get_or refusals n Short

numbered : (r : Refusal) → refusal_at (refusal_number r) ≡ r
numbered Short = refl
numbered «Type» = refl
numbered Length = refl
numbered Width = refl
numbered Key = refl
numbered Tunnel = refl
numbered Ident = refl
numbered Long = refl
numbered Label = refl
numbered Family = refl
numbered Table = refl
numbered Kind = refl
numbered Room = refl
numbered Absent = refl
numbered Flow = refl
numbered Space = refl
numbered Deep = refl
numbered Range = refl
numbered Group = refl
numbered Conflict = refl

pub refusals-apart : (a b : Refusal) → refusal_number a ≡ refusal_number b → a ≡ b
refusals-apart a b e = sym (numbered a) ∙ ap refusal_at e ∙ numbered b

pub results-apart : {A : Type 0} (a b : Result A Refusal) → outcome_in a ≡ outcome_in b → a ≡ b
results-apart (Ok l) (Ok m) e = ap Ok (given-same e)
results-apart (Ok l) (Err n) e = absurd (never refl e)
results-apart (Err n) (Ok l) e = absurd (never refl (sym e))
results-apart {A} (Err n) (Err m) e = ap Err (refusals-apart n m (refused-same {A = A} e))
