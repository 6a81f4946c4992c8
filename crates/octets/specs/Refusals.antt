-- The numbers of refusals (document 01, "The numbers a call gives back").
use Rattle.std.specs.Prelude.{ℕ, Result, Ok, Err}
use Rattle.octets.specs.Numbers.{DONE, SHORT, TYPE, LENGTH, WIDTH, KEY, TUNNEL, IDENT, LONG, LABEL, FAMILY, TABLE, KIND, ROOM, ABSENT, FLOW, SPACE, DEEP, RANGE, GROUP, CONFLICT}
use Rattle.octets.specs.Outcome.{Outcome, given, refused}
use Rattle.octets.specs.declared.Written.{Written}
use Rattle.octets.specs.declared.refusal.Refusal.{Refusal}
use Rattle.octets.specs.declared.refusal.Refusal.TheVariants.{Short, «Type», Length, Width, Key, Tunnel, Ident, Long, Label, Family, Table, Kind, Room, Absent, Flow, Space, Deep, Range, Group, Conflict}

-- the number of each
abbrev pub refusal_number : Refusal → ℕ
refusal_number Short = SHORT
refusal_number «Type» = TYPE
refusal_number Length = LENGTH
refusal_number Width = WIDTH
refusal_number Key = KEY
refusal_number Tunnel = TUNNEL
refusal_number Ident = IDENT
refusal_number Long = LONG
refusal_number Label = LABEL
refusal_number Family = FAMILY
refusal_number Table = TABLE
refusal_number Kind = KIND
refusal_number Room = ROOM
refusal_number Absent = ABSENT
refusal_number Flow = FLOW
refusal_number Space = SPACE
refusal_number Deep = DEEP
refusal_number Range = RANGE
refusal_number Group = GROUP
refusal_number Conflict = CONFLICT

-- the number of a judgement: DONE where nothing is refused
abbrev pub result_number : {A : Type 0} → Result A Refusal → ℕ
result_number (Ok x) = DONE
result_number (Err refusal) = refusal_number refusal

-- the same as an outcome
abbrev pub outcome_in : {A : Type 0} → Result A Refusal → Outcome A
outcome_in (Ok x) = given x
outcome_in (Err refusal) = refused (refusal_number refusal)

-- how many octets a writer has written; none on a refusal
abbrev pub size_in : Result ℕ Refusal → ℕ
size_in (Ok size) = size
size_in (Err refusal) = 0

-- what a writer answers: DONE and the octets written, or the refusal's number and 0
abbrev pub written_by : Result ℕ Refusal → Written
written_by result = record { number = result_number result; size = size_in result }
