-- Refusals with one number are one.
use mathlib.Core.Path.{◌≡◌, refl, sym, ◌∙◌, ap}
use Prim.Native.Nat.{ℕ}
use lib.Dec.{eqb}
use Rattle.octets.specs.Numbers.{SHORT, TYPE, LENGTH, WIDTH, KEY, TUNNEL, IDENT, LONG, LABEL, FAMILY, TABLE, KIND, ROOM, ABSENT, FLOW, SPACE, DEEP, RANGE, GROUP}
use Rattle.octets.specs.Choice.{pick}
use Rattle.octets.specs.Refusals.{refusal_number}
use Rattle.octets.specs.declared.refusal.Refusal.{Refusal}
use Rattle.octets.specs.declared.refusal.Refusal.TheVariants.{Short, «Type», Length, Width, Key, Tunnel, Ident, Long, Label, Family, Table, Kind, Room, Absent, Flow, Space, Deep, Range, Group, Conflict}

-- a refusal by its number
pub refusal_by : ℕ → Refusal
refusal_by n =
    pick (eqb n SHORT) Short (pick (eqb n TYPE) «Type» (pick (eqb n LENGTH) Length (pick (eqb n WIDTH) Width (pick (eqb n KEY) Key
    (pick (eqb n TUNNEL) Tunnel (pick (eqb n IDENT) Ident (pick (eqb n LONG) Long (pick (eqb n LABEL) Label (pick (eqb n FAMILY) Family
    (pick (eqb n TABLE) Table (pick (eqb n KIND) Kind (pick (eqb n ROOM) Room (pick (eqb n ABSENT) Absent (pick (eqb n FLOW) Flow
    (pick (eqb n SPACE) Space (pick (eqb n DEEP) Deep (pick (eqb n RANGE) Range (pick (eqb n GROUP) Group Conflict))))))))))))))))))

pub refusal_by-number : (r : Refusal) → refusal_by (refusal_number r) ≡ r
unfolding refusal_by pick
refusal_by-number Short = refl
refusal_by-number «Type» = refl
refusal_by-number Length = refl
refusal_by-number Width = refl
refusal_by-number Key = refl
refusal_by-number Tunnel = refl
refusal_by-number Ident = refl
refusal_by-number Long = refl
refusal_by-number Label = refl
refusal_by-number Family = refl
refusal_by-number Table = refl
refusal_by-number Kind = refl
refusal_by-number Room = refl
refusal_by-number Absent = refl
refusal_by-number Flow = refl
refusal_by-number Space = refl
refusal_by-number Deep = refl
refusal_by-number Range = refl
refusal_by-number Group = refl
refusal_by-number Conflict = refl

pub refusal-same : (r s : Refusal) → refusal_number r ≡ refusal_number s → r ≡ s
refusal-same r s e = sym (refusal_by-number r) ∙ ap refusal_by e ∙ refusal_by-number s
