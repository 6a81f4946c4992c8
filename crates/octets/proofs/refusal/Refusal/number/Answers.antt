-- `octets::refusal::Refusal::number` meets its contract.
use Rattle.std.proofs.Common.{◌≡◌, ◌+◌, refl}
use Rattle.octets.specs.declared.refusal.Refusal.{Refusal}
use Rattle.octets.specs.declared.refusal.Refusal.TheVariants.{Short, «Type», Length, Width, Key, Tunnel, Ident, Long, Label, Family, Table, Kind, Room, Absent, Flow, Space, Deep, Range, Group, Conflict}
use Rattle.octets.specs.Refusals.{refusal_number}
use Rattle.octets.proofs.refusal.Refusal.number.Goals as goal

numbered : (r : Refusal) → denote.Enum.Declared.tag_of Rattle.octets.specs.contracts.refusal.Refusal.the_type r + 1 ≡ refusal_number r
numbered Short = refl
numbered «Type» = refl
numbered Length = refl
numbered Width = refl
numbered Key = refl
numbered Tunnel = refl
numbered Ident = refl
numbered Long = refl
numbered Label = refl
numbered Family = refl
numbered Table = refl
numbered Kind = refl
numbered Room = refl
numbered Absent = refl
numbered Flow = refl
numbered Space = refl
numbered Deep = refl
numbered Range = refl
numbered Group = refl
numbered Conflict = refl

pub returns : goal.returns
returns c = numbered c.args.self
