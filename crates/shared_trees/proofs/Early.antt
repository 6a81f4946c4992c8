-- Whether a group's class stands before the lists, by the class or its refusal.
use mathlib.Core.Path.{◌≡◌, refl, sym}
use mathlib.Core.Bool.{false, not}
use denote.Enum.Bare.{sameb}
use Rattle.std.proofs.Common.{Result, Ok, Err}
use Rattle.octets.specs.Choice.{both}
use Rattle.octets.specs.contracts.refusal.Refusal.{the_type}
use Rattle.octets.specs.declared.refusal.Refusal.{Refusal}
use Rattle.octets.specs.declared.refusal.Refusal.TheVariants.{Short, «Type», Length, Width, Key, Tunnel, Ident, Long, Label, Family, Table, Kind, Room, Absent, Flow, Space, Deep, Range, Group, Conflict}
use Rattle.octets.specs.Refusals.{refusal_number, result_number}
use Rattle.octets.proofs.Choice.{both_left}
use Rattle.nlri.specs.declared.group.GroupClass.{GroupClass}
use Rattle.shared_trees.specs.Told.{is_early}

-- a class that is told
pub early-told : (class : Result GroupClass Refusal) (k : GroupClass) → class ≡ Ok k → false ≡ is_early (result_number class)
unfolding is_early
early-told class k e = rw e (sym (both_left _ _ refl))

-- a refusal
early-refusal : (x : Refusal) → not (sameb the_type x Flow) ≡ is_early (refusal_number x)
unfolding is_early both
early-refusal Short = refl
early-refusal «Type» = refl
early-refusal Length = refl
early-refusal Width = refl
early-refusal Key = refl
early-refusal Tunnel = refl
early-refusal Ident = refl
early-refusal Long = refl
early-refusal Label = refl
early-refusal Family = refl
early-refusal Table = refl
early-refusal Kind = refl
early-refusal Room = refl
early-refusal Absent = refl
early-refusal Flow = refl
early-refusal Space = refl
early-refusal Deep = refl
early-refusal Range = refl
early-refusal Group = refl
early-refusal Conflict = refl

pub early-refused : (class : Result GroupClass Refusal) (x : Refusal) → class ≡ Err x → not (sameb the_type x Flow) ≡ is_early (result_number class)
early-refused class x e = rw e (early-refusal x)
