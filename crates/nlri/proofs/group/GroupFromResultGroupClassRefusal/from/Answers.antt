-- The conversion of a `Result` to `nlri::Group` meets its contract.
use Rattle.std.proofs.Common.{◌≡◌, ℕ, ◌+◌, ap, sym, refl, ◌∙◌}
use Rattle.octets.specs.Numbers.{DONE}
use Rattle.octets.specs.Outcome.{refused, number_of, on_outcome}
use Rattle.nlri.specs.declared.group.GroupClass.{GroupClass}
use Rattle.nlri.specs.declared.group.GroupClass.TheVariants.{Asm, Ssm}
use Rattle.nlri.specs.Groups.{group_of, class_outcome, class_number}
use Rattle.nlri.proofs.group.GroupFromResultGroupClassRefusal.from.Goals as goal

numbered : (class : GroupClass) → denote.Enum.Declared.tag_of Rattle.nlri.specs.contracts.group.GroupClass.the_type class + 1 ≡ class_number class
numbered Asm = refl
numbered Ssm = refl

pub returns-in-Ok : goal.returns-in-Ok
unfolding group_of number_of on_outcome
returns-in-Ok c = ap (λ (n : ℕ). record { number = DONE; group_class = n }) (numbered c.in-Ok.class) ∙ ap (λ r. group_of (class_outcome r)) (sym c.in-Ok.is)

pub returns-in-Err : goal.returns-in-Err
returns-in-Err c = c.refused.ensures ∙ ap (λ (n : ℕ). group_of (refused n)) c.number.ensures ∙ ap (λ r. group_of (class_outcome r)) (sym c.in-Err.is)
