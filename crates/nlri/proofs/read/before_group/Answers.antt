-- `nlri::read::before_group` meets its contract.
use Rattle.std.proofs.Common.{ap, sym, ◌∙◌, ne_eqb}
use Rattle.octets.specs.Choice.{pick}
use Rattle.octets.specs.Refusals.{refusal_number}
use Rattle.octets.specs.declared.refusal.Refusal.{Refusal}
use Rattle.octets.specs.declared.refusal.Refusal.TheVariants.{Group}
use Rattle.octets.proofs.Choice.{pick-false}
use Rattle.octets.proofs.Refusals.{refusal_number-not_done}
use Rattle.nlri.specs.Inner.{followed_fault}
use Rattle.nlri.proofs.Definitions.Apart.{refusals-apart}
use Rattle.nlri.proofs.read.before_group.Goals as goal

pub returns-in-Group : goal.returns-in-Group
unfolding followed_fault pick
returns-in-Group c = ap (λ (r : Refusal). followed_fault (refusal_number r)) (sym c.in-Group.is)

pub returns-in_default : goal.returns-in_default
unfolding followed_fault
returns-in_default c =
    sym (pick-false _ _ _ (ne_eqb _ _ (refusal_number-not_done c.args.refusal)) ∙ pick-false _ _ _ (ne_eqb _ _ (λ e. c.in_default.not-Group (refusals-apart _ Group e))))
