-- `nlri::group::group_class` meets its contract.
use Rattle.std.proofs.Common.{◌∙◌, sym, refl}
use Rattle.octets.proofs.Outcome.{and-goes-on}
use Rattle.nlri.proofs.Definitions.Families.{family-least}
use Rattle.nlri.proofs.Functions.Via.{reads}
use Rattle.nlri.specs.Groups.{class_of}
use Rattle.nlri.proofs.group.group_class.Goals as goal

pub returns-in_err-kind : goal.returns-in_err-kind
unfolding class_of
returns-in_err-kind c = search reads

pub class_in-requires : goal.class_in-requires
class_in-requires c = family-least _ _ (sym c.in_ok-kind.ensures)

pub returns : goal.returns
unfolding class_of
returns c = c.class_in.ensures ∙ and-goes-on _ _ _ _ (sym c.in_ok-kind.ensures) refl
