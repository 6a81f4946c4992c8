-- `groups::class::class_by_prefixes` meets its contract.
use Rattle.std.proofs.Common.{◌∙◌, sym}
use Rattle.nlri.proofs.Functions.Via.{class_passed_on}
use Rattle.groups.proofs.Classes.{family-told, class-family}
use Rattle.groups.proofs.class.class_by_prefixes.Goals as goal

pub returns-in_err-kind : goal.returns-in_err-kind
returns-in_err-kind c = class_passed_on _ _ c.from_residual.ensures.1 ∙ class-family _ _ _ _ c.in_err-kind.ensures

pub class_of_family-requires : goal.class_of_family-requires
class_of_family-requires c = family-told _ _ (sym c.in_ok-kind.ensures) _ c.octets.ensures
