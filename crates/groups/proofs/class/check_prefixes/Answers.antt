-- `groups::class::check_prefixes` meets its contract.
use Rattle.std.proofs.Common.{◌∙◌, sym}
use Rattle.octets.proofs.Refusals.{passed_on}
use Rattle.groups.proofs.Classes.{family-told, under-family, under-refused, under-given}
use Rattle.groups.proofs.class.check_prefixes.Goals as goal

pub returns-in_err-kind : goal.returns-in_err-kind
returns-in_err-kind c = passed_on _ _ c.from_residual.ensures.1 ∙ under-family _ _ _ (sym c.in_err-kind.ensures)

pub returns-in_err-class_within : goal.returns-in_err-class_within
returns-in_err-class_within c =
    passed_on _ _ c.from_residual-in_err-class_within.ensures.1
    ∙ under-refused _ _ _ _ (family-told _ _ (sym c.in_ok-kind.ensures) _ c.octets.ensures) _ c.in_err-class_within.ensures

pub returns : goal.returns
returns c = under-given _ _ _ _ (family-told _ _ (sym c.in_ok-kind.ensures) _ c.octets.ensures) _ c.in_ok-class_within.ensures
