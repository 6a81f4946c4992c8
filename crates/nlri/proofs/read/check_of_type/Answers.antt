-- `nlri::read::check_of_type` meets its contract.
use Rattle.octets.proofs.Refusals.{refusal_number-not_done, passed_on}
use Rattle.std.proofs.Common.{◌∙◌, sym, refl, arith}
use Rattle.nlri.proofs.Definitions.Families.{family-refused}
use Rattle.nlri.proofs.Functions.Singles.{single-in, of-no-family, of-type-refused, of-type-given, of-type-other}
use Rattle.nlri.proofs.read.check_of_type.Goals as goal

pub returns-in_err-kind : goal.returns-in_err-kind
returns-in_err-kind c = passed_on _ _ c.from_residual.ensures.1 ∙ (family-refused _ _ (sym c.in_err-kind.ensures)).0 ∙ of-no-family _ _ _ _ (sym c.in_err-kind.ensures)

pub returns-in_err-check_single : goal.returns-in_err-check_single
returns-in_err-check_single c = passed_on _ _ c.from_residual-in_err-check_single.ensures.1 ∙ of-type-refused _ _ _ _ (sym c.in_ok-kind.ensures) _ c.in_err-check_single.ensures (refusal_number-not_done _)

pub bounds-s-0 : goal.bounds-s-0
bounds-s-0 c = let h = (single-in _ _ _ c.in_ok-check_single.ensures refl).0.header in omega arith

pub returns-then-s-route_type : goal.returns-then-s-route_type
returns-then-s-route_type c = of-type-other _ _ _ _ (sym c.in_ok-kind.ensures) _ c.in_ok-check_single.ensures refl c.if-s-route_type.true

pub returns : goal.returns
returns c = of-type-given _ _ _ _ (sym c.in_ok-kind.ensures) _ c.in_ok-check_single.ensures refl c.if-s-route_type.false
