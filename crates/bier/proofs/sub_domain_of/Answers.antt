-- `bier::sub_domain_of` meets its contract.
use native.Mathlib.Omega.{arith}
use mathlib.Core.Path.{◌∙◌}
use Rattle.octets.proofs.Refusals.{refusal_number-not_done, passed_on-outcome}
use Rattle.bier.proofs.Functions.{attribute-least, identifier-least}
use Rattle.bier.proofs.Calls.{route-stops, route-stands, route-other, route-bier}
use Rattle.bier.proofs.sub_domain_of.Goals as goal

pub returns-in_err-check_route : goal.returns-in_err-check_route
returns-in_err-check_route c = passed_on-outcome _ _ c.from_residual.ensures.1 ∙ route-stops _ _ _ _ c.in_err-check_route.ensures (refusal_number-not_done _)

pub bounds-attribute-1 : goal.bounds-attribute-1
bounds-attribute-1 c = omega (arith, attribute-least _ (route-stands _ _ _ c.in_ok-check_route.ensures))

pub returns-then-attribute : goal.returns-then-attribute
returns-then-attribute c = route-other _ _ _ c.in_ok-check_route.ensures c.if-attribute.true

pub after-requires : goal.after-requires
after-requires c = attribute-least _ (route-stands _ _ _ c.in_ok-check_route.ensures)

pub bier_in-requires : goal.bier_in-requires
bier_in-requires c = identifier-least _ _ (route-stands _ _ _ c.in_ok-check_route.ensures).read c.if-attribute.false c.after.ensures

pub returns : goal.returns
returns c = route-bier _ _ _ c.in_ok-check_route.ensures c.if-attribute.false _ c.after.ensures _ c.bier_in.ensures
