-- `places::judge::check_route` meets its contract.
use Rattle.std.proofs.Common.{◌∙◌, refl}
use Rattle.octets.proofs.Refusals.{refusal_number-not_done, passed_on}
use Rattle.places.proofs.Sounds.{route-stops, route-goes}
use Rattle.places.proofs.judge.check_route.Goals as goal

pub returns-in_err-check_s_pmsi : goal.returns-in_err-check_s_pmsi
returns-in_err-check_s_pmsi c = passed_on _ _ c.from_residual.ensures.1 ∙ route-stops _ _ _ _ c.in_err-check_s_pmsi.ensures (refusal_number-not_done _)

pub returns : goal.returns
returns c = route-goes _ _ _ _ _ c.in_ok-check_s_pmsi.ensures refl c.check_attribute.ensures
