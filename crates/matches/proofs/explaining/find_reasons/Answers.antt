-- `matches::explaining::find_reasons` meets its contract.
use Rattle.std.proofs.Common.{refl}
use Rattle.octets.proofs.Refusals.{refusal_number-not_done}
use Rattle.matches.proofs.Matches.{taken-some}
use Rattle.matches.proofs.Explanations.{told-unexplained, explains-refused, explains-search}
use Rattle.matches.proofs.explaining.find_reasons.Goals as goal

pub returns-in_err-sought : goal.returns-in_err-sought
returns-in_err-sought c = explains-refused _ _ _ _ (refusal_number-not_done _) _ (told-unexplained _ _ c.from_residual.ensures.1) (c.in_err-sought.ensures _ refl)

pub search-route-requires : goal.search-route-requires
search-route-requires c = let t = c.in_ok-sought.ensures in let some = taken-some _ _ _ _ t in (t.sound, t.roomy, some.0, some.1, some.2)

pub returns : goal.returns
returns c = explains-search _ _ _ _ c.in_ok-sought.ensures _ refl _ _ c.search-route.ensures _ c.reasons.ensures
