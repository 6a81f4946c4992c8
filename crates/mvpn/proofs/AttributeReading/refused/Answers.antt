-- `mvpn::AttributeAnswer::refused` meets its contract.
use Rattle.mvpn.proofs.AttributeReading.refused.Goals as goal

pub returns : goal.returns
returns c = rw c.none.ensures
