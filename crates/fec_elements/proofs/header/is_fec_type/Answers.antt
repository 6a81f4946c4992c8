-- `fec_elements::header::is_fec_type` meets its contract.
use Rattle.fec_elements.proofs.FecTypes.{type-found}
use Rattle.fec_elements.proofs.header.is_fec_type.Goals as goal

pub returns : goal.returns
returns c = type-found _ _ _ c.try_from.ensures c.is_ok.ensures.value
