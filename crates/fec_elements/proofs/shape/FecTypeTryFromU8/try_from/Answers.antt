-- `fec_elements::shape::FecType::try_from` meets its contract.
use Rattle.std.proofs.Common.{refl, arith}
use Rattle.fec_elements.proofs.FecTypes.{no-type}
use Rattle.fec_elements.proofs.shape.FecTypeTryFromU8.try_from.Goals as goal

pub returns-in_default : goal.returns-in_default
returns-in_default c = (refl, no-type _ (omega arith) (omega arith) (omega arith))
