-- `pieces::reading::family_in` meets its contract.
use mathlib.Core.Path.{sym}
use native.Mathlib.Omega.{arith}
use Rattle.nlri.proofs.Definitions.Families.{family-refuses}
use Rattle.pieces.proofs.reading.family_in.Goals as goal

pub returns-in_default : goal.returns-in_default
returns-in_default c = sym (family-refuses _ (λ e. omega (arith, c.in_default.ensures)) (λ e. omega (arith, c.in_default.ensures)))
