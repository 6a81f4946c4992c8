-- `bier::leaf::check_leaf` meets its contract.
use mathlib.Core.Path.{◌∙◌}
use Rattle.octets.proofs.Refusals.{refusal_number-not_done, passed_on}
use Rattle.bier.proofs.Functions.{leaf-unnamed, leaf-tunnel}
use Rattle.bier.proofs.leaf.check_leaf.Goals as goal

pub returns-in_err-check_of_type : goal.returns-in_err-check_of_type
returns-in_err-check_of_type c = passed_on _ _ c.from_residual.ensures.1 ∙ leaf-unnamed _ _ _ _ c.field.ensures c.in_err-check_of_type.ensures (refusal_number-not_done _)

pub returns : goal.returns
returns c = leaf-tunnel _ _ _ c.field.ensures c.in_ok-check_of_type.ensures _ c.field-2.ensures _ c.check.ensures
