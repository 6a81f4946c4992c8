-- `nlri::read::check_source_active_body` meets its contract.
use Rattle.octets.proofs.Refusals.{refusal_number-not_done, passed_on}
use Rattle.std.proofs.Common.{refl, sym, ap, ◌∙◌}
use Rattle.nlri.specs.Groups.{is_ssm}
use Rattle.nlri.proofs.Functions.Discards.{body-stands, active-fault, active-ssm, active-accepted}
use Rattle.nlri.proofs.read.check_source_active_body.Goals as goal

pub returns-in_err-check_flow_body : goal.returns-in_err-check_flow_body
returns-in_err-check_flow_body c = passed_on _ _ c.from_residual.ensures.1 ∙ active-fault _ _ _ c.in_err-check_flow_body.ensures (refusal_number-not_done _)

pub group_in-requires : goal.group_in-requires
group_in-requires c = body-stands _ _ _ c.in_ok-check_flow_body.ensures refl

pub returns-then-is_ssm : goal.returns-then-is_ssm
returns-then-is_ssm c = active-ssm _ _ _ c.in_ok-check_flow_body.ensures refl (sym (c.is_ssm.ensures ∙ ap (is_ssm _) c.group_in.ensures) ∙ c.if-is_ssm.true)

pub returns : goal.returns
returns c = active-accepted _ _ _ c.in_ok-check_flow_body.ensures refl (sym (c.is_ssm.ensures ∙ ap (is_ssm _) c.group_in.ensures) ∙ c.if-is_ssm.false)
