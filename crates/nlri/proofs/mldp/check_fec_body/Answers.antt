-- `nlri::mldp::check_fec_body` meets its contract.
use Rattle.std.proofs.Common.{◌∙◌, ⊎_elim}
use Rattle.nlri.proofs.Functions.Ends.{mldp-types, body-mldp-s-pmsi, body-mldp-join}
use Rattle.nlri.proofs.mldp.check_fec_body.Goals as goal

pub returns-then-route_type-eq-MLDP_S_PMSI : goal.returns-then-route_type-eq-MLDP_S_PMSI
returns-then-route_type-eq-MLDP_S_PMSI c = c.check_fec.ensures ∙ body-mldp-s-pmsi _ _ _ c.if-route_type-eq-MLDP_S_PMSI.true

pub returns : goal.returns
returns c =
    let pre = c.requires in
    c.check_fec-2.ensures ∙ body-mldp-join _ _ _ (⊎_elim (λ q. absurd (c.if-route_type-eq-MLDP_S_PMSI.false q)) (⊎_elim (λ q. absurd (pre.1 q)) (λ q. q)) (mldp-types _ pre.0))
