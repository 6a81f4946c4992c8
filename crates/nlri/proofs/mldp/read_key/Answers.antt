-- `nlri::mldp::read_key` meets its contract.
use Rattle.std.proofs.Common.{◌∙◌, sym, refl}
use Rattle.octets.proofs.Refusals.{refusal_number-not_done}
use Rattle.nlri.proofs.Definitions.Keys.{mldp-takes, mldp-refuses}
use Rattle.nlri.proofs.Definitions.Sizes.{header-within}
use Rattle.nlri.proofs.Functions.Fronts.{key-unread, key-other-type, key-refused, key-typed}
use Rattle.nlri.proofs.Functions.Via.{key_passed_on}
use Rattle.nlri.proofs.Functions.Ends.{body-mldp-s-pmsi}
use Rattle.nlri.proofs.mldp.read_key.Goals as goal

pub returns-in_err-header : goal.returns-in_err-header
returns-in_err-header c = key_passed_on _ _ c.from_residual.ensures.1 ∙ key-unread _ 68 _ _ (sym c.in_err-header.ensures)

pub returns-then-header-ne-MLDP_S_PMSI : goal.returns-then-header-ne-MLDP_S_PMSI
returns-then-header-ne-MLDP_S_PMSI c = key-other-type _ 68 _ _ _ (sym c.in_ok-header.ensures) (mldp-refuses _ c.if-header-ne-MLDP_S_PMSI.true)

pub between-body-requires : goal.between-body-requires
between-body-requires c = header-within _ _ _ (sym c.in_ok-header.ensures)

pub returns-in_err-check_fec : goal.returns-in_err-check_fec
returns-in_err-check_fec c = key_passed_on _ _ c.from_residual-in_err-check_fec.ensures.1 ∙ key-refused _ 68 _ _ _ (sym c.in_ok-header.ensures) (mldp-takes _ c.if-header-ne-MLDP_S_PMSI.false) _ _ c.between-body.ensures (c.in_err-check_fec.ensures ∙ body-mldp-s-pmsi _ _ _ c.if-header-ne-MLDP_S_PMSI.false) (refusal_number-not_done _)

pub returns : goal.returns
returns c = key-typed _ 68 _ _ _ (sym c.in_ok-header.ensures) (mldp-takes _ c.if-header-ne-MLDP_S_PMSI.false) _ _ c.between-body.ensures (c.in_ok-check_fec.ensures ∙ body-mldp-s-pmsi _ _ _ c.if-header-ne-MLDP_S_PMSI.false) refl
