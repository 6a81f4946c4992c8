-- `nlri_writing::key::is_mldp_key` meets its contract.
use Rattle.std.proofs.Common.{sym, ap, refl, arith}
use Rattle.octets.specs.Choice.{either}
use Rattle.octets.proofs.Refusals.{refusal_number-not_done}
use Rattle.nlri.specs.Inner.{is_mldp}
use Rattle.nlri.proofs.Definitions.Sizes.{header-within}
use Rattle.nlri.proofs.Definitions.Keys.{mldp-takes, mldp-refuses}
use Rattle.nlri_writing.proofs.KeyTests.{key-alone, key-none}
use Rattle.nlri.proofs.Functions.Via.{unread-given}
use Rattle.nlri.proofs.Functions.Fronts.{key-unread, key-other-type, key-refused, key-typed}
use Rattle.nlri_writing.proofs.key.is_mldp_key.Goals as goal

pub returns-in_default : goal.returns-in_default
returns-in_default c = key-none _ 68 _ _ (sym (key-unread _ 68 _ _ (unread-given _ _ _ c.read_header.ensures c.in_default.is)))

pub returns-then-header-ne-MLDP_S_PMSI : goal.returns-then-header-ne-MLDP_S_PMSI
returns-then-header-ne-MLDP_S_PMSI c = key-none _ 68 _ _ (sym (key-other-type _ 68 _ _ _ (sym c.in-Ok.ensures) (mldp-refuses _ c.if-header-ne-MLDP_S_PMSI.true)))

pub between-body-requires : goal.between-body-requires
between-body-requires c = header-within _ _ _ (sym c.in-Ok.ensures)

pub check_body-requires : goal.check_body-requires
unfolding is_mldp either
check_body-requires c = ap is_mldp c.if-header-ne-MLDP_S_PMSI.false

pub overflow_add-result : goal.overflow_add-result
overflow_add-result c = let h = header-within _ _ _ (sym c.in-Ok.ensures) in omega arith

pub returns-in-Ok-check_body : goal.returns-in-Ok-check_body
returns-in-Ok-check_body c = key-alone _ 68 _ _ (sym (key-typed _ 68 _ _ _ (sym c.in-Ok.ensures) (mldp-takes _ c.if-header-ne-MLDP_S_PMSI.false) _ _ c.between-body.ensures c.in-Ok-check_body.ensures refl))

pub returns-in-Err : goal.returns-in-Err
returns-in-Err c = key-none _ 68 _ _ (sym (key-refused _ 68 _ _ _ (sym c.in-Ok.ensures) (mldp-takes _ c.if-header-ne-MLDP_S_PMSI.false) _ _ c.between-body.ensures c.in-Err.ensures (refusal_number-not_done _)))
