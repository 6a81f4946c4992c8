-- `nlri::sure::is_surely_keyable` meets its contract.
use Rattle.std.proofs.Common.{refl, arith, eqb-true}
use Rattle.octets.proofs.Choice.{opposite}
use Rattle.nlri.proofs.Functions.Sure.{intra-as-sure, inter-as-sure, keyable-sure}
use Rattle.nlri.proofs.sure.is_surely_keyable.Goals as goal

pub returns-then-route_type-eq-S_PMSI : goal.returns-then-route_type-eq-S_PMSI
returns-then-route_type-eq-S_PMSI c t = keyable-sure _ _ c.requires 3 c.if-route_type-eq-S_PMSI.true (omega arith) (c.is_surely_s_pmsi.ensures t)

pub returns-then-route_type-eq-INTRA_AS_I_PMSI : goal.returns-then-route_type-eq-INTRA_AS_I_PMSI
returns-then-route_type-eq-INTRA_AS_I_PMSI c t = keyable-sure _ _ c.requires 1 c.if-route_type-eq-INTRA_AS_I_PMSI.true (omega arith) (intra-as-sure _ _ c.requires (c.is_originator_from.ensures t))

pub returns-then-route_type-eq-INTER_AS_I_PMSI : goal.returns-then-route_type-eq-INTER_AS_I_PMSI
returns-then-route_type-eq-INTER_AS_I_PMSI c t = keyable-sure _ _ c.requires 2 c.if-route_type-eq-INTER_AS_I_PMSI.true (omega arith) (inter-as-sure _ _ c.requires (eqb-true _ _ t))

pub returns : goal.returns
returns c t = absurd (opposite t refl)
