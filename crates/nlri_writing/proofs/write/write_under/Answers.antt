-- `nlri_writing::write::write_under` meets its contract.
use Rattle.nlri_writing.proofs.Puts.{wrote-err}
use native.Mathlib.Omega.{arith}
use lib.ListN.{length}
use Rattle.octets.proofs.Outputs.{wrote_as}
use Rattle.octets.proofs.Choice.{flag_true, flag-false}
use Rattle.nlri.specs.Answers.{struct_fields}
use Rattle.nlri.proofs.Definitions.Table.{known-least}
use Rattle.nlri_writing.proofs.KeyTests.{not-leaf}
use Rattle.nlri_writing.proofs.Families.{i-pmsi-is, flow-is, fec-is, leaf-is, type-refused, no-mldp}
use Rattle.nlri_writing.proofs.write.write_under.Goals as goal

pub write_leaf-requires : goal.write_leaf-requires
write_leaf-requires c = record { fact = c.requires; route_type_value = flag_true _ _ c.has_key.ensures c.if-has_key.true }

pub returns-then-has_key : goal.returns-then-has_key
unfolding struct_fields
returns-then-has_key c =
    let a = c.args in
    wrote_as _ _ _ _ _ (leaf-is a.kind.bits a.nlri a.key.now a.fec.now (length a.output.now) a.nlri.route_type (flag_true _ _ c.has_key.ensures c.if-has_key.true)) c.write_leaf.ensures

pub returns-then-has_fec : goal.returns-then-has_fec
unfolding struct_fields
returns-then-has_fec c =
    let a = c.args in
    wrote_as _ _ _ _ _ (fec-is a.kind.bits a.nlri a.key.now a.fec.now (length a.output.now) a.nlri.route_type (flag_true _ _ c.has_fec.ensures c.if-has_fec.true)) c.write_fec.ensures

pub returns-then-route_type-gt-SOURCE_TREE_JOIN : goal.returns-then-route_type-gt-SOURCE_TREE_JOIN
unfolding struct_fields
returns-then-route_type-gt-SOURCE_TREE_JOIN c = wrote-err _ _ _ (type-refused _ _ _ (no-mldp _ (flag-false _ _ c.has_key.ensures c.if-has_key.false) (flag-false _ _ c.has_fec.ensures c.if-has_fec.false) c.if-route_type-gt-SOURCE_TREE_JOIN.true))

pub write_flow-requires : goal.write_flow-requires
write_flow-requires c = c.requires

pub returns-then-route_type-gt-INTER_AS_I_PMSI : goal.returns-then-route_type-gt-INTER_AS_I_PMSI
unfolding struct_fields
returns-then-route_type-gt-INTER_AS_I_PMSI c =
    let a = c.args in
    wrote_as _ _ _ _ _ (flow-is a.kind.bits a.nlri a.key.now a.fec.now (length a.output.now) a.nlri.route_type c.if-route_type-gt-INTER_AS_I_PMSI.true c.if-route_type-gt-SOURCE_TREE_JOIN.false (not-leaf _ (flag-false _ _ c.has_key.ensures c.if-has_key.false))) c.write_flow.ensures

pub returns-then-route_type-lt-INTRA_AS_I_PMSI : goal.returns-then-route_type-lt-INTRA_AS_I_PMSI
unfolding struct_fields
returns-then-route_type-lt-INTRA_AS_I_PMSI c = wrote-err _ _ _ (type-refused _ _ _ (λ h. omega (arith, known-least _ h, c.if-route_type-lt-INTRA_AS_I_PMSI.true)))

pub returns : goal.returns
unfolding struct_fields
returns c =
    let a = c.args in
    wrote_as _ _ _ _ _ (i-pmsi-is a.kind.bits a.nlri a.key.now a.fec.now (length a.output.now) a.nlri.route_type c.if-route_type-lt-INTRA_AS_I_PMSI.false c.if-route_type-gt-INTER_AS_I_PMSI.false) c.write_i_pmsi.ensures
