-- `nlri::read::layout_in` meets its contract.
use Rattle.std.proofs.Common.{ℕ, ◌-◌, get_or, sym, ap, ◌∙◌, subst, arith}
use Rattle.octets.proofs.Tests.{tests}
use Rattle.nlri.specs.Inner.{flow_layout, layout_in, FlowStands}
use Rattle.nlri.proofs.Functions.Ends.{start-least}
use Rattle.nlri.proofs.read.layout_in.Goals as goal

pub overflow_sub-length : goal.overflow_sub-length
unfolding layout_in
overflow_sub-length c = omega (arith, c.requires.intra_as c.if-route_type-eq-INTRA_AS_I_PMSI.true)

pub returns-then-route_type-eq-INTRA_AS_I_PMSI : goal.returns-then-route_type-eq-INTRA_AS_I_PMSI
unfolding layout_in
returns-then-route_type-eq-INTRA_AS_I_PMSI c = search tests

pub returns-then-route_type-eq-INTER_AS_I_PMSI : goal.returns-then-route_type-eq-INTER_AS_I_PMSI
unfolding layout_in
returns-then-route_type-eq-INTER_AS_I_PMSI c = search tests

pub leaf_layout-requires : goal.leaf_layout-requires
unfolding layout_in
leaf_layout-requires c = c.requires.leaf c.if-route_type-eq-LEAF.true

pub returns-then-route_type-eq-LEAF : goal.returns-then-route_type-eq-LEAF
unfolding layout_in
returns-then-route_type-eq-LEAF c = search tests

pub layout-requires : goal.layout-requires
unfolding layout_in
layout-requires c = c.requires.mldp c.if-route_type-gt-SOURCE_TREE_JOIN.true

pub returns-then-route_type-gt-SOURCE_TREE_JOIN : goal.returns-then-route_type-gt-SOURCE_TREE_JOIN
unfolding layout_in
returns-then-route_type-gt-SOURCE_TREE_JOIN c = search tests depth 10

pub overflow_sub-source_start : goal.overflow_sub-source_start
unfolding layout_in
overflow_sub-source_start c = omega (arith, c.source_start.ensures, start-least (get_or c.args.s.now 0 0))

pub flow_layout-requires : goal.flow_layout-requires
flow_layout-requires c =
    subst (λ (k : ℕ). FlowStands (k - 1) c.args.s.now) (sym c.source_start.ensures)
    (c.requires.flow c.if-route_type-eq-INTRA_AS_I_PMSI.false c.if-route_type-eq-INTER_AS_I_PMSI.false c.if-route_type-eq-LEAF.false c.if-route_type-gt-SOURCE_TREE_JOIN.false)

pub returns : goal.returns
unfolding layout_in
returns c =
    let s = c.args.s.now in
    let moved = c.flow_layout.ensures ∙ ap (λ (k : ℕ). flow_layout (get_or s 0 0) (k - 1) s) c.source_start.ensures in
    search tests depth 10
