-- `nlri_writing::write::is_discarded` meets its contract.
use mathlib.Core.Path.{◌≡◌, refl, sym, ap, ◌∙◌}
use native.Mathlib.Omega.{arith}
use Prim.Native.Nat.{◌≤◌}
use lib.ListN.{length}
use lib.Seq.{length-take-le}
use borrow.Author.Tests.{ne_eqb, eq-eqb}
use Rattle.octets.proofs.Choice.{both_left, both-last}
use Rattle.nlri.specs.Groups.{is_ssm}
use Rattle.nlri.specs.Fields.{is_discarded}
use Rattle.nlri.specs.Answers.{struct_fields}
use Rattle.nlri_writing.proofs.Puts.{octets-taken}
use borrow.Author.Rules.{rules}
use Rattle.nlri_writing.proofs.write.is_discarded.Goals as goal

pub returns-then-nlri-ne-SOURCE_ACTIVE : goal.returns-then-nlri-ne-SOURCE_ACTIVE
unfolding is_discarded struct_fields
returns-then-nlri-ne-SOURCE_ACTIVE c = sym (both_left _ _ (ne_eqb _ 5 c.if-nlri-ne-SOURCE_ACTIVE.true))

pub slice_bounds-octets-end : goal.slice_bounds-octets-end
slice_bounds-octets-end c =
    let h : length c.args.nlri.group.octets ≡ 16 = search rules in
    let five : c.args.nlri.route_type ≡ 5 = search rules in
    omega (arith, c.requires)

pub slice_bounds-is_ssm-end : goal.slice_bounds-is_ssm-end
slice_bounds-is_ssm-end c =
    let h : length c.args.nlri.group.octets ≡ 16 = search rules in
    let five : c.args.nlri.route_type ≡ 5 = search rules in
    let few : c.args.nlri.group.size ≤ length c.args.nlri.group.octets = omega (arith, c.requires) in
    sym (length-take-le _ c.args.nlri.group.octets few)

pub returns : goal.returns
unfolding is_discarded struct_fields
returns c =
    let h : length c.args.nlri.group.octets ≡ 16 = search rules in
    let five : c.args.nlri.route_type ≡ 5 = search rules in
    let few : c.args.nlri.group.size ≤ length c.args.nlri.group.octets = omega (arith, c.requires) in
    both-last _ _ _ (eq-eqb _ 5 five) (c.is_ssm.ensures ∙ ap (is_ssm c.args.kind.bits) (octets-taken c.args.nlri.group _ refl few))
