-- `nlri_writing::write::write_flow` meets its contract.
use Rattle.nlri_writing.proofs.Puts.{wrote-err}
use mathlib.Core.Path.{◌≡◌, refl}
use native.Mathlib.Omega.{arith}
use lib.ListN.{length}
use lib.Dec.{ltb, eqb}
use Rattle.octets.proofs.Outputs.{wrote_as}
use Rattle.octets.proofs.Choice.{flag_true, flag-false}
use Rattle.nlri.specs.Fields.{is_discarded}
use Rattle.nlri.specs.Answers.{struct_fields}
use Rattle.nlri_writing.specs.Inner.{flow_octets, flow_body, flow_written}
use Rattle.nlri_writing.proofs.Puts.{length-with, length-flow, front-most}
use Rattle.nlri_writing.proofs.Sizes.{addresses-sized, originator-sized, end_short}
use Rattle.nlri_writing.proofs.Families.{no-width, discards, no-space, all-given}
use borrow.Author.Rules.{rules}
use Rattle.std.proofs.Common.{sym, ◌∙◌}
use Rattle.nlri_writing.proofs.write.write_flow.Goals as goal

pub returns-then-not-addresses_fit : goal.returns-then-not-addresses_fit
unfolding flow_written
returns-then-not-addresses_fit c = wrote-err _ _ _ (no-width _ _ _ _ _ _ _ _ (sym c.addresses_fit.ensures ∙ c.if-not-addresses_fit.true))

pub is_discarded-requires : goal.is_discarded-requires
is_discarded-requires c =
    let n = c.args.nlri in
    let fits = sym c.addresses_fit.ensures ∙ c.if-not-addresses_fit.false in
    let sized = addresses-sized _ _ n c.requires fits in
    sized.group.0

pub returns-then-is_discarded : goal.returns-then-is_discarded
unfolding flow_written is_discarded struct_fields
returns-then-is_discarded c =
    let fits = sym c.addresses_fit.ensures ∙ c.if-not-addresses_fit.false in
    wrote-err _ _ _ (discards _ _ _ _ _ _ _ _ fits refl refl refl (flag_true _ _ c.is_discarded.ensures c.if-is_discarded.true))

pub overflow_add-size : goal.overflow_add-size
unfolding flow_body
overflow_add-size c =
    let n = c.args.nlri in
    let fits = sym c.addresses_fit.ensures ∙ c.if-not-addresses_fit.false in
    let sized = addresses-sized _ _ n c.requires fits in
    let eight : length n.distinguisher.octets ≡ 8 = search rules in
    let all = length-with (ltb 5 n.route_type) (eqb n.route_type 3) n (flow_octets n) eight in
    let flow = length-flow n in
    let most = front-most (ltb 5 n.route_type) in
    let short = end_short (eqb n.route_type 3) n.originator.size sized.originator in
    omega (arith, c.flow_size-size.ensures, sized.source.0, sized.group.0)

pub returns-then-output-size : goal.returns-then-output-size
unfolding flow_written is_discarded struct_fields
returns-then-output-size c =
    let fits = sym c.addresses_fit.ensures ∙ c.if-not-addresses_fit.false in
    wrote-err _ _ _ (no-space _ _ _ _ _ _ _ _ fits refl refl refl (flag-false _ _ c.is_discarded.ensures c.if-is_discarded.false) (omega (arith, c.flow_size-size.ensures, c.if-output-size.true)))

pub put_flow-requires : goal.put_flow-requires
unfolding flow_body
put_flow-requires c =
    let n = c.args.nlri in
    let fits = sym c.addresses_fit.ensures ∙ c.if-not-addresses_fit.false in
    let sized = addresses-sized _ _ n c.requires fits in
    let eight : length n.distinguisher.octets ≡ 8 = search rules in
    let all = length-with (ltb 5 n.route_type) (eqb n.route_type 3) n (flow_octets n) eight in
    let flow = length-flow n in
    let most = front-most (ltb 5 n.route_type) in
    let short = end_short (eqb n.route_type 3) n.originator.size sized.originator in
    record {
      address_size = (originator-sized _ _ sized.originator, record { exact = c.flow_size-size.ensures; short = omega (arith, c.flow_size-size.ensures, sized.source.0, sized.group.0); room = c.if-output-size.false });
      address_size_2 = (sized.source, sized.group);
    }

pub returns : goal.returns
unfolding flow_written flow_body is_discarded struct_fields
returns c =
    let fits = sym c.addresses_fit.ensures ∙ c.if-not-addresses_fit.false in
    wrote_as _ _ _ _ _ (all-given _ _ _ _ _ _ _ _ fits refl refl refl (flag-false _ _ c.is_discarded.ensures c.if-is_discarded.false) (omega (arith, c.flow_size-size.ensures, c.if-output-size.false))) c.put_flow.ensures
