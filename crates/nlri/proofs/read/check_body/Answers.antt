-- `nlri::read::check_body` meets its contract.
use Rattle.std.proofs.Common.{◌≡◌, ◌≤◌, ◌<◌, true, ◌⊎◌, inl, inr, ap, sym, ◌∙◌, arith, rules}
use Rattle.octets.specs.Choice.{either}
use Rattle.octets.specs.Refusals.{refusal_number}
use Rattle.octets.proofs.Refusals.{passed_on}
use Rattle.nlri.specs.Bodies.{to_seven, type_number}
use Rattle.nlri.specs.declared.route.RouteType.{RouteType}
use Rattle.nlri.specs.declared.route.RouteType.TheVariants.{MldpSPmsi, MldpLeaf, MldpSourceTreeJoin}
use Rattle.nlri.specs.Inner.{is_mldp}
use Rattle.nlri.proofs.Functions.Ends.{body_is, body-none}
use Rattle.nlri.proofs.Functions.Discards.{accepted-other, accepted-active}
use Rattle.nlri.proofs.read.check_body.Goals as goal

-- the types of RFC 7441
mldp-number : (t : RouteType) → (t ≡ MldpSPmsi) ⊎ ((t ≡ MldpLeaf) ⊎ (t ≡ MldpSourceTreeJoin)) → is_mldp (type_number t) ≡ true
unfolding is_mldp either
mldp-number t (inl e) = ap (λ (k : RouteType). is_mldp (type_number k)) e
mldp-number t (inr (inl e)) = ap (λ (k : RouteType). is_mldp (type_number k)) e
mldp-number t (inr (inr e)) = ap (λ (k : RouteType). is_mldp (type_number k)) e

pub returns-in_err-try_from : goal.returns-in_err-try_from
returns-in_err-try_from c =
    let why = c.in_err-try_from.ensures in
    passed_on _ _ c.from_residual.ensures.1 ∙ ap refusal_number why.0 ∙ body-none _ _ _ why.1 ∙ accepted-other _ _ _ (λ five. why.1 (to_seven (omega arith) (omega arith)))

pub returns-in-IntraAsIPmsi : goal.returns-in-IntraAsIPmsi
returns-in-IntraAsIPmsi c =
    let small : c.args.route_type ≤ 3 = search rules in
    c.check_keyable_body.ensures ∙ accepted-other _ _ _ (λ five. omega arith)

pub returns-in-Leaf : goal.returns-in-Leaf
returns-in-Leaf c =
    let four : c.args.route_type ≡ 4 = sym c.in_ok-try_from.ensures ∙ ap type_number c.in-Leaf.is in
    c.check_leaf_body.ensures ∙ body_is _ _ _ 4 four ∙ accepted-other _ _ _ (λ five. omega arith)

pub returns-in-SourceActive : goal.returns-in-SourceActive
returns-in-SourceActive c = c.check_source_active_body.ensures ∙ accepted-active _ _ _ (sym c.in_ok-try_from.ensures ∙ ap type_number c.in-SourceActive.is)

pub returns-in-SharedTreeJoin : goal.returns-in-SharedTreeJoin
returns-in-SharedTreeJoin c =
    let large : 5 < c.args.route_type = search rules in
    c.check_flow_body.ensures ∙ accepted-other _ _ _ (λ five. omega arith)

pub check_body-requires : goal.check_body-requires
check_body-requires c = ap is_mldp (sym c.in_ok-try_from.ensures) ∙ mldp-number _ c.in-MldpSPmsi.is

pub returns-in-MldpSPmsi : goal.returns-in-MldpSPmsi
returns-in-MldpSPmsi c =
    let large : 7 < c.args.route_type = search rules in
    c.check_body.ensures ∙ accepted-other _ _ _ (λ five. omega arith)
