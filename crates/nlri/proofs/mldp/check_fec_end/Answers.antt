-- `nlri::mldp::check_fec_end` meets its contract.
use Rattle.std.proofs.Common.{List, sym, ap, ◌∙◌, arith, eq-eqb, ne_eqb}
use Rattle.octets.proofs.Choice.{pick_true, pick-false}
use Rattle.nlri.specs.Bodies.{FieldKind}
use Rattle.nlri.specs.Inner.{left_fault, after_fec}
use Rattle.nlri.proofs.Functions.Ends.{left-none, left-some, left-originator, left-other-originator}
use Rattle.nlri.proofs.mldp.check_fec_end.Goals as goal

pub returns-then-is_originator_size : goal.returns-then-is_originator_size
unfolding after_fec
returns-then-is_originator_size c bits at s e =
    left-originator bits _ at s _ e (sym c.is_originator_size.ensures ∙ c.if-is_originator_size.true)
    ∙ ap (λ (kinds : List FieldKind). left_fault bits c.args.route_type kinds at s) (sym (pick_true _ _ _ (eq-eqb _ _ c.if-route_type-eq-MLDP_S_PMSI.true)))

pub returns-then-route_type-eq-MLDP_S_PMSI : goal.returns-then-route_type-eq-MLDP_S_PMSI
unfolding after_fec
returns-then-route_type-eq-MLDP_S_PMSI c bits at s e =
    left-other-originator bits _ at s _ e (sym c.is_originator_size.ensures ∙ c.if-is_originator_size.false)
    ∙ ap (λ (kinds : List FieldKind). left_fault bits c.args.route_type kinds at s) (sym (pick_true _ _ _ (eq-eqb _ _ c.if-route_type-eq-MLDP_S_PMSI.true)))

pub returns-then-left-eq0 : goal.returns-then-left-eq0
unfolding after_fec
returns-then-left-eq0 c bits at s e =
    left-none bits _ at s (omega (arith, c.if-left-eq0.true))
    ∙ ap (λ (kinds : List FieldKind). left_fault bits c.args.route_type kinds at s) (sym (pick-false _ _ _ (ne_eqb _ _ c.if-route_type-eq-MLDP_S_PMSI.false)))

pub returns : goal.returns
unfolding after_fec
returns c bits at s e =
    left-some bits _ at s (λ q. c.if-left-eq0.false (omega arith))
    ∙ ap (λ (kinds : List FieldKind). left_fault bits c.args.route_type kinds at s) (sym (pick-false _ _ _ (ne_eqb _ _ c.if-route_type-eq-MLDP_S_PMSI.false)))
