-- `nlri::body::check_flow_end` meets its contract.
use Rattle.std.proofs.Common.{List, [], ◌∷◌, sym, ap, ◌∙◌, eq-eqb, ne_eqb}
use Rattle.octets.proofs.Choice.{pick_true, pick-false}
use Rattle.nlri.specs.Bodies.{FieldKind, originator}
use Rattle.nlri.specs.Inner.{left_fault, after_flow}
use Rattle.nlri.proofs.body.check_flow_end.Goals as goal

pub returns-then-route_type-eq-S_PMSI : goal.returns-then-route_type-eq-S_PMSI
unfolding after_flow
returns-then-route_type-eq-S_PMSI c =
    let a = c.args in
    λ bits s l.
    c.check_originator.ensures bits a.route_type s l
    ∙ ap (λ (kinds : List FieldKind). left_fault bits a.route_type kinds a.at s) (sym (pick_true _ (originator ∷ []) [] (eq-eqb _ _ c.if-route_type-eq-S_PMSI.true)))

pub returns : goal.returns
unfolding after_flow
returns c =
    let a = c.args in
    λ bits s l.
    c.check_end.ensures bits a.route_type s l
    ∙ ap (λ (kinds : List FieldKind). left_fault bits a.route_type kinds a.at s) (sym (pick-false _ (originator ∷ []) [] (ne_eqb _ _ c.if-route_type-eq-S_PMSI.false)))
