-- `nlri::body::check_keyable_body` meets its contract.
use Rattle.std.proofs.Common.{refl, ◌∙◌, arith}
use Rattle.octets.specs.Choice.{pick}
use Rattle.nlri.specs.Bodies.{distinguisher, source_as, bodies, on_body}
use Rattle.nlri.specs.Reading.{field_size}
use Rattle.nlri.specs.Inner.{body_fault, after_flow}
use Rattle.nlri.proofs.Definitions.Table.{known-least}
use Rattle.nlri.proofs.Functions.Ends.{left-fixed, body_is, body-none}
use Rattle.nlri.proofs.body.check_keyable_body.Goals as goal

pub returns-then-route_type-eq-S_PMSI : goal.returns-then-route_type-eq-S_PMSI
unfolding body_fault on_body bodies after_flow pick field_size
returns-then-route_type-eq-S_PMSI c = c.check_flow.ensures ∙ left-fixed _ 3 distinguisher _ 8 0 _ (λ y. refl) ∙ body_is _ _ _ 3 c.if-route_type-eq-S_PMSI.true

pub returns-then-route_type-eq-INTRA_AS_I_PMSI : goal.returns-then-route_type-eq-INTRA_AS_I_PMSI
unfolding body_fault on_body bodies pick field_size
returns-then-route_type-eq-INTRA_AS_I_PMSI c = c.check_originator.ensures _ 1 _ refl ∙ left-fixed _ 1 distinguisher _ 8 0 _ (λ y. refl) ∙ body_is _ _ _ 1 c.if-route_type-eq-INTRA_AS_I_PMSI.true

pub returns-then-route_type-eq-INTER_AS_I_PMSI : goal.returns-then-route_type-eq-INTER_AS_I_PMSI
unfolding body_fault on_body bodies pick field_size
returns-then-route_type-eq-INTER_AS_I_PMSI c = c.check_end.ensures _ 2 _ refl ∙ left-fixed _ 2 source_as _ 4 8 _ (λ y. refl) ∙ left-fixed _ 2 distinguisher _ 8 0 _ (λ y. refl) ∙ body_is _ _ _ 2 c.if-route_type-eq-INTER_AS_I_PMSI.true

pub returns : goal.returns
returns c = body-none _ _ _ (λ known. omega (arith, known-least _ known))
