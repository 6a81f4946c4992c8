-- `nlri::body::check_flow_body` meets its contract.
use Rattle.std.proofs.Common.{ℕ, ◌-◌, ◌∷◌, ap, ◌∙◌, arith}
use Rattle.nlri.specs.Bodies.{source, group}
use Rattle.nlri.specs.Inner.{left_fault, after_flow}
use Rattle.nlri.proofs.Functions.Ends.{body-flow, start-least, start-most}
use Rattle.nlri.proofs.body.check_flow_body.Goals as goal

pub overflow_sub-source_start : goal.overflow_sub-source_start
overflow_sub-source_start c = omega (arith, c.source_start.ensures, start-least c.args.route_type)

pub check_flow-requires : goal.check_flow-requires
check_flow-requires c = omega (arith, c.source_start.ensures, start-most c.args.route_type)

pub returns : goal.returns
returns c =
    let a = c.args in
    c.check_flow.ensures
    ∙ ap (λ (at : ℕ). left_fault a.kind.bits 5 (source ∷ group ∷ after_flow 5) (at - 3) a.s.now) c.source_start.ensures
    ∙ body-flow _ _ _ c.requires.0 c.requires.1
