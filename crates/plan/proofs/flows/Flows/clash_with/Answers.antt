-- `plan::flows::Flows::clash_with` meets its contract.
use Rattle.std.proofs.Common.{rules, tests, ◌∙◌, refl, not}
use Rattle.std.proofs.lemmas.Iterator.Consumers.{YieldsList-from_first}
use Rattle.std.proofs.lemmas.Iterator.Search.{any_from_yields_List}
use Rattle.octets.specs.Choice.{both}
use Rattle.octets.specs.Order.{same}
use Rattle.plan.specs.Flows.{same_flow}
use Rattle.plan.proofs.Compared.{clashes-any}
use Rattle.plan.proofs.flows.Flows.clash_with.Goals as goal

pub returns : goal.returns
returns c =
    any_from_yields_List (λ g. both (same_flow c.args.flow.now g) (not (same c.args.flow.now.wanted g.wanted))) _ _ _ c.any.ensures.ran (YieldsList-from_first (λ x. x) (λ fs. fs) _ refl) (λ x b q k. search (rules, tests))
    ∙ clashes-any _ _
