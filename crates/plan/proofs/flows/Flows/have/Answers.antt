-- `plan::flows::Flows::have` meets its contract.
use Rattle.std.proofs.Common.{rules, tests, ◌∙◌, refl}
use Rattle.std.proofs.lemmas.Iterator.Consumers.{YieldsList-from_first}
use Rattle.std.proofs.lemmas.Iterator.Search.{any_from_yields_List}
use Rattle.plan.specs.Flows.{same_flow}
use Rattle.plan.proofs.Compared.{listed-any}
use Rattle.plan.proofs.flows.Flows.have.Goals as goal

pub returns : goal.returns
returns c =
    any_from_yields_List (λ g. same_flow c.args.flow.now g) _ _ _ c.any.ensures.ran (YieldsList-from_first (λ x. x) (λ fs. fs) _ refl) (λ x b q k. search (rules, tests))
    ∙ listed-any _ _
