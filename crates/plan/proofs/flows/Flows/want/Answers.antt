-- `plan::flows::Flows::want` meets its contract.
use Rattle.std.proofs.Common.{rules, tests, ◌∙◌, refl}
use Rattle.std.proofs.lemmas.Iterator.Consumers.{YieldsList-from_first}
use Rattle.std.proofs.lemmas.Iterator.Search.{any_from_yields_List}
use Rattle.octets.specs.Order.{same}
use Rattle.plan.proofs.Compared.{wanted-any}
use Rattle.plan.proofs.flows.Flows.want.Goals as goal

pub returns : goal.returns
returns c =
    any_from_yields_List (λ g. same g.wanted c.args.wanted.now) _ _ _ c.any.ensures.ran (YieldsList-from_first (λ x. x) (λ fs. fs) _ refl) (λ x b q k. search (rules, tests))
    ∙ wanted-any _ _
