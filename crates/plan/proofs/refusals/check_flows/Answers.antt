-- `plan::refusals::check_flows` meets its contract.
use mathlib.Core.Path.{◌∙◌}
use borrow.Author.Rules.{rules}
use Rattle.octets.proofs.Refusals.{passed_on, refusal_number-not_done}
use Rattle.plan.specs.Refusing.{attributes_fault, flows_fault}
use Rattle.plan.specs.Inner.{conflict_fault}
use Rattle.plan.proofs.Checks.{stops, goes}
use Rattle.plan.proofs.refusals.check_flows.Goals as goal

pub returns-in_err-check_vrf : goal.returns-in_err-check_vrf
unfolding flows_fault
returns-in_err-check_vrf c = passed_on _ _ c.from_residual.ensures.1 ∙ stops _ _ _ c.in_err-check_vrf.ensures (refusal_number-not_done _)

pub returns-in_err-check_each : goal.returns-in_err-check_each
unfolding flows_fault attributes_fault
returns-in_err-check_each c = passed_on _ _ c.from_residual-in_err-check_each.ensures.1 ∙ goes _ _ _ c.in_ok-check_vrf.ensures (stops _ _ _ (c.in_err-check_each.ensures _ (λ f r p. search rules)) (refusal_number-not_done _))

pub returns-in_err-check_each-2 : goal.returns-in_err-check_each-2
unfolding flows_fault attributes_fault
returns-in_err-check_each-2 c = passed_on _ _ c.from_residual-in_err-check_each-2.ensures.1 ∙ goes _ _ _ c.in_ok-check_vrf.ensures (goes _ _ _ (c.in_ok-check_each.ensures _ (λ f r p. search rules)) (stops _ _ _ (c.in_err-check_each-2.ensures _ (λ f r p. search rules)) (refusal_number-not_done _)))

pub returns-in_err-check_each-3 : goal.returns-in_err-check_each-3
unfolding flows_fault attributes_fault
returns-in_err-check_each-3 c = passed_on _ _ c.from_residual-in_err-check_each-3.ensures.1 ∙ goes _ _ _ c.in_ok-check_vrf.ensures (goes _ _ _ (c.in_ok-check_each.ensures _ (λ f r p. search rules)) (goes _ _ _ (c.in_ok-check_each-2.ensures _ (λ f r p. search rules)) (stops _ _ _ (c.in_err-check_each-3.ensures _ (λ f r p. search rules)) (refusal_number-not_done _))))

pub returns-in_err-check_each-4 : goal.returns-in_err-check_each-4
unfolding flows_fault attributes_fault
returns-in_err-check_each-4 c = passed_on _ _ c.from_residual-in_err-check_each-4.ensures.1 ∙ goes _ _ _ c.in_ok-check_vrf.ensures (goes _ _ _ (c.in_ok-check_each.ensures _ (λ f r p. search rules)) (goes _ _ _ (c.in_ok-check_each-2.ensures _ (λ f r p. search rules)) (goes _ _ _ (c.in_ok-check_each-3.ensures _ (λ f r p. search rules)) (stops _ _ _ (c.in_err-check_each-4.ensures _ (λ f r p. search rules)) (refusal_number-not_done _)))))

pub returns : goal.returns
unfolding flows_fault attributes_fault conflict_fault
returns c = goes _ _ _ c.in_ok-check_vrf.ensures (goes _ _ _ (c.in_ok-check_each.ensures _ (λ f r p. search rules)) (goes _ _ _ (c.in_ok-check_each-2.ensures _ (λ f r p. search rules)) (goes _ _ _ (c.in_ok-check_each-3.ensures _ (λ f r p. search rules)) (goes _ _ _ (c.in_ok-check_each-4.ensures _ (λ f r p. search rules)) (c.check_conflicts.ensures)))))
