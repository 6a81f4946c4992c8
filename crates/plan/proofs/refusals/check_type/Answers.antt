-- `plan::refusals::check_type` meets its contract.
use mathlib.Core.Path.{◌∙◌, refl, sym}
use Rattle.octets.proofs.Refusals.{passed_on, refusal_number-not_done}
use Rattle.plan.proofs.Checks.{type-unread, type-within, type-none, type-some}
use Rattle.plan.proofs.refusals.check_type.Goals as goal

pub returns-in_err-check : goal.returns-in_err-check
returns-in_err-check c = passed_on _ _ c.from_residual.ensures.1 ∙ type-unread _ _ c.in_err-check.ensures (refusal_number-not_done _) _ (sym c.wanted-wanted.ensures)

pub bounds-wanted-1 : goal.bounds-wanted-1
bounds-wanted-1 c = type-within _ _ c.in_ok-check.ensures refl

pub returns-then-wanted : goal.returns-then-wanted
returns-then-wanted c = type-none _ _ c.in_ok-check.ensures refl c.if-wanted.true _ (sym c.wanted-wanted.ensures)

pub returns : goal.returns
returns c = type-some _ _ c.in_ok-check.ensures refl c.if-wanted.false _ (sym c.wanted-wanted.ensures)
