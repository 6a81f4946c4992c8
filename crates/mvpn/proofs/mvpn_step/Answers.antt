-- `mvpn::mvpn_step` meets its contract.
use mathlib.Core.Path.{sym, ◌∙◌, ap}
use Rattle.std.proofs.Common.{ℕ, Option, Some, Result, Ok}
use Rattle.octets.specs.declared.refusal.Refusal.{Refusal}
use Rattle.runs.specs.declared.stepping.Step.{Step}
use Rattle.runs.specs.Walking.{step_taken_of, read_to, ended_at, refused_at}
use Rattle.mvpn.specs.Answers.{step_answer}
use Rattle.mvpn.proofs.mvpn_step.Goals as goal

pub returns-in-Ok-Some : goal.returns-in-Ok-Some
unfolding step_answer step_taken_of read_to
returns-in-Ok-Some c =
    ap step_answer (ap (λ (r : Result (Option Step) Refusal). step_taken_of r c.args.cursor) (sym (c.in-Ok-Some.is ∙ ap Ok c.in-Ok-Some.field-0-is)) ∙ c.step.ensures)

pub returns-in-Ok-None : goal.returns-in-Ok-None
unfolding step_answer step_taken_of ended_at refused_at
returns-in-Ok-None c =
    c.stopped.ensures ∙ ap step_answer (ap (λ (r : Result (Option Step) Refusal). step_taken_of r c.args.cursor) (sym (c.in-Ok-None.is ∙ ap Ok c.in-Ok-None.field-0-is)) ∙ c.step.ensures)

pub returns-in-Err : goal.returns-in-Err
unfolding step_taken_of
returns-in-Err c =
    c.stopped-in-Err.ensures ∙ ap (λ (n : ℕ). step_answer (refused_at n c.args.cursor)) c.number-number.ensures
    ∙ ap step_answer (ap (λ (r : Result (Option Step) Refusal). step_taken_of r c.args.cursor) (sym c.in-Err.is) ∙ c.step.ensures)
