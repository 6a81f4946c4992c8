-- `runs::stepping::Cursor::step` meets its contract.
use mathlib.Core.Path.{sym, ◌∙◌, ap}
use native.Mathlib.Omega.{arith}
use lib.ListN.{length, length-drop}
use Rattle.nlri.proofs.Functions.Fronts.{layout-octets}
use Rattle.runs.specs.Walking.{step_taken_of, read_to}
use Rattle.runs.proofs.Steps.{step-passed, step-family, step-long, step_end, step_past, step-accepted, step-unaccepted}
use Rattle.runs.proofs.stepping.Cursor.step.Goals as goal

pub returns-in_err-kind : goal.returns-in_err-kind
returns-in_err-kind c = step-passed _ _ _ c.from_residual.ensures.1 ∙ sym (step-family _ _ _ _ (sym c.in_err-kind.ensures))

pub returns-then-run-gt-RUN : goal.returns-then-run-gt-RUN
unfolding step_taken_of
returns-then-run-gt-RUN c = sym (step-long _ _ _ _ (sym c.in_ok-kind.ensures) c.if-run-gt-RUN.true)

pub returns-then-self-run : goal.returns-then-self-run
unfolding step_taken_of
returns-then-self-run c = sym (step_end _ _ _ _ (sym c.in_ok-kind.ensures) c.if-run-gt-RUN.false c.if-self-run.true)

pub returns-then-run-self : goal.returns-then-run-self
unfolding step_taken_of
returns-then-run-self c = sym (step_past _ _ _ _ (sym c.in_ok-kind.ensures) c.if-run-gt-RUN.false c.if-run-self.true)

pub returns-in-Err : goal.returns-in-Err
unfolding step_taken_of
returns-in-Err c =
    let a = c.args in
    sym (step-unaccepted a.afi a.run.now a.self.at _ (sym c.in_ok-kind.ensures) c.if-run-gt-RUN.false (omega arith) _ (rw (← c.after.ensures) (sym c.in-Err.ensures)))

pub past-at-requires : goal.past-at-requires
past-at-requires c =
    let a = c.args in
    let h = (layout-octets _ _ _ (sym c.in-Ok.ensures)).1 in
    let s = ap length c.after.ensures ∙ length-drop a.self.at a.run.now in
    omega (arith, c.if-run-gt-RUN.false)

pub returns-in-Ok : goal.returns-in-Ok
unfolding step_taken_of
returns-in-Ok c =
    let a = c.args in
    ap (read_to c.in-Ok.layout) c.past-at.ensures
    ∙ sym (step-accepted a.afi a.run.now a.self.at _ (sym c.in_ok-kind.ensures) c.if-run-gt-RUN.false (omega arith) _ (rw (← c.after.ensures) (sym c.in-Ok.ensures)))
