-- `runs::walking::Walked::go_on` meets its contract.
use mathlib.Core.Path.{refl, ◌∙◌, sym, ap, ap₂}
use Prim.Native.Nat.{ℕ}
use native.Mathlib.Omega.{arith}
use Rattle.octets.proofs.Refusals.{refusal_number-not_done, passed_on}
use Rattle.runs.specs.declared.walking.Walked.{Walked}
use Rattle.runs.specs.Walking.{walked_with}
use Rattle.runs.proofs.Going.{walk-family, walk-long, going-first, going-last, going-refused, read-within, going-read, skipped-within, going-skipped}
use Rattle.runs.proofs.walking.Walked.go_on.Goals as goal
use Rattle.runs.proofs.walking.Walked.go_on.Goals.{in-Ok, in-Err+else-not-skips}

-- with another number
numbered : ℕ → Walked → Walked
numbered n w = walked_with n w.count w.offset w.skipped

pub returns-in_err-kind : goal.returns-in_err-kind
unfolding numbered
returns-in_err-kind c = (ap₂ numbered (passed_on _ _ c.from_residual.ensures.1) c.requires ∙ walk-family _ _ _ _ (sym c.in_err-kind.ensures))

pub returns-then-run-gt-RUN : goal.returns-then-run-gt-RUN
unfolding numbered
returns-then-run-gt-RUN c = (ap (numbered _) c.requires ∙ walk-long _ _ _ _ (sym c.in_ok-kind.ensures) c.if-run-gt-RUN.true)

pub loop-at-init : goal.loop-at-init
loop-at-init c = rw c.requires (record { going = going-first _ _ _ _ (sym c.in_ok-kind.ensures) c.if-run-gt-RUN.false; offset = refl })

pub returns-then-not-skips : goal.returns-then-not-skips
returns-then-not-skips c =
    rw c.loop-at.invariant.offset
    (going-refused _ _ _ _ _ _ _ c.loop-at.invariant.going c.loop-at-test.true _ c.after.ensures _ c.in-Err.ensures (refusal_number-not_done _) (sym c.skips.ensures ∙ c.if-not-skips.true))

pub bounds-run-at : goal.bounds-run-at
bounds-run-at c =
    elim c.match-check_front_fast.branch [
      | in-Ok w ↦ let h = read-within _ _ _ _ _ _ _ c.loop-at.invariant.going c.loop-at-test.true _ c.after.ensures _ w.in-Ok.ensures refl in omega arith
      | in-Err+else-not-skips w ↦ let h = skipped-within _ _ _ _ _ _ _ c.loop-at.invariant.going c.loop-at-test.true _ c.after.ensures _ w.in-Err.ensures (sym w.skips.ensures ∙ w.if-not-skips.false) in omega arith
    ]

pub past-at-requires : goal.past-at-requires
past-at-requires c =
    let g = c.loop-at.invariant.going in
    elim c.match-check_front_fast.branch [
      | in-Ok w ↦ let h = read-within _ _ _ _ _ _ _ c.loop-at.invariant.going c.loop-at-test.true _ c.after.ensures _ w.in-Ok.ensures refl in omega (arith, g.short)
      | in-Err+else-not-skips w ↦ let h = skipped-within _ _ _ _ _ _ _ c.loop-at.invariant.going c.loop-at-test.true _ c.after.ensures _ w.in-Err.ensures (sym w.skips.ensures ∙ w.if-not-skips.false) in omega (arith, g.short)
    ]

pub loop-at-preserved : goal.loop-at-preserved
loop-at-preserved c =
    elim c.match-check_front_fast.branch [
      | in-Ok w ↦
          record {
            going = going-read _ _ _ _ _ _ _ c.loop-at.invariant.going c.loop-at-test.true _ c.after.ensures _ w.in-Ok.ensures refl _ c.past-at.ensures _ _ (ap (λ (x : Walked). x.count) w.self-is) (ap (λ (x : Walked). x.skipped) w.self-is);
            offset = refl;
          }
      | in-Err+else-not-skips w ↦
          record {
            going = going-skipped _ _ _ _ _ _ _ c.loop-at.invariant.going c.loop-at-test.true _ c.after.ensures _ w.in-Err.ensures (sym w.skips.ensures ∙ w.if-not-skips.false) _ c.past-at.ensures _ _ (ap (λ (x : Walked). x.count) w.self-is) (ap (λ (x : Walked). x.skipped) w.self-is);
            offset = refl;
          }
    ]

pub returns : goal.returns
returns c = (rw c.loop-at.invariant.offset (going-last _ _ _ _ _ _ _ c.loop-at.invariant.going c.loop-at-test.false))
