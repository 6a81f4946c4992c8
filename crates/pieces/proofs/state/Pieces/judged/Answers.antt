-- `pieces::state::Pieces::judged` meets its contract.
use mathlib.Core.Path.{◌≡◌, refl, sym, ◌∙◌, ap}
use mathlib.Core.Bool.{Bool}
use Prim.Native.Nat.{ℕ}
use Rattle.octets.specs.Numbers.{DONE}
use Rattle.octets.specs.Refusals.{refusal_number, result_number}
use Rattle.octets.proofs.Refusals.{refusal_number-not_done}
use Rattle.runs.specs.declared.mode.Mode.{Mode}
use Rattle.runs.specs.Modes.{mode_by, mode_number, is_skipped}
use Rattle.runs.proofs.Turns.{skipped-by}
use Rattle.pieces.specs.declared.state.Pieces.{Pieces}
use Rattle.pieces.specs.declared.feeding.Fed.{Fed}
use Rattle.pieces.specs.Feeding.{stopped_of, judged_of}
use Rattle.pieces.proofs.Feeds.{judged-read, judged-skipped, judged-stopped}
use Rattle.pieces.proofs.state.Pieces.judged.Goals as goal

-- what the mode of a number says of a refusal
told : (mode number : ℕ) (m : Mode) (t b : Bool) → m ≡ mode_by mode → t ≡ is_skipped (mode_number m) number → t ≡ b → is_skipped mode number ≡ b
told mode number m t b is skips e = sym (skipped-by mode number) ∙ ap (λ (x : Mode). is_skipped (mode_number x) number) (sym is) ∙ sym skips ∙ e

-- the answer by another name of the judgement's number
named : (p : Pieces) (n m wanted share : ℕ) (fed : Fed) → m ≡ n → fed ≡ judged_of p n wanted share → fed ≡ judged_of p m wanted share
named p n m wanted share fed e h = h ∙ ap (λ (k : ℕ). judged_of p k wanted share) (sym e)

pub returns-in-Ok : goal.returns-in-Ok
returns-in-Ok c =
    let a = c.args in
    named a.self DONE _ a.wanted a.share _ (ap result_number c.in-Ok.is) (c.past.ensures ∙ sym (judged-read a.self DONE a.wanted a.share refl))

pub returns-in-Err : goal.returns-in-Err
returns-in-Err c =
    let a = c.args in
    let n = refusal_number c.in-Err.refusal in
    named a.self n _ a.wanted a.share _ (ap result_number c.in-Err.is)
    (c.past-in-Err.ensures ∙ sym (judged-skipped a.self n a.wanted a.share (refusal_number-not_done _) (told _ n _ _ _ c.from.ensures c.skips.ensures c.if-skips.true)))

pub returns-in-Err-2 : goal.returns-in-Err-2
returns-in-Err-2 c =
    let a = c.args in
    let n = refusal_number c.in-Err.refusal in
    named a.self n _ a.wanted a.share _ (ap result_number c.in-Err.is)
    (c.past-in-Err-2.ensures ∙ ap (λ (k : ℕ). stopped_of a.self k a.share) (c.number.ensures ∙ sym (ap result_number c.in-Err-2.is) ∙ ap result_number c.in-Err.is)
    ∙ sym (judged-stopped a.self n a.wanted a.share (refusal_number-not_done _) (told _ n _ _ _ c.from.ensures c.skips.ensures c.if-skips.false)))
