-- `mvpn_list::listing::Listing::fmt` meets its contract.
use mathlib.Core.Path.{refl, ◌∙◌, ap}
use mathlib.Core.List.{List}
use Prim.Native.Nat.{ℕ}
use native.Mathlib.Omega.{arith}
use Rattle.std.proofs.Common.{Some, Ok}
use Rattle.std.specs.Fmt.{HasWritten}
use Rattle.std.proofs.Output.{has_written_of_eq, has_written_append}
use Rattle.octets.specs.Numbers.{DONE}
use Rattle.octets.specs.Refusals.{refusal_number, result_number}
use Rattle.runs.specs.Modes.{mode_number}
use Rattle.runs.proofs.Turns.{skipped-moves}
use Rattle.mvpn_list.specs.declared.listing.Stop.{Stop}
use Rattle.mvpn_list.specs.Listing.{header_line, last_line}
use Rattle.mvpn_list.proofs.Texts.{line-text}
use Rattle.mvpn_list.proofs.Steps.{read-small, was-read, was-skipped, was-end, was-refused}
use Rattle.mvpn_list.proofs.Lines.{listed-first, read-moves, listed-read, skipped-few, listed-skipped, listed-last}
use Rattle.mvpn_list.proofs.listing.ListingDisplay.fmt.Goals as goal

pub loop-turn-init : goal.loop-turn-init
unfolding header_line
loop-turn-init g c = listed-first _ _ _ (λ p. c.in_ok-writeln.ensures.writes p refl)

pub loop-turn-smaller-in-Skipped : goal.loop-turn-smaller-in-Skipped
loop-turn-smaller-in-Skipped g c =
    let m = skipped-moves _ _ _ _ _ (was-skipped _ _ c.turn.ensures c.in-Skipped.next (c.in-Ok-Some.is ∙ ap Ok (c.in-Ok-Some.field-0-is ∙ ap Some c.in-Skipped.is))) in
    omega arith

pub overflow_add-skipped : goal.overflow_add-skipped
overflow_add-skipped g c =
    let few = skipped-few _ _ _ _ _ c.loop-turn.invariant _ (was-skipped _ _ c.turn.ensures c.in-Skipped.next (c.in-Ok-Some.is ∙ ap Ok (c.in-Ok-Some.field-0-is ∙ ap Some c.in-Skipped.is))) in
    omega arith

pub loop-turn-preserved-in-Skipped : goal.loop-turn-preserved-in-Skipped
loop-turn-preserved-in-Skipped g c =
    listed-skipped _ _ _ _ _ c.loop-turn.invariant _ (was-skipped _ _ c.turn.ensures c.in-Skipped.next (c.in-Ok-Some.is ∙ ap Ok (c.in-Ok-Some.field-0-is ∙ ap Some c.in-Skipped.is)))

pub loop-turn-smaller : goal.loop-turn-smaller
loop-turn-smaller g c =
    let e = was-read _ _ c.turn.ensures c.in-Read.step (c.in-Ok-Some.is ∙ ap Ok (c.in-Ok-Some.field-0-is ∙ ap Some c.in-Read.is)) in
    let m = read-moves _ _ _ _ _ c.loop-turn.invariant _ _ e in
    omega arith

pub loop-turn-preserved : goal.loop-turn-preserved
loop-turn-preserved g c =
    let l = c.in-Read.step.layout in
    let e = was-read _ _ c.turn.ensures c.in-Read.step (c.in-Ok-Some.is ∙ ap Ok (c.in-Ok-Some.field-0-is ∙ ap Some c.in-Read.is)) in
    let small = read-small _ _ c.loop-turn.cursor.at l _ e in
    listed-read _ _ _ _ _ c.loop-turn.invariant _ _ e _
    (λ bs w p. has_written_append _ _ _ _ _ _ (w p)
    (has_written_of_eq _ _ _ _ _ (line-text c.loop-turn.cursor.at l.route_type l.length (omega arith) (omega arith) (omega arith)) (c.in_ok-writeln-2.ensures.writes (w p).plain refl)))

-- the last line of a stop
line_of_stop : Stop → List ℕ
line_of_stop s = last_line (mode_number s.mode) (result_number s.judgement) s.offset s.skipped

pub returns-in-Ok-None-clause-writes : goal.returns-in-Ok-None-clause-writes
unfolding line_of_stop
returns-in-Ok-None-clause-writes g c = λ p ok.
    listed-last _ _ _ _ _ c.loop-turn.invariant DONE (was-end _ _ c.turn.ensures (c.in-Ok-None.is ∙ ap Ok c.in-Ok-None.field-0-is)) (λ bs. HasWritten g.W.Write.write_str_gives c.args.f.now bs c.fmt.new.f)
    (λ bs w. has_written_append _ _ _ _ _ _ (w p) (has_written_of_eq _ _ _ _ _ (ap line_of_stop c.stop.ensures) (c.fmt.ensures.writes (w p).plain ok)))

pub returns-in-Err-clause-writes : goal.returns-in-Err-clause-writes
unfolding line_of_stop
returns-in-Err-clause-writes g c = λ p ok.
    listed-last _ _ _ _ _ c.loop-turn.invariant (refusal_number c.in-Err.refusal) (was-refused _ _ c.turn.ensures _ c.in-Err.is) (λ bs. HasWritten g.W.Write.write_str_gives c.args.f.now bs c.fmt-in-Err.new.f)
    (λ bs w. has_written_append _ _ _ _ _ _ (w p) (has_written_of_eq _ _ _ _ _ (ap line_of_stop c.stop-in-Err.ensures) (c.fmt-in-Err.ensures.writes (w p).plain ok)))
