-- A turn of the walk, in the words of its number and values.
use mathlib.Core.Path.{◌≡◌, refl, sym, ◌∙◌, ap, ap₂}
use mathlib.Core.Logic.{⊎_elim}
use Prim.Native.Nat.{◌+◌}
use borrow.Author.Tests.{ne_eqb}
use lib.Dec.{eqb}
use lib.ListN.{length}
use Rattle.std.proofs.Common.{Option, Some, None, Result, Ok, Err}
use Rattle.octets.specs.Choice.{pick}
use Rattle.octets.specs.Numbers.{DONE}
use Rattle.octets.specs.declared.refusal.Refusal.{Refusal}
use Rattle.octets.proofs.Choice.{opposite, pick-false}
use Rattle.octets.proofs.Refusals.{refusal_number-not_done}
use Rattle.nlri.specs.Fields.{encode_nlri}
use Rattle.nlri.specs.Rules.NlriRules.{layout_for}
use Rattle.runs.specs.declared.turning.Turn.{Turn}
use Rattle.runs.specs.declared.turning.Turn.TheVariants as turn
use Rattle.runs.specs.Modes.{TurnTaken, Read, Skipped, Stopped, SKIP, Turned, turn_taken_of, turned_of}
use Rattle.runs.specs.Rules.ModeRule.{TurnRule}
use Rattle.runs.proofs.Refusals.{refusal_by, refusal_by-number}
use Rattle.runs.proofs.Steps.{stops-ended_at, stops-refused_at}
use Rattle.runs.proofs.StepRule.{step_rule, cursor-same}
use Rattle.runs.proofs.Turns.{skips, skippable-apart, not-skipped, turn-reads, turn-skips, turn-stops}

turns-apart : (a b : TurnTaken) → turned_of a ≡ turned_of b → a ≡ b
unfolding turned_of
turns-apart (Read l c) (Read m d) e = ap₂ Read (ap (λ (t : Turned). t.layout) e) (cursor-same c d (ap (λ (t : Turned). t.cursor) e))
turns-apart (Read l c) (Skipped d) e = absurd (opposite refl (ap (λ (t : Turned). t.read) e))
turns-apart (Read l c) (Stopped n) e = absurd (opposite refl (ap (λ (t : Turned). t.read) e))
turns-apart (Skipped c) (Read m d) e = absurd (opposite refl (ap (λ (t : Turned). t.read) (sym e)))
turns-apart (Skipped c) (Skipped d) e = ap Skipped (cursor-same c d (ap (λ (t : Turned). t.cursor) e))
turns-apart (Skipped c) (Stopped n) e = absurd (opposite refl (ap (λ (t : Turned). t.skipped) e))
turns-apart (Stopped n) (Read m d) e = absurd (opposite refl (ap (λ (t : Turned). t.read) (sym e)))
turns-apart (Stopped n) (Skipped d) e = absurd (opposite refl (ap (λ (t : Turned). t.skipped) (sym e)))
turns-apart (Stopped n) (Stopped m) e = ap Stopped (ap (λ (t : Turned). t.number) e)

-- the result of a turn by its number and values
result_by : Turned → Result (Option Turn) Refusal
result_by t =
    pick t.read (Ok (Some (turn.Read (record { layout = t.layout; next = record { at = t.cursor } }))))
    (pick t.skipped (Ok (Some (turn.Skipped (record { at = t.cursor })))) (pick (eqb t.number DONE) (Ok None) (Err (refusal_by t.number))))

result_by-turned : (r : Result (Option Turn) Refusal) → result_by (turned_of (turn_taken_of r)) ≡ r
unfolding result_by turned_of turn_taken_of pick
result_by-turned (Ok (Some (turn.Read step))) = refl
result_by-turned (Ok (Some (turn.Skipped next))) = refl
result_by-turned (Ok None) = refl
result_by-turned (Err refusal) = pick-false _ _ _ (ne_eqb _ _ (refusal_number-not_done refusal)) ∙ ap Err (refusal_by-number refusal)

results-apart : (a b : Result (Option Turn) Refusal) → turned_of (turn_taken_of a) ≡ turned_of (turn_taken_of b) → a ≡ b
results-apart a b e = sym (result_by-turned a) ∙ ap result_by e ∙ result_by-turned b

pub turn_rule : TurnRule
unfolding turned_of
turn_rule =
    record {
      reads = λ afi mode run at f h. ap turned_of (turn-reads afi run at mode (layout_for f) (at + length (encode_nlri f)) (step_rule.reads afi run at f h));
      skips = λ afi run at n a why s. ap turned_of (turn-skips afi run at SKIP n (stops-refused_at n at ((step_rule.refuses afi run at n a).1 why)) (skips n s));
      ends = λ afi mode run at h. ap turned_of (turn-stops afi run at mode 0 (stops-ended_at at ((step_rule.ends afi run at).1 h)) (not-skipped mode DONE (λ _ z. (skippable-apart DONE z).0 refl)));
      stops = λ afi mode run at n a why other. ap turned_of (turn-stops afi run at mode n (stops-refused_at n at ((step_rule.refuses afi run at n a).1 why)) (not-skipped mode n (λ m t. ⊎_elim (λ old. old m) (λ o. o t) other)));
      apart = turns-apart;
      results_apart = results-apart;
    }
