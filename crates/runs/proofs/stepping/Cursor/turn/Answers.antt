-- `runs::turning::Cursor::turn` meets its contract.
use mathlib.Core.Path.{◌≡◌, sym, ◌∙◌, ap}
use mathlib.Core.List.{List}
use Prim.Native.Nat.{ℕ}
use native.Mathlib.Omega.{arith}
use Rattle.octets.specs.Numbers.{DONE}
use Rattle.std.proofs.Common.{Option, Some, None, Ok}
use Rattle.std.specs.Option.{MatchOption, IsSomeAnd}
use Rattle.runs.specs.declared.stepping.Step.{Step}
use Rattle.runs.specs.declared.turning.Turn.{Turn}
use Rattle.runs.specs.declared.turning.Turn.TheVariants as turn
use Rattle.runs.specs.Walking.{step_from, step_taken_of}
use Rattle.runs.specs.Modes.{Skipped, turn_from, turn_taken_of}
use Rattle.runs.proofs.Steps.{step-read, stops-ended, stops-refused}
use Rattle.runs.proofs.Turns.{never-skipped, within-skipped, turn-reads, turn-skips, turn-stops}
use Rattle.runs.proofs.stepping.Cursor.turn.Goals as goal

pub returns-then-not-skips : goal.returns-then-not-skips
unfolding turn_taken_of
returns-then-not-skips c = sym (turn-stops _ _ _ _ _ (stops-refused _ _ _ c.in-Err.ensures) (sym c.skips.ensures ∙ c.if-not-skips.true))

pub overflow_add-self : goal.overflow_add-self
overflow_add-self c = let h = within-skipped _ _ _ _ _ (stops-refused _ _ _ c.in-Err.ensures) (sym c.skips.ensures ∙ c.if-not-skips.false) in omega arith

pub bounds-run-self : goal.bounds-run-self
bounds-run-self c = let h = within-skipped _ _ _ _ _ (stops-refused _ _ _ c.in-Err.ensures) (sym c.skips.ensures ∙ c.if-not-skips.false) in omega arith

pub past-at-requires : goal.past-at-requires
past-at-requires c = let h = within-skipped _ _ _ _ _ (stops-refused _ _ _ c.in-Err.ensures) (sym c.skips.ensures ∙ c.if-not-skips.false) in omega arith

-- a step that refuses nothing, by what `map` makes of it
turned-by : (a : Option Step) (b : Option Turn) (P : Step → Turn → Type 0) → ((p : Step) (t : Turn) → P p t → t ≡ turn.Read p) → MatchOption a (b ≡ None) (λ p. IsSomeAnd b (P p))
    → (afi mode : ℕ) (run : List ℕ) (at : ℕ) → step_taken_of (Ok a) at ≡ step_from afi run at → turn_taken_of (Ok b) ≡ turn_from afi mode run at
unfolding turn_taken_of
turned-by None None P is m afi mode run at e = sym (turn-stops afi run at mode DONE (stops-ended _ at e) (never-skipped mode DONE (λ t. omega arith) (λ g. omega arith)))
turned-by None (Some t) P is m afi mode run at e = cc
turned-by (Some p) None P is m afi mode run at e = absurd m
turned-by (Some p) (Some t) P is m afi mode run at e = rw (is p t m) (sym (turn-reads afi run at mode p.layout p.next.at (step-read _ at p e)))

pub returns-in-Ok : goal.returns-in-Ok
returns-in-Ok c = turned-by _ _ _ (λ p t h. h) c.map.ensures.cases _ _ _ _ c.in-Ok.ensures

pub returns-else-not-skips : goal.returns-else-not-skips
unfolding turn_taken_of
returns-else-not-skips c =
    ap (λ n. Skipped (record { at = n })) c.past-at.ensures
    ∙ sym (turn-skips _ _ _ _ _ (stops-refused _ _ _ c.in-Err.ensures) (sym c.skips.ensures ∙ c.if-not-skips.false))
