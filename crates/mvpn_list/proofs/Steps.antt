-- How the lines go on by a turn of the walk.
use mathlib.Core.Path.{◌≡◌, sym, ◌∙◌, ap, ap₂}
use mathlib.Core.List.{List, ◌∷◌, [], ◌++◌, append_assoc}
use Prim.Native.Nat.{ℕ, suc, ◌+◌, ◌-◌, ◌≤◌, ◌<◌}
use native.Mathlib.Omega.{arith}
use Rattle.octets.specs.Octets.{part}
use Rattle.nlri.specs.declared.layout.Layout.{Layout}
use Rattle.runs.specs.declared.stepping.Cursor.{Cursor}
use Rattle.runs.specs.declared.walking.Walked.{Walked}
use Rattle.runs.specs.Walking.{StepTaken, read_to, ended_at, refused_at, step_under, step_from, NlriRead}
use Rattle.octets.proofs.Choice.{pick-case}
use Rattle.octets.proofs.Outcome.{refuses-by, on-case}
use Rattle.nlri.proofs.Definitions.ReadNumbers.{refuses-family, refuses-layout}
use lib.ListN.{drop}
use Rattle.std.proofs.Common.{Option, Some, None, Result, Ok, Err}
use Rattle.octets.specs.Numbers.{DONE}
use Rattle.octets.specs.Refusals.{refusal_number}
use Rattle.octets.specs.declared.refusal.Refusal.{Refusal}
use Rattle.runs.specs.declared.stepping.Step.{Step}
use Rattle.runs.specs.declared.turning.Turn.{Turn}
use Rattle.runs.specs.declared.turning.Turn.TheVariants as turn
use Rattle.runs.specs.Modes.{TurnTaken, turn_taken_of, Read, Skipped, Stopped, turn_from, walk_by_from, nlris_by_from}
use Rattle.runs.proofs.Nlris.{read-header}
use Rattle.nlri.proofs.Definitions.Table.{known-octet}
use Rattle.runs.proofs.Theorems.{step_rule}
use Rattle.runs.proofs.Steps.{step-moves, reads-step_from}
use Rattle.runs.proofs.Turns.{read_step, stopped-number, walk_by_from-read, walk_by_from-skipped, walk_by_from-stopped, nlris_by_from-read, nlris_by_from-skipped, nlris_by_from-stopped}
use Rattle.mvpn_list.specs.Listing.{nlri_line, nlri_lines, last_line}

-- a turn by the case of its result
module _ (r : Result (Option Turn) Refusal) (t : TurnTaken) (e : turn_taken_of r ≡ t) where
  pub was-read : (p : Step) → r ≡ Ok (Some (turn.Read p)) → t ≡ Read p.layout p.next
  unfolding turn_taken_of
  was-read p q = sym e ∙ ap turn_taken_of q

  pub was-skipped : (c : Cursor) → r ≡ Ok (Some (turn.Skipped c)) → t ≡ Skipped c
  unfolding turn_taken_of
  was-skipped c q = sym e ∙ ap turn_taken_of q

  pub was-end : r ≡ Ok None → t ≡ Stopped DONE
  unfolding turn_taken_of
  was-end q = sym e ∙ ap turn_taken_of q

  pub was-refused : (x : Refusal) → r ≡ Err x → t ≡ Stopped (refusal_number x)
  unfolding turn_taken_of
  was-refused x q = sym e ∙ ap turn_taken_of q

-- the number of a step has at most two digits
abbrev Small : StepTaken → Type 0
Small s = s.number < 100

step-number : (afi : ℕ) (run : List ℕ) (at : ℕ) → (step_from afi run at).number < 100
unfolding step_from step_under read_to ended_at refused_at
step-number afi run at =
    on-case Small _ _ _ (λ n e. omega (arith, refuses-by _ n (refuses-family afi) e))
    (λ bits _. pick-case Small _ _ _ (λ _. omega arith)
    (λ _. pick-case Small _ _ _ (λ _. omega arith)
    (λ _. pick-case Small _ _ _ (λ _. omega arith)
    (λ _. on-case Small _ _ _ (λ n e. omega (arith, refuses-by _ n (refuses-layout bits (drop at run)) e)) (λ _ _. omega arith)))))

pub stopped-small : (mode : ℕ) (run : List ℕ) (at n : ℕ) → turn_from 1 mode run at ≡ Stopped n → n < 100
stopped-small mode run at n e = omega (arith, stopped-number 1 run at mode n e, step-number 1 run at)

-- the numbers of a line have few digits
pub read-small : (mode : ℕ) (run : List ℕ) (at : ℕ) (l : Layout) (c : Cursor) → turn_from 1 mode run at ≡ Read l c → (at ≤ 4096) × (l.route_type < 256) × (l.length ≤ 4096)
unfolding read_to
read-small mode run at l c e =
    let is = read_step 1 run at mode l c e in
    let m = step-moves 1 run at l c.at is in
    let known = step_rule.typed 1 run at (ap (λ (s : StepTaken). s.read) is) in
    let typed = ap (λ (s : StepTaken). s.layout.route_type) is in
    let moved = (reads-step_from 1 run at (ap (λ (s : StepTaken). s.read) is)).cursor in
    let sized = ap (λ (s : StepTaken). s.layout.length) is in
    (omega arith, omega (arith, known-octet _ known), omega (arith, ap (λ (s : StepTaken). s.cursor) is))

-- the line of an NLRI that begins at an offset, by its layout
abbrev pub layout_line : (offset : ℕ) → Layout → List ℕ
layout_line offset l = nlri_line (record { offset = offset; octets = l.route_type ∷ (l.length ∷ []) })

nlri_line-layout : (run : List ℕ) (at : ℕ) (l : Layout) (c : ℕ) → step_from 1 run at ≡ read_to l c → nlri_line (record { offset = at; octets = part run at (c - at) }) ≡ layout_line at l
nlri_line-layout run at l c e =
    let h = read-header 1 run at l c e in
    ap₂ (λ (type size : ℕ). nlri_line (record { offset = at; octets = type ∷ (size ∷ []) })) h.0 h.1

-- the last line of a walk
abbrev pub last_of : (mode : ℕ) → Walked → List ℕ
last_of mode w = last_line mode w.number w.offset w.skipped

-- the lines of at most so many turns on from a cursor, with the count read and the number skipped so far
unfoldable pub lines_from : (left mode : ℕ) → List ℕ → (at count skipped : ℕ) → List ℕ
lines_from left mode run at count skipped = nlri_lines (nlris_by_from left 1 mode run at) ++ last_of mode (walk_by_from left 1 mode run at count skipped)

-- how they go on by a turn
module _ (left mode : ℕ) (run : List ℕ) (at count skipped : ℕ) where
  pub lines_from-read : (l : Layout) (c : Cursor) → turn_from 1 mode run at ≡ Read l c → lines_from (suc left) mode run at count skipped ≡ layout_line at l ++ lines_from left mode run c.at (count + 1) skipped
  unfolding lines_from nlri_lines
  lines_from-read l c e =
      let line : List ℕ = nlri_line (record { offset = at; octets = part run at (c.at - at) }) in
      let later : List ℕ = nlri_lines (nlris_by_from left 1 mode run c.at) in
      ap₂ (λ (ns : List NlriRead) (w : Walked). nlri_lines ns ++ last_of mode w) (nlris_by_from-read 1 run at mode left l c e) (walk_by_from-read 1 run at mode left count skipped l c e)
      ∙ append_assoc line later (last_of mode (walk_by_from left 1 mode run c.at (count + 1) skipped))
      ∙ ap (λ (x : List ℕ). x ++ lines_from left mode run c.at (count + 1) skipped) (nlri_line-layout run at l c.at (read_step 1 run at mode l c e))

  pub lines_from-skipped : (c : Cursor) → turn_from 1 mode run at ≡ Skipped c → lines_from (suc left) mode run at count skipped ≡ lines_from left mode run c.at count (skipped + 1)
  unfolding lines_from
  lines_from-skipped c e =
      ap₂ (λ (ns : List NlriRead) (w : Walked). nlri_lines ns ++ last_of mode w) (nlris_by_from-skipped 1 run at mode left c e) (walk_by_from-skipped 1 run at mode left count skipped c e)

  pub lines_from-stopped : (n : ℕ) → turn_from 1 mode run at ≡ Stopped n → lines_from (suc left) mode run at count skipped ≡ last_line mode n at skipped
  unfolding lines_from nlri_lines
  lines_from-stopped n e =
      ap₂ (λ (ns : List NlriRead) (w : Walked). nlri_lines ns ++ last_of mode w) (nlris_by_from-stopped 1 run at mode left n e) (walk_by_from-stopped 1 run at mode left count skipped n e)
