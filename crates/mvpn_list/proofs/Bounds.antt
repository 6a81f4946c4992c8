-- How long the listing of a run is at most.
use mathlib.Core.Path.{◌≡◌, refl, ◌∙◌, ap}
use mathlib.Core.List.{List, [], ◌∷◌, ◌++◌}
use Prim.Native.Nat.{ℕ, zero, suc, ◌+◌, ◌*◌, ◌^◌, ◌≤◌, ◌<◌}
use native.Mathlib.Omega.{arith}
use lib.ListN.{length, length-append}
use Rattle.octets.specs.Numbers.{DONE}
use Rattle.nlri.proofs.Definitions.Table.{known-octet}
use Rattle.runs.specs.Walking.{StepTaken, read_to}
use Rattle.runs.specs.Modes.{TurnTaken, Read, Skipped, Stopped, turn_from, walk_by_from, walk_by, nlris_by_from, nlris_by}
use Rattle.runs.proofs.Theorems.{step_rule}
use Rattle.runs.proofs.Steps.{step-moves, reads-step_from}
use Rattle.runs.proofs.Turns.{read_step, skipped-moves}
use Rattle.mvpn_list.specs.Listing.{decimal_of, field_of, line_of, nlri_lines, opening_of, last_fields, last_line, header_line, lines_of, listing_of}
use Rattle.octets.proofs.Choice.{pick-case}
use Rattle.mvpn_list.proofs.Decimals.{length-decimal_of}
use Rattle.mvpn_list.proofs.Steps.{stopped-small, layout_line, lines_from, lines_from-read, lines_from-skipped, lines_from-stopped}

length-field_of : (k n ending : ℕ) → n < 10 ^ suc k → length (field_of n ending) ≤ suc (suc k)
unfolding field_of
length-field_of k n ending h = omega (arith, length-append (decimal_of n) (ending ∷ []), length-decimal_of k n h)

length-line_of : (offset type size : ℕ) → offset ≤ 4096 → type < 256 → size ≤ 4096 → length (line_of offset type size) ≤ 14
unfolding line_of
length-line_of offset type size h k l =
    let a = length-field_of 3 offset 32 (omega arith) in
    let b = length-field_of 2 type 32 (omega arith) in
    let d = length-field_of 3 size 10 (omega arith) in
    simp length-append (omega arith)

length-last_fields : (mode n skipped : ℕ) → n < 100 → skipped ≤ 4096 → length (last_fields mode n skipped) ≤ 8
unfolding last_fields
length-last_fields mode n skipped h k =
    let a = length-field_of 1 n 32 (omega arith) in
    let b = length-field_of 3 skipped 10 (omega arith) in
    let d = length-field_of 1 n 10 (omega arith) in
    pick-case (λ (x : List ℕ). length x ≤ 8) _ _ _ (λ _. omega (arith, length-append (field_of n 32) (field_of skipped 10))) (λ _. omega arith)

length-last_line : (mode n offset skipped : ℕ) → n < 100 → offset ≤ 4096 → skipped ≤ 4096 → length (last_line mode n offset skipped) ≤ 18
unfolding last_line opening_of
length-last_line mode n offset skipped h k l =
    let o : length (opening_of n) ≤ 5 = pick-case (λ (x : List ℕ). length x ≤ 5) _ _ _ (λ _. omega arith) (λ _. omega arith) in
    let a = length-field_of 3 offset 32 (omega arith) in
    let b = length-last_fields mode n skipped h l in
    omega (arith, length-append (opening_of n) (field_of offset 32 ++ last_fields mode n skipped), length-append (field_of offset 32) (last_fields mode n skipped))

module _ (mode : ℕ) (run : List ℕ) where
  abbrev Within : (left at count skipped : ℕ) → Type 0
  Within left at count skipped = length (lines_from left mode run at count skipped) + 7 * at ≤ 7 * 4096 + 18

  length-lines_from : (left at count skipped : ℕ) → at ≤ 4096 → skipped ≤ at → Within left at count skipped
  unfolding lines_from nlris_by_from walk_by_from nlri_lines read_to
  length-lines_from zero at count skipped h k = let last = length-last_line mode DONE at skipped (omega arith) h (omega arith) in omega arith
  length-lines_from (suc left) at count skipped h k = within-next (turn_from 1 mode run at) refl (length-lines_from left)
    where
      within-next : (t : TurnTaken) → turn_from 1 mode run at ≡ t → ((c count' skipped' : ℕ) → c ≤ 4096 → skipped' ≤ c → Within left c count' skipped') → Within (suc left) at count skipped
      within-next (Read l c) e later =
          let is = read_step 1 run at mode l c e in
          let m = step-moves 1 run at l c.at is in
          let known = step_rule.typed 1 run at (ap (λ (s : StepTaken). s.read) is) in
          let typed = ap (λ (s : StepTaken). s.layout.route_type) is in
          let moved = (reads-step_from 1 run at (ap (λ (s : StepTaken). s.read) is)).cursor in
          let sized = ap (λ (s : StepTaken). s.layout.length) is in
          let one : length (layout_line at l) ≤ 14 = length-line_of _ _ _ (omega arith) (omega (arith, known-octet _ known)) (omega (arith, ap (λ (s : StepTaken). s.cursor) is)) in
          let rest = later c.at (count + 1) skipped (omega arith) (omega arith) in
          let n = ap length (lines_from-read left mode run at count skipped l c e) ∙ length-append (layout_line at l) (lines_from left mode run c.at (count + 1) skipped) in
          omega arith
      within-next (Skipped c) e later =
          let m = skipped-moves 1 run at mode c e in
          let rest = later c.at count (skipped + 1) (omega arith) (omega arith) in
          omega (arith, ap length (lines_from-skipped left mode run at count skipped c e))
      within-next (Stopped n) e later =
          let last = length-last_line mode n at skipped (stopped-small mode run at n e) h (omega arith) in
          omega (arith, ap length (lines_from-stopped left mode run at count skipped n e))

  -- the listing of every run
  length-listing_of : length (listing_of mode run) ≤ 28705
  unfolding listing_of lines_of lines_from nlris_by walk_by header_line
  length-listing_of = omega (arith, length-append header_line (lines_of mode run), length-lines_from (suc (length run)) 0 0 0 (omega arith) (omega arith))

-- it fits into the program's room for it
pub listing_of-fits : (mode : ℕ) (run : List ℕ) → length (listing_of mode run) ≤ 65536
listing_of-fits mode run = omega (arith, length-listing_of mode run)
