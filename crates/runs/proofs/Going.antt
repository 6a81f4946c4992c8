-- How the walk of a mode goes on by its steps.
use mathlib.Core.Path.{◌≡◌, sym, ◌∙◌, ap, ap₂}
use mathlib.Core.Bool.{true, false}
use mathlib.Core.List.{List}
use Prim.Native.Nat.{ℕ, suc, ◌+◌, ◌-◌, ◌≤◌, ◌<◌}
use native.Mathlib.Nat.{sub-zero}
use native.Mathlib.Omega.{arith}
use lib.ListN.{length, drop}
use Rattle.octets.specs.Numbers.{DONE, LONG}
use Rattle.octets.specs.Outcome.{given, refused, number_of}
use Rattle.octets.proofs.Outcome.{refused-of}
use Rattle.nlri.specs.declared.layout.Layout.{Layout}
use Rattle.nlri.specs.Family.{family_bits}
use Rattle.nlri.specs.Layouts.{layout_at}
use Rattle.nlri.proofs.Definitions.Families.{family-refused}
use Rattle.runs.specs.Walking.{read_to, step_from, walked_to, walked_with}
use Rattle.runs.specs.Modes.{is_skipped, past_nlri, walk_by_from, walk_by}
use Rattle.runs.proofs.Steps.{Stops, stops-ended_at, stops-refused_at, step-family, step-long, step_end, step-unaccepted, step-octet, step-moves}
use Rattle.runs.proofs.Turns.{skipped-number, skippable-apart, never-skipped, within-skipped, turn-reads, turn-skips, turn-stops, walk_by_from-read, walk_by_from-skipped, walk_by_from-stopped}

-- what holds of the walk so far, under a family, at a cursor with a count read and a number skipped
pub record Going (afi mode bits : ℕ) (run : List ℕ) (at count skipped : ℕ) : Type 0 where
  pub of_family : family_bits afi ≡ given bits
  pub short : length run ≤ 4096
  pub counted : count + skipped ≤ at
  pub within : at ≤ length run
  pub goes : walk_by afi mode run ≡ walk_by_from (suc (length run - (count + skipped))) afi mode run at count skipped

module _ (afi mode : ℕ) (run : List ℕ) where
  -- a walk whose first step stops
  pub walk_first : (number : ℕ) → Stops (step_from afi run 0) number → is_skipped mode number ≡ false → walked_to number 0 0 ≡ walk_by afi mode run
  unfolding walk_by
  walk_first number s h = sym (walk_by_from-stopped afi run 0 mode _ 0 0 number (turn-stops afi run 0 mode number s h))

  pub walk-family : (n : ℕ) → family_bits afi ≡ refused n → walked_to n 0 0 ≡ walk_by afi mode run
  walk-family n e =
      let is = (family-refused afi n e).0 in
      walk_first n (stops-refused_at n 0 (step-family afi run 0 n e)) (never-skipped mode n (λ t. omega arith) (λ g. omega arith))

  pub walk-long : (bits : ℕ) → family_bits afi ≡ given bits → 4096 < length run → walked_to LONG 0 0 ≡ walk_by afi mode run
  walk-long bits f h = walk_first LONG (stops-refused_at LONG 0 (step-long afi run 0 bits f h)) (never-skipped mode LONG (λ t. omega arith) (λ g. omega arith))

  pub going-first : (bits : ℕ) → family_bits afi ≡ given bits → length run ≤ 4096 → Going afi mode bits run 0 0 0
  unfolding walk_by
  going-first bits f h =
      record { of_family = f; short = h; counted = omega arith; within = omega arith; goes = ap (λ (n : ℕ). walk_by_from (suc n) afi mode run 0 0 0) (sym (sub-zero (length run))) }

module _ (afi mode bits : ℕ) (run : List ℕ) (at count skipped : ℕ) (so_far : Going afi mode bits run at count skipped) where
  going-stop : (number : ℕ) → Stops (step_from afi run at) number → is_skipped mode number ≡ false → walked_with number count at skipped ≡ walk_by afi mode run
  going-stop number s h = sym (so_far.goes ∙ walk_by_from-stopped afi run at mode _ count skipped number (turn-stops afi run at mode number s h))

  pub going-last : length run ≤ at → walked_with DONE count at skipped ≡ walk_by afi mode run
  going-last h =
      going-stop DONE (stops-ended_at at (step_end afi run at bits so_far.of_family so_far.short (omega (arith, so_far.within)))) (never-skipped mode DONE (λ t. omega arith) (λ g. omega arith))

  -- by the number of the octets from the cursor on
  module _ (before : at < length run) (s : List ℕ) (here : s ≡ drop at run) (n : ℕ) (e : n ≡ number_of (layout_at bits s)) where
    number-here : n ≡ number_of (layout_at bits (drop at run))
    number-here = e ∙ ap (λ (x : List ℕ). number_of (layout_at bits x)) here

    stops-here : (n ≡ DONE → ⊥) → Stops (step_from afi run at) n
    stops-here h = stops-refused_at n at (step-unaccepted afi run at bits so_far.of_family so_far.short before n (refused-of _ n number-here h))

    pub going-refused : (n ≡ DONE → ⊥) → is_skipped mode n ≡ false → walked_with n count at skipped ≡ walk_by afi mode run
    going-refused h f = going-stop n (stops-here h) f

    -- the walk goes on past the NLRI there, which lies within the run, with one more read or skipped
    module _ (next : ℕ) (past : next ≡ past_nlri run at) (count' skipped' : ℕ) where
      going_on : past_nlri run at ≤ length run → count' + skipped' ≡ suc (count + skipped)
          → ((left : ℕ) → walk_by_from (suc left) afi mode run at count skipped ≡ walk_by_from left afi mode run next count' skipped') → Going afi mode bits run next count' skipped'
      going_on within one goes =
          let left : length run - (count + skipped) ≡ suc (length run - (count' + skipped')) = omega (arith, so_far.counted) in
          record {
            of_family = so_far.of_family;
            short = so_far.short;
            counted = omega (arith, so_far.counted);
            within = omega (arith, within);
            goes = so_far.goes ∙ goes (length run - (count + skipped)) ∙ ap (λ (k : ℕ). walk_by_from k afi mode run next count' skipped') left;
          }

    module _ (z : n ≡ DONE) where
      read : (l : Layout) × (step_from afi run at ≡ read_to l (past_nlri run at))
      read = step-octet afi run at bits so_far.of_family so_far.short before (sym number-here ∙ z)

      pub read-within : past_nlri run at ≤ length run
      read-within = (step-moves afi run at _ _ read.1).1

      pub going-read : (next : ℕ) → next ≡ past_nlri run at → (count' skipped' : ℕ) → count' ≡ count + 1 → skipped' ≡ skipped → Going afi mode bits run next count' skipped'
      going-read next past count' skipped' p q =
          going_on next past count' skipped' read-within (omega arith)
          (λ left.
          walk_by_from-read afi run at mode left count skipped read.0 (record { at = past_nlri run at }) (turn-reads afi run at mode read.0 (past_nlri run at) read.1)
          ∙ ap (λ (k : ℕ). walk_by_from left afi mode run k (count + 1) skipped) (sym past) ∙ ap₂ (walk_by_from left afi mode run next) (sym p) (sym q))

    module _ (z : is_skipped mode n ≡ true) where
      stops-skipped : Stops (step_from afi run at) n
      stops-skipped = stops-here (skippable-apart n (skipped-number mode n z).1).0

      pub skipped-within : past_nlri run at ≤ length run
      skipped-within = (within-skipped afi run at mode n stops-skipped z).0

      pub going-skipped : (next : ℕ) → next ≡ past_nlri run at → (count' skipped' : ℕ) → count' ≡ count → skipped' ≡ skipped + 1 → Going afi mode bits run next count' skipped'
      going-skipped next past count' skipped' p q =
          going_on next past count' skipped' skipped-within (omega arith)
          (λ left.
          walk_by_from-skipped afi run at mode left count skipped (record { at = past_nlri run at }) (turn-skips afi run at mode n stops-skipped z)
          ∙ ap (λ (k : ℕ). walk_by_from left afi mode run k count (skipped + 1)) (sym past) ∙ ap₂ (walk_by_from left afi mode run next) (sym p) (sym q))
