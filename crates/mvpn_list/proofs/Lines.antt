-- What holds of the text so far, as a walk goes on.
use mathlib.Core.Path.{◌≡◌, refl, sym, ◌∙◌, ap, subst}
use mathlib.Core.List.{List, ◌++◌, append_assoc}
use Prim.Native.Nat.{ℕ, suc, ◌+◌, ◌-◌, ◌≤◌}
use native.Mathlib.Omega.{arith}
use lib.ListN.{length}
use Rattle.nlri.specs.declared.layout.Layout.{Layout}
use Rattle.runs.specs.declared.stepping.Cursor.{Cursor}
use Rattle.runs.specs.Modes.{Read, Skipped, Stopped, turn_from, walk_by, nlris_by}
use Rattle.runs.proofs.Steps.{step-moves}
use Rattle.runs.proofs.Turns.{read_step, skipped-moves}
use Rattle.mvpn_list.specs.Listing.{header_line, last_line, lines_of, listing_of}
use Rattle.mvpn_list.proofs.Steps.{layout_line, lines_from, lines_from-read, lines_from-skipped, lines_from-stopped}

-- what is written is the header and the lines of the NLRIs before `offset`
pub record Listed (mode : ℕ) (run : List ℕ) (offset skipped : ℕ) (Wrote : List ℕ → Type 0) : Type 0 where
  pub done : List ℕ
  pub left : ℕ
  pub count : ℕ
  pub few : skipped ≤ offset
  pub within : offset ≤ length run
  pub enough : length run ≤ left + offset
  pub wrote : Wrote done
  pub goes : listing_of mode run ≡ done ++ lines_from (suc left) mode run offset count skipped

pub listed-first : (mode : ℕ) (run : List ℕ) (Wrote : List ℕ → Type 0) → Wrote header_line → Listed mode run 0 0 Wrote
unfolding listing_of lines_of lines_from nlris_by walk_by
listed-first mode run Wrote header =
    record { done = header_line; left = length run; count = 0; few = omega arith; within = omega arith; enough = omega arith; wrote = header; goes = refl }

module _ (mode : ℕ) (run : List ℕ) (offset skipped : ℕ) (Wrote : List ℕ → Type 0) (so_far : Listed mode run offset skipped Wrote) where
  module _ (l : Layout) (c : Cursor) (e : turn_from 1 mode run offset ≡ Read l c) where
    abbrev this : List ℕ
    this = layout_line offset l

    abbrev rest : ℕ → List ℕ
    rest left = lines_from left mode run c.at (so_far.count + 1) skipped

    pub read-moves : (offset + 2 ≤ c.at) × (c.at ≤ length run)
    read-moves = let m = step-moves 1 run offset l c.at (read_step 1 run offset mode l c e) in (m.0, m.1)

    pub listed-read : (Next : List ℕ → Type 0) → ((bs : List ℕ) → Wrote bs → Next (bs ++ this)) → Listed mode run c.at skipped Next
    listed-read Next writes =
        let m = read-moves in
        let n : so_far.left ≡ suc (so_far.left - 1) = omega (arith, so_far.enough) in
        record {
          done = so_far.done ++ this;
          left = so_far.left - 1;
          count = so_far.count + 1;
          few = omega (arith, so_far.few);
          within = omega arith;
          enough = omega (arith, so_far.enough);
          wrote = writes so_far.done so_far.wrote;
          goes = so_far.goes ∙ ap (λ (x : List ℕ). so_far.done ++ x) (lines_from-read so_far.left mode run offset so_far.count skipped l c e) ∙ sym (append_assoc so_far.done this (rest so_far.left))
              ∙ ap (λ (k : ℕ). (so_far.done ++ this) ++ rest k) n;
        }

  module _ (c : Cursor) (e : turn_from 1 mode run offset ≡ Skipped c) where
    -- a number skipped that fits its type
    pub skipped-few : skipped + 1 ≤ 4096
    skipped-few = let m = skipped-moves 1 run offset mode c e in omega (arith, so_far.few)

    pub listed-skipped : Listed mode run c.at (skipped + 1) Wrote
    listed-skipped =
        let m = skipped-moves 1 run offset mode c e in
        let n : so_far.left ≡ suc (so_far.left - 1) = omega (arith, so_far.enough) in
        record {
          done = so_far.done;
          left = so_far.left - 1;
          count = so_far.count;
          few = omega (arith, so_far.few);
          within = omega arith;
          enough = omega (arith, so_far.enough);
          wrote = so_far.wrote;
          goes = so_far.goes ∙ ap (λ (x : List ℕ). so_far.done ++ x) (lines_from-skipped so_far.left mode run offset so_far.count skipped c e)
              ∙ ap (λ (k : ℕ). so_far.done ++ lines_from k mode run c.at so_far.count (skipped + 1)) n;
        }

  module _ (n : ℕ) (e : turn_from 1 mode run offset ≡ Stopped n) where
    pub listed-last : (Next : List ℕ → Type 0) → ((bs : List ℕ) → Wrote bs → Next (bs ++ last_line mode n offset skipped)) → Next (listing_of mode run)
    listed-last Next writes =
        subst Next (sym (so_far.goes ∙ ap (λ (x : List ℕ). so_far.done ++ x) (lines_from-stopped so_far.left mode run offset so_far.count skipped n e))) (writes so_far.done so_far.wrote)
