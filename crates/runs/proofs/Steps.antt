-- What a step comes to, by its tests in their order.
use mathlib.Core.Path.{◌≡◌, refl, sym, ◌∙◌, ap}
use mathlib.Core.Bool.{true, false}
use mathlib.Core.List.{List}
use Prim.Native.Nat.{ℕ, ◌+◌, ◌≤◌, ◌<◌}
use native.Mathlib.Omega.{arith}
use borrow.Author.Tests.{eqb-true, eqb-false, eq-eqb, ne_eqb, ltb-true, ltb-false, lt-ltb, le-ltb}
use lib.ListN.{length, get_or, drop, length-drop}
use lib.Seq.{get_or-drop}
use Rattle.octets.specs.Numbers.{DONE, SHORT, LONG}
use Rattle.octets.specs.Outcome.{given, refused, on_outcome, number_of}
use Rattle.octets.proofs.Choice.{pick_true, pick-false, pick-case, opposite}
use Rattle.octets.proofs.Outcome.{on-given, on-refused, on-case}
use Rattle.nlri.specs.declared.layout.Layout.{Layout}
use Rattle.nlri.specs.Family.{family_bits}
use Rattle.nlri.specs.Layouts.{layout_at}
use Rattle.nlri.proofs.Functions.Fronts.{layout-octets}
use Rattle.nlri.proofs.Definitions.ReadNumbers.{refuses-done, refuses-layout}
use Rattle.runs.specs.declared.stepping.Step.{Step}
use Rattle.octets.specs.Refusals.{refusal_number}
use Rattle.octets.specs.declared.refusal.Refusal.{Refusal}
use Rattle.std.proofs.Common.{Option, Some, None, Result, Ok, Err}
use Rattle.std.specs.Result.{IsErrAnd}
use Rattle.runs.specs.Walking.{StepTaken, read_to, ended_at, refused_at, advanced, step_under, step_from, step_taken_of}

-- a step that reads no NLRI, and its number: the run's end, or a refusal
pub record Stops (s : StepTaken) (number : ℕ) : Type 0 where
  pub unread : s.read ≡ false
  pub numbered : s.number ≡ number

pub stops-ended_at : {s : StepTaken} (at : ℕ) → s ≡ ended_at at → Stops s DONE
unfolding ended_at
stops-ended_at at e = record { unread = ap (λ (x : StepTaken). x.read) e; numbered = ap (λ (x : StepTaken). x.number) e }

pub stops-refused_at : {s : StepTaken} (number at : ℕ) → s ≡ refused_at number at → Stops s number
unfolding refused_at
stops-refused_at number at e = record { unread = ap (λ (x : StepTaken). x.read) e; numbered = ap (λ (x : StepTaken). x.number) e }

-- the step in each case
module _ (afi : ℕ) (run : List ℕ) (at : ℕ) where
  pub step-family : (n : ℕ) → family_bits afi ≡ refused n → step_from afi run at ≡ refused_at n at
  unfolding step_from
  step-family n e = sym (on-refused _ _ _ _ _ e refl)

  module _ (bits : ℕ) (of_family : family_bits afi ≡ given bits) where
    step-under : step_from afi run at ≡ step_under bits run at
    unfolding step_from
    step-under = sym (on-given _ _ _ _ _ of_family refl)

    pub step-long : 4096 < length run → step_from afi run at ≡ refused_at LONG at
    unfolding step_under
    step-long h = step-under ∙ pick_true _ _ _ (lt-ltb 4096 (length run) h)

    module _ (short : length run ≤ 4096) where
      pub step_end : at ≡ length run → step_from afi run at ≡ ended_at at
      unfolding step_under
      step_end e = step-under ∙ pick-false _ _ _ (le-ltb 4096 (length run) short) ∙ pick_true _ _ _ (eq-eqb at (length run) e)

      pub step_past : length run < at → step_from afi run at ≡ refused_at SHORT at
      unfolding step_under
      step_past h = step-under ∙ pick-false _ _ _ (le-ltb 4096 (length run) short) ∙ pick-false _ _ _ (ne_eqb at (length run) (λ e. omega arith)) ∙ pick_true _ _ _ (lt-ltb (length run) at h)

      module _ (before : at < length run) where
        step-inside : step_from afi run at ≡ on_outcome (λ number. refused_at number at) (λ layout. read_to layout (advanced at layout.length)) (layout_at bits (drop at run))
        unfolding step_under
        step-inside =
            step-under ∙ pick-false _ _ _ (le-ltb 4096 (length run) short) ∙ pick-false _ _ _ (ne_eqb at (length run) (λ e. omega arith)) ∙ pick-false _ _ _ (le-ltb (length run) at (omega arith))

        pub step-accepted : (l : Layout) → layout_at bits (drop at run) ≡ given l → step_from afi run at ≡ read_to l (advanced at l.length)
        step-accepted l e = step-inside ∙ sym (on-given _ _ _ _ _ e refl)

        pub step-unaccepted : (n : ℕ) → layout_at bits (drop at run) ≡ refused n → step_from afi run at ≡ refused_at n at
        step-unaccepted n e = step-inside ∙ sym (on-refused _ _ _ _ _ e refl)

        -- by the number of the NLRI there and the Length octet
        pub step-octet : number_of (layout_at bits (drop at run)) ≡ DONE → (l : Layout) × (step_from afi run at ≡ read_to l (advanced at (get_or run (at + 1) 0)))
        step-octet e =
            let laid = refuses-done _ (refuses-layout bits (drop at run)) e in
            let size = (layout-octets bits (drop at run) laid.0 laid.1).3 ∙ get_or-drop at run 1 0 in
            (laid.0, step-accepted laid.0 laid.1 ∙ ap (λ (n : ℕ). read_to laid.0 (advanced at n)) size)

-- the cases of a step, in the order of its tests
pub data Comes (afi : ℕ) (run : List ℕ) (at : ℕ) : StepTaken → Type 0 where
  family : (n : ℕ) → family_bits afi ≡ refused n → Comes afi run at (refused_at n at)
  too_long : (bits : ℕ) → family_bits afi ≡ given bits → 4096 < length run → Comes afi run at (refused_at LONG at)
  end : (bits : ℕ) → family_bits afi ≡ given bits → length run ≤ 4096 → at ≡ length run → Comes afi run at (ended_at at)
  beyond : (bits : ℕ) → family_bits afi ≡ given bits → length run ≤ 4096 → length run < at → Comes afi run at (refused_at SHORT at)
  unaccepted : (bits : ℕ) → family_bits afi ≡ given bits → length run ≤ 4096 → at < length run → (n : ℕ) → layout_at bits (drop at run) ≡ refused n → Comes afi run at (refused_at n at)
  accepted : (bits : ℕ) → family_bits afi ≡ given bits → length run ≤ 4096 → at < length run → (l : Layout) → layout_at bits (drop at run) ≡ given l → Comes afi run at (read_to l (advanced at l.length))

pub comes-step_from : (afi : ℕ) (run : List ℕ) (at : ℕ) → Comes afi run at (step_from afi run at)
unfolding step_from step_under
comes-step_from afi run at =
    on-case (Comes afi run at) _ _ _ family
    (λ bits f. pick-case (Comes afi run at) _ _ _ (λ many. too_long bits f (ltb-true _ _ many))
    (λ few. pick-case (Comes afi run at) _ _ _ (λ last. end bits f (ltb-false _ _ few) (eqb-true _ _ last))
    (λ more. pick-case (Comes afi run at) _ _ _ (λ far. beyond bits f (ltb-false _ _ few) (ltb-true _ _ far))
    (λ near.
    let before : at < length run = omega (arith, eqb-false at (length run) more, ltb-false (length run) at near) in
    on-case (Comes afi run at) _ _ _ (unaccepted bits f (ltb-false _ _ few) before) (accepted bits f (ltb-false _ _ few) before)))))

-- a step that reads: the NLRI stands in the run, and the cursor moves past it
pub record Reads (run : List ℕ) (at : ℕ) (s : StepTaken) : Type 0 where
  pub bits : ℕ
  pub short : length run ≤ 4096
  pub is : layout_at bits (drop at run) ≡ given s.layout
  pub cursor : s.cursor ≡ advanced at s.layout.length
  pub within : advanced at s.layout.length ≤ length run

pub reads-step_from : (afi : ℕ) (run : List ℕ) (at : ℕ) → (step_from afi run at).read ≡ true → Reads run at (step_from afi run at)
unfolding ended_at refused_at read_to
reads-step_from afi run at = go (comes-step_from afi run at)
  where
    go : {s : StepTaken} → Comes afi run at s → s.read ≡ true → Reads run at s
    go (family n e) r = absurd (opposite r refl)
    go (too_long bits f h) r = absurd (opposite r refl)
    go (end bits f few last) r = absurd (opposite r refl)
    go (beyond bits f few far) r = absurd (opposite r refl)
    go (unaccepted bits f few before n e) r = absurd (opposite r refl)
    go (accepted bits f few before l e) r =
        let fits = (layout-octets bits (drop at run) l e).1 in
        record { bits = bits; short = few; is = e; cursor = refl; within = omega (arith, length-drop at run) }

pub step-moves : (afi : ℕ) (run : List ℕ) (at : ℕ) (l : Layout) (c : ℕ) → step_from afi run at ≡ read_to l c → (at + 2 ≤ c) × (c ≤ length run) × (length run ≤ 4096)
unfolding read_to
step-moves afi run at l c e =
    let r = reads-step_from afi run at (ap (λ (s : StepTaken). s.read) e) in
    let n = ap (λ (s : StepTaken). s.cursor) e in
    (omega (arith, r.cursor), omega (arith, r.cursor, r.within), r.short)

-- the cases of a step's result
module _ (s : StepTaken) (cursor : ℕ) where
  pub step-read : (p : Step) → step_taken_of (Ok (Some p)) cursor ≡ s → s ≡ read_to p.layout p.next.at
  unfolding step_taken_of
  step-read p e = sym e

  pub step-ended : step_taken_of (Ok None) cursor ≡ s → s ≡ ended_at cursor
  unfolding step_taken_of
  step-ended e = sym e

  pub step-refused : (r : Refusal) → step_taken_of (Err r) cursor ≡ s → s ≡ refused_at (refusal_number r) cursor
  unfolding step_taken_of
  step-refused r e = sym e

  pub stops-ended : step_taken_of (Ok None) cursor ≡ s → Stops s DONE
  stops-ended e = stops-ended_at cursor (step-ended e)

  pub stops-refused : (r : Refusal) → step_taken_of (Err r) cursor ≡ s → Stops s (refusal_number r)
  stops-refused r e = stops-refused_at (refusal_number r) cursor (step-refused r e)

-- a refusal that is passed on
pub step-passed : (cursor : ℕ) (result : Result (Option Step) Refusal) (r : Refusal) → IsErrAnd result (λ x. x ≡ r) → step_taken_of result cursor ≡ refused_at (refusal_number r) cursor
unfolding step_taken_of
step-passed cursor (Ok l) r h = absurd h
step-passed cursor (Err q) r h = ap (λ (x : Refusal). refused_at (refusal_number x) cursor) h
