-- What a step answers (document 01, "NLRI on the wire", walking a run).
use mathlib.Core.Path.{◌≡◌, refl, sym, ◌∙◌, ap, subst}
use mathlib.Core.Bool.{true}
use mathlib.Core.Logic.{◌⊎◌, inl, inr, ⊎_elim}
use mathlib.Core.List.{List}
use Prim.Native.Nat.{ℕ, ◌+◌, ◌-◌, ◌<◌}
use native.Mathlib.Omega.{arith}
use lib.ListN.{length, drop, length-append, length-drop}
use Rattle.octets.specs.Numbers.{DONE, SHORT, LONG, FAMILY}
use Rattle.octets.specs.Outcome.{given, refused}
use Rattle.octets.specs.Octets.{AllOctets}
use Rattle.octets.proofs.Choice.{opposite}
use Rattle.octets.proofs.Outcome.{never, passed, given-same, stopped}
use Rattle.octets.proofs.AllOctets.{octets-drop}
use Rattle.nlri.specs.declared.layout.Layout.{Layout}
use Rattle.nlri.specs.Bodies.{KnownType}
use Rattle.nlri.specs.Fields.{Fields, encode_nlri}
use Rattle.nlri.specs.Reading.{key_field, laid_at, accepted_at}
use Rattle.nlri.specs.Layouts.{layout_of, layout_at, laid_layout}
use Rattle.nlri.specs.Rules.NlriRules.{layout_for}
use Rattle.nlri.proofs.Definitions.Lengths.{good-family, family-good}
use Rattle.nlri.proofs.Definitions.Whole.{laid_out_lem}
use Rattle.nlri.proofs.Definitions.Families.{family-refused, family-refuses}
use Rattle.nlri.proofs.Functions.Fronts.{layout-front}
use Rattle.nlri.proofs.Statements.Acceptance.{front-accepted}
use Rattle.nlri.proofs.Statements.ReadRefusals.{read_refusals, front-not-done}
use Rattle.nlri.proofs.Statements.Layouts.{length-encoded, layout-encoded, layout-refused}
use Rattle.runs.specs.declared.stepping.Cursor.{Cursor}
use Rattle.runs.specs.declared.stepping.Step.{Step}
use Rattle.octets.specs.declared.refusal.Refusal.{Refusal}
use Rattle.std.proofs.Common.{Option, Some, None, Result, Ok, Err}
use Rattle.runs.specs.Walking.{StepTaken, read_to, ended_at, refused_at, step_from, step_taken_of}
use Rattle.runs.specs.Rules.WalkRules.{EncodedAt, EndAt, StepRefusal, bad_family, long, past, front, StepRule}
use Rattle.runs.proofs.Refusals.{refusal-same}
use Rattle.runs.proofs.Steps.{step-family, step-long, step_end, step_past, step-accepted, step-unaccepted, Comes, family, too_long, end, beyond, unaccepted, accepted, comes-step_from, reads-step_from}

-- the route type of a layout is known
layout-typed : (bits : ℕ) (s : List ℕ) (l : Layout) → layout_at bits s ≡ given l → KnownType l.route_type
unfolding laid_layout laid_at layout_of
layout-typed bits s l e =
    let p = passed _ _ _ (layout-front bits s l e) in
    let o = laid_out_lem (key_field bits) bits s p.value p.first in
    subst KnownType (ap (λ (x : Layout). x.route_type) (given-same p.second)) o.row.known

-- an NLRI that stands at the cursor is read
pub step-encoded : (afi : ℕ) (run : List ℕ) (at : ℕ) (f : Fields) → EncodedAt afi run at f → step_from afi run at ≡ read_to (layout_for f) (at + length (encode_nlri f))
unfolding layout_for
step-encoded afi run at f n =
    let size = length-encoded f in
    let len : 2 + (length (encode_nlri f) - 2) ≡ length (encode_nlri f) = omega arith in
    let before : at < length run = omega (arith, sym (length-drop at run) ∙ ap length n.is ∙ length-append (encode_nlri f) n.after) in
    step-accepted afi run at n.bits n.of_family n.short before (layout_for f) (ap (layout_at n.bits) n.is ∙ layout-encoded afi n.bits n.of_family f n.after n.well_formed)
    ∙ ap (λ (m : ℕ). read_to (layout_for f) (at + m)) len

module _ (afi : ℕ) (run : List ℕ) (at : ℕ) where
  ends_at : EndAt afi run at → step_from afi run at ≡ ended_at at
  ends_at h = let g = family-good afi h.0 in step_end afi run at g.0 g.1 h.1 h.2

  end-at : {s : StepTaken} → Comes afi run at s → s.ended ≡ true → EndAt afi run at
  unfolding refused_at read_to
  end-at (family n e) q = absurd (opposite q refl)
  end-at (too_long bits f h) q = absurd (opposite q refl)
  end-at (end bits f few last) q = (good-family afi bits f, few, last)
  end-at (beyond bits f few far) q = absurd (opposite q refl)
  end-at (unaccepted bits f few before n e) q = absurd (opposite q refl)
  end-at (accepted bits f few before l e) q = absurd (opposite q refl)

  module _ (a : AllOctets run) where
    pub step-refuses : (n : ℕ) → StepRefusal afi run at n → step_from afi run at ≡ refused_at n at
    step-refuses n (bad_family one two) = step-family afi run at n (family-refuses afi one two)
    step-refuses n (long bits f h) = step-long afi run at bits f h
    step-refuses n (past bits f few far) = step_past afi run at bits f few far
    step-refuses n (front bits f few before why) =
        step-unaccepted afi run at bits f few before n (layout-refused bits (drop at run) n ((read_refusals.front afi bits (drop at run) n f (octets-drop at a)).1 why))

    by-case : {s : StepTaken} → Comes afi run at s → ((f : Fields) × EncodedAt afi run at f) ⊎ EndAt afi run at ⊎ ((n : ℕ) × StepRefusal afi run at n)
    unfolding layout_at
    by-case (family n e) = let p = (family-refused afi n e).1 in inr (inr (FAMILY, bad_family p.0 p.1))
    by-case (too_long bits f h) = inr (inr (LONG, long bits f h))
    by-case (end bits f few last) = inr (inl (good-family afi bits f, few, last))
    by-case (beyond bits f few far) = inr (inr (SHORT, past bits f few far))
    by-case (unaccepted bits f few before n e) =
        let why : accepted_at bits (drop at run) ≡ refused n = ⊎_elim (λ p. p) (λ later. absurd (never refl later.second)) (stopped _ _ _ e) in
        inr (inr (n, front bits f few before ((read_refusals.front afi bits (drop at run) n f (octets-drop at a)).0 why)))
    by-case (accepted bits f few before l e) =
        let p = passed _ _ _ e in
        let r = front-accepted afi bits f (drop at run) p.value (octets-drop at a) p.first in
        inl (r.0, record { bits = bits; of_family = f; short = few; well_formed = r.1; after = drop (2 + p.value.size) (drop at run); is = r.2 })

    step-decided : ((f : Fields) × EncodedAt afi run at f) ⊎ EndAt afi run at ⊎ ((n : ℕ) × StepRefusal afi run at n)
    step-decided = by-case (comes-step_from afi run at)

    refusal-at : (n : ℕ) → step_from afi run at ≡ refused_at n at → StepRefusal afi run at n
    unfolding read_to ended_at refused_at
    refusal-at n e =
        ⊎_elim (λ reads. absurd (opposite refl (ap (λ (s : StepTaken). s.read) (sym (step-encoded afi run at reads.0 reads.1) ∙ e))))
        (λ stops.
        ⊎_elim (λ ends. absurd (opposite refl (ap (λ (s : StepTaken). s.ended) (sym (ends_at ends) ∙ e))))
        (λ why. subst (StepRefusal afi run at) (ap (λ (s : StepTaken). s.number) (sym (step-refuses why.0 why.1) ∙ e)) why.1) stops)
        step-decided

step-not-done : (afi : ℕ) (run : List ℕ) (at n : ℕ) → StepRefusal afi run at n → n ≡ DONE → ⊥
step-not-done afi run at n (bad_family one two) e = omega arith
step-not-done afi run at n (long bits f h) e = omega arith
step-not-done afi run at n (past bits f few far) e = omega arith
step-not-done afi run at n (front bits f few before why) e = front-not-done bits (drop at run) n why e

-- cursors at the same place are equal, and so are results with the same number and values
pub cursor-same : (c d : Cursor) → c.at ≡ d.at → c ≡ d
cursor-same c d e = λ i. record { at = e i }

steps-same : (p q : Step) → p.layout ≡ q.layout → p.next.at ≡ q.next.at → p ≡ q
steps-same p q e h = λ i. record { layout = e i; next = record { at = h i } }

steps_apart : (a b : Result (Option Step) Refusal) (at : ℕ) → step_taken_of a at ≡ step_taken_of b at → a ≡ b
unfolding step_taken_of read_to ended_at refused_at
steps_apart (Ok (Some p)) (Ok (Some q)) at e = ap (λ (x : Step). Ok (Some x)) (steps-same p q (ap (λ (s : StepTaken). s.layout) e) (ap (λ (s : StepTaken). s.cursor) e))
steps_apart (Ok (Some p)) (Ok None) at e = absurd (opposite refl (ap (λ (s : StepTaken). s.read) e))
steps_apart (Ok (Some p)) (Err r) at e = absurd (opposite refl (ap (λ (s : StepTaken). s.read) e))
steps_apart (Ok None) (Ok (Some q)) at e = absurd (opposite refl (ap (λ (s : StepTaken). s.read) (sym e)))
steps_apart (Ok None) (Ok None) at e = refl
steps_apart (Ok None) (Err r) at e = absurd (opposite refl (ap (λ (s : StepTaken). s.ended) e))
steps_apart (Err r) (Ok (Some q)) at e = absurd (opposite refl (ap (λ (s : StepTaken). s.read) (sym e)))
steps_apart (Err r) (Ok None) at e = absurd (opposite refl (ap (λ (s : StepTaken). s.ended) (sym e)))
steps_apart (Err r) (Err q) at e = ap Err (refusal-same r q (ap (λ (s : StepTaken). s.number) e))

pub step_rule : StepRule
unfolding ended_at
step_rule =
    record {
      reads = step-encoded;
      ends = λ afi run at. (λ e. end-at afi run at (comes-step_from afi run at) (ap (λ (s : StepTaken). s.ended) e), ends_at afi run at);
      ended = λ afi run at. (end-at afi run at (comes-step_from afi run at), λ h. ap (λ (s : StepTaken). s.ended) (ends_at afi run at h));
      refuses = λ afi run at n a. (refusal-at afi run at a n, step-refuses afi run at a n);
      decided = step-decided;
      done = λ afi run at h. step-not-done afi run at DONE h refl;
      typed = λ afi run at r. let s = reads-step_from afi run at r in layout-typed s.bits (drop at run) _ s.is;
      moves = λ afi run at r. let s = reads-step_from afi run at r in (s.cursor, omega (arith, s.cursor), omega (arith, s.cursor, s.within));
      apart = steps_apart;
    }
