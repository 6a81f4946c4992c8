-- The walk by its mode (document 02, W-206, W-210): the old mode is the walk as it was; the other has the figures of the run.
use mathlib.Core.Path.{◌≡◌, refl, sym, ◌∙◌, ap, ap₂, subst}
use mathlib.Core.List.{List, [], ◌∷◌, ◌++◌}
use mathlib.Core.Logic.{inl, inr, ⊎_elim}
use Prim.Native.Nat.{ℕ, zero, suc, ◌+◌, ◌-◌, ◌≤◌, ◌<◌}
use native.Mathlib.Nat.{zero-add, add-sub_cancel_left}
use native.Mathlib.Omega.{arith}
use borrow.Author.Tests.{eqb-true, eqb-false}
use lib.ListN.{length, get_or, take, drop, length-append, length-drop, take-append-drop}
use lib.Seq.{get_or-drop, drop-drop, drop_at, drop-append_seam, take-append_seam}
use lib.Dec.{eqb}
use Rattle.octets.specs.Numbers.{DONE, SHORT, TYPE, GROUP}
use Rattle.octets.specs.Choice.{pick}
use Rattle.octets.specs.Outcome.{given, refused}
use Rattle.octets.specs.Octets.{AllOctets, part}
use Rattle.octets.proofs.Choice.{tested, pick_true}
use Rattle.octets.proofs.Outcome.{outcome}
use Rattle.octets.proofs.AllOctets.{octets-drop}
use Rattle.octets.proofs.Lists.{empty-list, take-two, length_part}
use Rattle.nlri.specs.Family.{family_bits}
use Rattle.nlri.specs.Fields.{encode_nlri}
use Rattle.nlri.specs.Reading.{Laid, accepted_at}
use Rattle.nlri.specs.Layouts.{layout_at}
use Rattle.nlri.specs.Rules.NlriRules.{LaidRefusal, short, bad_type, bad_body, FrontRefusal, unlaid, layout_for}
use Rattle.nlri.proofs.Statements.Acceptance.{front-accepted}
use Rattle.nlri.proofs.Statements.ReadRefusals.{read_refusals}
use Rattle.nlri.proofs.Statements.Layouts.{length-encoded, layout-refused}
use Rattle.runs.specs.declared.walking.Walked.{Walked}
use Rattle.runs.specs.Walking.{step_from, walked_with, walk_from, walk_of, NlriRead, nlris_from, nlris_of}
use Rattle.runs.specs.Rules.WalkRules.{front, encode_run, RunEnd, nothing, refusal}
use Rattle.runs.specs.Modes.{TurnTaken, Read, Skipped, Stopped, SKIP, SkippableNumber, past_nlri, turn_from, walk_by_from, walk_by, nlris_by_from, nlris_by}
use Rattle.runs.specs.Rules.ModeRule.{EncodedNlri, encodings, SkippableNlri, unknown, discarded, SkippingRun, end, nlri, skip, Split, ModeRule}
use Rattle.runs.proofs.Steps.{Stops, stops-refused_at}
use Rattle.runs.proofs.Nlris.{walk_from-stops, nlris_from-stops}
use Rattle.runs.proofs.StepRule.{step_rule}
use Rattle.runs.proofs.WalkRule.{stops-follow}
use Rattle.runs.proofs.Turns.{skips, body_fault-stops, skippable-apart, not-skipped, refused-whole, turn-read, turn-reads, turn-skips, turn-stops, walk_by_from-read, walk_by_from-skipped, walk_by_from-stopped, nlris_by_from-read, nlris_by_from-skipped, nlris_by_from-stopped}
use Rattle.runs.proofs.Going.{walk_first}

-- the walk as it was, where that walk meets no refusal that the mode skips
module _ (afi mode : ℕ) (run : List ℕ) where
  abbrev AsItWas : (left at count : ℕ) → Type 0
  AsItWas left at count = (walk_by_from left afi mode run at count 0 ≡ walk_from left afi run at count) × (nlris_by_from left afi mode run at ≡ nlris_from left afi run at)

  as_it_was : (left at count : ℕ) → (mode ≡ SKIP → SkippableNumber (walk_from left afi run at count).number → ⊥) → AsItWas left at count
  unfolding walk_from walk_by_from nlris_from nlris_by_from
  as_it_was zero at count h = (refl, refl)
  as_it_was (suc left) at count h =
      tested (step_from afi run at).read
      (λ r.
      let next : ℕ = (step_from afi run at).cursor in
      let walk : walk_from (suc left) afi run at count ≡ walk_from left afi run next (count + 1) = pick_true _ _ _ r in
      let turn = turn-read afi run at mode r in
      let later = as_it_was left next (count + 1) (λ m e. h m (subst (λ (w : Walked). SkippableNumber w.number) (sym walk) e)) in (
        walk_by_from-read afi run at mode left count 0 _ _ turn ∙ later.0 ∙ sym walk,
        nlris_by_from-read afi run at mode left _ _ turn ∙ ap (λ (l : List NlriRead). record { offset = at; octets = part run at (next - at) } ∷ l) later.1 ∙ sym (pick_true _ _ _ r),
      ))
      (λ f.
      let n : ℕ = (step_from afi run at).number in
      let s : Stops (step_from afi run at) n = record { unread = f; numbered = refl } in
      let walk = walk_from-stops left afi run at count n s in
      let turn = turn-stops afi run at mode n s (not-skipped mode n (λ m e. h m (subst (λ (w : Walked). SkippableNumber w.number) (sym walk) e))) in
      (walk_by_from-stopped afi run at mode left count 0 n turn ∙ sym walk, nlris_by_from-stopped afi run at mode left n turn ∙ sym (nlris_from-stops left afi run at n s)))

  whole-as-it-was : (mode ≡ SKIP → SkippableNumber (walk_of afi run).number → ⊥) → (walk_by afi mode run ≡ walk_of afi run) × (nlris_by afi mode run ≡ nlris_of afi run)
  unfolding walk_by walk_of nlris_by nlris_of
  whole-as-it-was h = as_it_was (suc (length run)) 0 0 h

  -- the walk counts what it reads
  count-from : (left at count skipped : ℕ) → (walk_by_from left afi mode run at count skipped).count ≡ count + length (nlris_by_from left afi mode run at)
  unfolding walk_by_from nlris_by_from
  count-from zero at count skipped = omega arith
  count-from (suc left) at count skipped = go (turn_from afi mode run at) refl (count-from left)
    where
      go : (t : TurnTaken) → turn_from afi mode run at ≡ t → ((at' count' skipped' : ℕ) → (walk_by_from left afi mode run at' count' skipped').count ≡ count' + length (nlris_by_from left afi mode run at'))
          → (walk_by_from (suc left) afi mode run at count skipped).count ≡ count + length (nlris_by_from (suc left) afi mode run at)
      go (Read l c) e later =
          let walk = ap (λ (w : Walked). w.count) (walk_by_from-read afi run at mode left count skipped l c e) in
          omega (arith, later c.at (count + 1) skipped, ap length (nlris_by_from-read afi run at mode left l c e))
      go (Skipped c) e later =
          let walk = ap (λ (w : Walked). w.count) (walk_by_from-skipped afi run at mode left count skipped c e) in
          omega (arith, later c.at count (skipped + 1), ap length (nlris_by_from-skipped afi run at mode left c e))
      go (Stopped n) e later =
          let walk = ap (λ (w : Walked). w.count) (walk_by_from-stopped afi run at mode left count skipped n e) in
          omega (arith, ap length (nlris_by_from-stopped afi run at mode left n e))

  counted : (walk_by afi mode run).count ≡ length (nlris_by afi mode run)
  unfolding walk_by nlris_by
  counted = count-from (suc (length run)) 0 0 0 ∙ zero-add _

-- nothing is skipped in the walk as it was
none-skipped : (left afi : ℕ) (run : List ℕ) (at count : ℕ) → (walk_from left afi run at count).skipped ≡ 0
unfolding walk_from pick
none-skipped zero afi run at count = refl
none-skipped (suc left) afi run at count =
    let later = none-skipped left afi run (step_from afi run at).cursor (count + 1) in
    tested (step_from afi run at).read (λ t. rw t later) (λ f. rw f refl)

none : (afi : ℕ) (run : List ℕ) → (walk_of afi run).skipped ≡ 0
unfolding walk_of
none afi run = none-skipped (suc (length run)) afi run 0 0

walked_same : (n c c' o s s' : ℕ) → c ≡ c' → s ≡ s' → ◌≡◌ {A = Walked} (walked_with n c o s) (walked_with n c' o s')
walked_same n c c' o s s' p q = λ i. walked_with n (p i) o (q i)

-- what is skipped: its number, its size, and that reading refuses it so, whatever follows it
unfoldable skippable-number : {bits : ℕ} {s : List ℕ} → SkippableNlri bits s → ℕ
skippable-number (unknown type body strange) = TYPE
skippable-number (discarded f w d) = GROUP

skippable-skips : {bits : ℕ} {s : List ℕ} (o : SkippableNlri bits s) → SkippableNumber (skippable-number o)
unfolding skippable-number
skippable-skips (unknown type body strange) = inl refl
skippable-skips (discarded f w d) = inr refl

skippable-size : {bits : ℕ} {s : List ℕ} (t : List ℕ) → SkippableNlri bits s → 2 + get_or (s ++ t) 1 0 ≡ length s
unfolding encode_nlri
skippable-size t (unknown type body strange) = omega arith
skippable-size t (discarded f w d) = omega arith

skippable-refused : {bits : ℕ} {s : List ℕ} (t : List ℕ) (o : SkippableNlri bits s) → FrontRefusal bits (s ++ t) (skippable-number o)
unfolding skippable-number
skippable-refused t (unknown type body strange) = let room = length-append body t in unlaid (bad_type (⊎_elim (λ z. omega arith) (λ z. omega arith)) strange)
skippable-refused t (discarded f w d) = FrontRefusal.discarded f t w d refl

-- the figures of a run from a cursor on are those of the walk from there
module _ (afi bits : ℕ) (of_family : family_bits afi ≡ given bits) (run : List ℕ) (a : AllOctets run) (few : length run ≤ 4096) where
  -- octets that stand at the cursor, and what follows them
  past-front : (at n : ℕ) (s t : List ℕ) → length s ≡ n → drop at run ≡ s ++ t → at + length (s ++ t) ≡ length run → (drop (at + n) run ≡ t) × (at + n + length t ≡ length run)
  past-front at n s t is here size = (sym (drop-drop n at run) ∙ ap (drop n) here ∙ drop_at s t n is, omega (arith, length-append s t))

  abbrev Figures : (left at count skipped : ℕ) (nlris : List EncodedNlri) (number offset more : ℕ) → Type 0
  Figures left at count skipped nlris number offset more =
      (walk_by_from left afi SKIP run at count skipped ≡ walked_with number (count + length nlris) offset (skipped + more)) × (nlris_by_from left afi SKIP run at ≡ encodings nlris)

  figures : (left at count skipped : ℕ) {s : List ℕ} {nlris : List EncodedNlri} {number offset more : ℕ} → SkippingRun bits at s nlris number offset more → drop at run ≡ s → at + length s ≡ length run
      → length run < left + at → Figures left at count skipped nlris number offset more
  unfolding encodings part encode_run
  figures zero at count skipped r here size enough = absurd (omega arith)
  figures (suc left) at count skipped (end {number = number} {run = t} why other) here size enough =
      let turn = turn-stops afi run at SKIP number (stops-follow afi bits of_family run a few at t number (record { size = size; here = here }) why) (not-skipped SKIP number (λ _. other)) in
      (walk_by_from-stopped afi run at SKIP left count skipped number turn ∙ walked_same number _ _ _ _ _ (omega arith) (omega arith), nlris_by_from-stopped afi run at SKIP left number turn)
  figures (suc left) at count skipped (nlri {number = number} {offset = offset} {skipped = more} {rest = rest} {nlris = nlris} f w later) here size enough =
      let next : ℕ = at + length (encode_nlri f) in
      let turn = turn-reads afi run at SKIP (layout_for f) next (step_rule.reads afi run at f (record { bits = bits; of_family = of_family; short = few; well_formed = w; after = rest; is = here })) in
      let past = past-front at (length (encode_nlri f)) (encode_nlri f) rest refl here size in
      let on = figures left next (count + 1) skipped later past.0 past.1 (omega (arith, length-encoded f)) in
      let octets : part run at (next - at) ≡ encode_nlri f = ap (part run at) (add-sub_cancel_left at (length (encode_nlri f))) ∙ ap (take (length (encode_nlri f))) here ∙ take-append_seam (encode_nlri f) rest in (
        walk_by_from-read afi run at SKIP left count skipped _ _ turn ∙ on.0 ∙ walked_same number _ _ offset _ _ (omega arith) refl,
        nlris_by_from-read afi run at SKIP left _ _ turn ∙ ap₂ (λ (x : List ℕ) (y : List NlriRead). record { offset = at; octets = x } ∷ y) octets on.1,
      )
  figures (suc left) at count skipped (skip {number = number} {offset = offset} {skipped = more} {rest = rest} s o later) here size enough =
      let n : ℕ = skippable-number o in
      let past = past-front at (length s) s rest refl here size in
      let length-octet : get_or run (at + 1) 0 ≡ get_or (s ++ rest) 1 0 = sym (get_or-drop at run 1 0) ∙ ap (λ (l : List ℕ). get_or l 1 0) here in
      let whole = skippable-size rest o in
      let room = length-append s rest in
      let why = subst (λ (x : List ℕ). FrontRefusal bits x n) (sym here) (skippable-refused rest o) in
      let stop = stops-refused_at n at ((step_rule.refuses afi run at n a).1 (front bits of_family few (omega arith) why)) in
      let turn = turn-skips afi run at SKIP n stop (skips n (skippable-skips o)) in
      let is : past_nlri run at ≡ at + length s = omega arith in
      let on = figures left (at + length s) count (skipped + 1) later past.0 past.1 (omega arith) in (
        walk_by_from-skipped afi run at SKIP left count skipped _ turn ∙ ap (λ (k : ℕ). walk_by_from left afi SKIP run k count (skipped + 1)) is ∙ on.0 ∙ walked_same number _ _ offset _ _ refl (omega arith),
        nlris_by_from-skipped afi run at SKIP left _ turn ∙ ap (nlris_by_from left afi SKIP run) is ∙ on.1,
      )

  skipping : (s : Split bits 0 run) → (walk_by afi SKIP run ≡ walked_with s.number (length s.nlris) s.offset s.skipped) × (nlris_by afi SKIP run ≡ encodings s.nlris)
  unfolding walk_by nlris_by
  skipping s =
      let f = figures (suc (length run)) 0 0 0 s.is refl (omega arith) (omega arith) in
      (f.0 ∙ walked_same s.number _ _ s.offset _ _ (omega arith) (omega arith), f.1)

-- an NLRI that is whole, as its type, its Length and its body
whole-nlri : (s : List ℕ) → 2 + get_or s 1 0 ≤ length s → s ≡ (get_or s 0 0 ∷ (length (part s 2 (get_or s 1 0)) ∷ part s 2 (get_or s 1 0))) ++ drop (2 + get_or s 1 0) s
whole-nlri s h =
    sym (take-append-drop (2 + get_or s 1 0) s) ∙ ap (λ (x : List ℕ). x ++ drop (2 + get_or s 1 0) s) (take-two s (get_or s 1 0) (omega arith))
    ∙ ap (λ (n : ℕ). get_or s 0 0 ∷ (n ∷ (part s 2 (get_or s 1 0) ++ drop (2 + get_or s 1 0) s))) (sym (length_part s 2 (get_or s 1 0) (omega arith)))

-- octets that reading refuses: none, an NLRI that is skipped, or the run's end
module _ (bits at : ℕ) (s : List ℕ) where
  end-split : (n : ℕ) → RunEnd bits s n → (SkippableNumber n → ⊥) → Split bits at s
  end-split n why other = record { nlris = []; number = n; offset = at; skipped = 0; is = end why other }

  empty-split : length s ≡ 0 → Split bits at s
  empty-split e = end-split DONE (subst (λ (x : List ℕ). RunEnd bits x DONE) (sym (empty-list s e)) nothing) (λ z. (skippable-apart DONE z).0 refl)

  -- refused by a number that stops the walk
  stop-split : (n : ℕ) → FrontRefusal bits s n → (SkippableNumber n → ⊥) → Split bits at s
  stop-split n why other = tested (eqb (length s) 0) (λ t. empty-split (eqb-true _ _ t)) (λ f. end-split n (refusal (omega (arith, eqb-false (length s) 0 f)) why) other)

  module _ (later : (next : ℕ) → Split bits next (drop (2 + get_or s 1 0) s)) where
    skip-split : (t : List ℕ) → SkippableNlri bits t → s ≡ t ++ drop (2 + get_or s 1 0) s → Split bits at s
    skip-split t o is =
        let on = later (at + length t) in
        record {
          nlris = on.nlris;
          number = on.number;
          offset = on.offset;
          skipped = on.skipped + 1;
          is = subst (λ (x : List ℕ). SkippingRun bits at x on.nlris on.number on.offset (on.skipped + 1)) (sym is) (skip t o on.is);
        }

    unlaid-split : (n : ℕ) → layout_at bits s ≡ refused n → LaidRefusal bits s n → Split bits at s
    unlaid-split n e (short why) = stop-split n (unlaid (short why)) (λ z. (skippable-apart SHORT z).1 refl)
    unlaid-split n e (bad_type enough strange) = skip-split _ (unknown (get_or s 0 0) (part s 2 (get_or s 1 0)) strange) (whole-nlri s (refused-whole bits s n e (λ z. omega arith)))
    unlaid-split n e (bad_body enough typed fault) = stop-split n (unlaid (bad_body enough typed fault)) (body_fault-stops n (read_refusals.bodies bits _ _ _ n fault))

    refused-split : (n : ℕ) → layout_at bits s ≡ refused n → FrontRefusal bits s n → Split bits at s
    refused-split n e (unlaid why) = unlaid-split n e why
    refused-split n e (FrontRefusal.discarded f t w d is) =
        let o : SkippableNlri bits (encode_nlri f) = discarded f w d in
        let size : 2 + get_or s 1 0 ≡ length (encode_nlri f) = ap (λ (x : List ℕ). 2 + get_or x 1 0) is ∙ skippable-size t o in
        skip-split (encode_nlri f) o (is ∙ ap (λ (x : List ℕ). encode_nlri f ++ x) (sym (ap₂ drop size is ∙ drop-append_seam (encode_nlri f) t)))

module _ (afi bits : ℕ) (of_family : family_bits afi ≡ given bits) where
  -- from the front, while octets are left
  split : (left at : ℕ) (s : List ℕ) → length s ≤ left → AllOctets s → Split bits at s
  split zero at s less a = empty-split bits at s (omega arith)
  split (suc left) at s less a =
      ⊎_elim
      (λ yes.
      let laid : Laid = yes.0 in
      let r = front-accepted afi bits of_family s laid a yes.1 in
      let later = split left (at + length (encode_nlri r.0)) (drop (2 + laid.size) s) (rw length-drop (omega arith)) (octets-drop (2 + laid.size) a) in
      let nlris : List EncodedNlri = record { offset = at; fields = r.0 } ∷ later.nlris in
      record {
        nlris = nlris;
        number = later.number;
        offset = later.offset;
        skipped = later.skipped;
        is = subst (λ (x : List ℕ). SkippingRun bits at x nlris later.number later.offset later.skipped) (sym r.2) (nlri r.0 r.1 later.is);
      })
      (λ bad.
      let less' : length (drop (2 + get_or s 1 0) s) ≤ left = omega (arith, length-drop (2 + get_or s 1 0) s) in
      refused-split bits at s (λ next. split left next (drop (2 + get_or s 1 0) s) less' (octets-drop (2 + get_or s 1 0) a)) bad.0 (layout-refused bits s bad.0 bad.1)
      ((read_refusals.front afi bits s bad.0 of_family a).0 bad.1))
      (outcome (accepted_at bits s))

pub mode_rule : ModeRule
mode_rule =
    record {
      old = λ afi mode run h. whole-as-it-was afi mode run (λ m. absurd (h m));
      none = none;
      splits = λ afi bits run of_family a. split afi bits of_family (length run) 0 run (omega arith) a;
      skips = λ afi bits run s of_family a few. skipping afi bits of_family run a few s;
      agree = λ afi mode run h. whole-as-it-was afi mode run (λ _. h);
      refuses = λ afi mode run n a why other. sym (walk_first afi mode run n (stops-refused_at n 0 ((step_rule.refuses afi run 0 n a).1 why)) (not-skipped mode n (λ _. other)));
      counted = counted;
    }
