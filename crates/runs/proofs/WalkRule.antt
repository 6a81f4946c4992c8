-- The walk (document 01, "NLRI on the wire", walking a run): it is the iteration of the step, and counts the NLRIs that the run is made of.
use mathlib.Core.Path.{◌≡◌, refl, sym, ◌∙◌, ap, ap₂, subst}
use mathlib.Core.Bool.{Bool, true, false}
use mathlib.Core.Logic.{⊎_elim}
use mathlib.Core.List.{List, [], ◌∷◌, ◌++◌, append_assoc}
use Prim.Native.Nat.{ℕ, zero, suc, ◌+◌, ◌≤◌, ◌<◌}
use native.Mathlib.Nat.{zero-add, add-sub_cancel_left}
use native.Mathlib.Omega.{arith}
use lib.ListN.{length, take, drop, length-append, length-drop}
use lib.Seq.{drop-drop, drop-append_seam, take-append_seam}
use Rattle.octets.specs.Numbers.{DONE}
use Rattle.octets.specs.Outcome.{given, refused}
use Rattle.octets.specs.Octets.{AllOctets, part}
use Rattle.octets.proofs.Choice.{pick_true, pick-false, opposite}
use Rattle.octets.proofs.Outcome.{outcome}
use Rattle.octets.proofs.AllOctets.{octets-drop}
use Rattle.octets.proofs.Lists.{empty-list}
use Rattle.runs.specs.declared.walking.Walked.{Walked}
use Rattle.nlri.specs.Family.{family_bits}
use Rattle.nlri.specs.Fields.{Fields, encode_nlri, WellFormed}
use Rattle.nlri.specs.Reading.{Laid, accepted_at}
use Rattle.nlri.specs.Rules.NlriRules.{FrontRefusal, layout_for}
use Rattle.nlri.proofs.Statements.Acceptance.{front-accepted}
use Rattle.nlri.proofs.Statements.ReadRefusals.{read_refusals}
use Rattle.nlri.proofs.Statements.Layouts.{length-encoded}
use Rattle.runs.specs.Walking.{StepTaken, read_to, step_from, walked_to, walk_from, walk_of, NlriRead, nlris_from, nlris_of}
use Rattle.runs.specs.Rules.WalkRules.{front, Walks, stopping, going, encode_run, encoded_from, AllWellFormed, RunEnd, nothing, refusal, RunOf, WalkRule}
use Rattle.runs.proofs.Steps.{Stops, step_end, stops-ended_at, stops-refused_at}
use Rattle.runs.proofs.Nlris.{nlris_from-reads, nlris_from-stops, length-nlris_from}
use Rattle.runs.proofs.StepRule.{step_rule}

module _ (afi : ℕ) (run : List ℕ) where
  walk_from_lem : (left at count : ℕ) → at ≤ length run → length run < left + at → Walks afi run at count (walk_from left afi run at count)
  unfolding walk_from
  walk_from_lem zero at count within enough = absurd (omega arith)
  walk_from_lem (suc left) at count within enough = go (step_from afi run at).read refl (walk_from_lem left (step_from afi run at).cursor (count + 1))
    where
      go : (b : Bool) → (step_from afi run at).read ≡ b
          → ((step_from afi run at).cursor ≤ length run → length run < left + (step_from afi run at).cursor → Walks afi run (step_from afi run at).cursor (count + 1) (walk_from left afi run (step_from afi run at).cursor (count + 1)))
          → Walks afi run at count (walk_from (suc left) afi run at count)
      go true r ih = let m = step_rule.moves afi run at r in subst (Walks afi run at count) (sym (pick_true _ _ _ r)) (going r (ih m.2 (omega (arith, m.1))))
      go false r ih = subst (Walks afi run at count) (sym (pick-false _ _ _ r)) (stopping r)

  iterates : Walks afi run 0 0 (walk_of afi run)
  unfolding walk_of
  iterates = walk_from_lem (suc (length run)) 0 0 (omega arith) (omega arith)

counted : (afi : ℕ) (run : List ℕ) → (walk_of afi run).count ≡ length (nlris_of afi run)
unfolding walk_of nlris_of
counted afi run = length-nlris_from (suc (length run)) afi run 0 0 ∙ zero-add _

walks-once : (afi : ℕ) (run : List ℕ) (at count : ℕ) (v w : Walked) → Walks afi run at count v → Walks afi run at count w → v ≡ w
walks-once afi run at count v w (stopping r) (stopping q) = refl
walks-once afi run at count v w (stopping r) (going q b) = absurd (opposite q r)
walks-once afi run at count v w (going r a) (stopping q) = absurd (opposite r q)
walks-once afi run at count v w (going r a) (going q b) = walks-once afi run _ _ v w a b

-- where the first step stops
walks-stop : (afi : ℕ) (run : List ℕ) (at count number : ℕ) → Stops (step_from afi run at) number → (w : Walked) → w ≡ walked_to number count at → Walks afi run at count w
walks-stop afi run at count number s w is =
    subst (Walks afi run at count) (ap (λ (n : ℕ). walked_to n count at) s.numbered ∙ sym is) (stopping s.unread)

walked_same : (n c c' o o' : ℕ) → c ≡ c' → o ≡ o' → ◌≡◌ {A = Walked} (walked_to n c o) (walked_to n c' o')
walked_same n c c' o o' p q = λ i. walked_to n (p i) (q i)

-- NLRIs, and octets after them, stand in a run from a cursor to its end
pub record Follow (run : List ℕ) (at : ℕ) (fs : List Fields) (t : List ℕ) : Type 0 where
  pub size : at + length (encode_run fs ++ t) ≡ length run
  pub here : drop at run ≡ encode_run fs ++ t

first-here : (run : List ℕ) (at : ℕ) (f : Fields) (fs : List Fields) (t : List ℕ) → Follow run at (f ∷ fs) t → drop at run ≡ encode_nlri f ++ (encode_run fs ++ t)
unfolding encode_run
first-here run at f fs t r = r.here ∙ append_assoc (encode_nlri f) (encode_run fs) t

-- past the first of them
follow-next : (run : List ℕ) (at : ℕ) (f : Fields) (fs : List Fields) (t : List ℕ) → Follow run at (f ∷ fs) t → Follow run (at + length (encode_nlri f)) fs t
follow-next run at f fs t r =
    let n : List ℕ = encode_nlri f in
    let rest : List ℕ = encode_run fs ++ t in
    let first : drop at run ≡ n ++ rest = first-here run at f fs t r in
    let total = sym (ap length r.here) ∙ ap length first ∙ length-append n rest in
    record { size = omega (arith, r.size); here = sym (drop-drop (length n) at run) ∙ ap (drop (length n)) first ∙ drop-append_seam n rest }

module _ (afi bits : ℕ) (of_family : family_bits afi ≡ given bits) (run : List ℕ) (a : AllOctets run) (short : length run ≤ 4096) where
  -- the step at the first of them, and where they end
  step-follow : (at : ℕ) (f : Fields) (fs : List Fields) (t : List ℕ) → Follow run at (f ∷ fs) t → WellFormed bits f → step_from afi run at ≡ read_to (layout_for f) (at + length (encode_nlri f))
  step-follow at f fs t r w = step_rule.reads afi run at f (record { bits = bits; of_family = of_family; short = short; well_formed = w; after = encode_run fs ++ t; is = first-here run at f fs t r })

  pub stops-follow : (at : ℕ) (t : List ℕ) (n : ℕ) → Follow run at [] t → RunEnd bits t n → Stops (step_from afi run at) n
  unfolding encode_run
  stops-follow at t n r nothing = stops-ended_at at (step_end afi run at bits of_family short (omega (arith, r.size)))
  stops-follow at t n r (refusal some why) =
      stops-refused_at n at ((step_rule.refuses afi run at n a).1 (front bits of_family short (omega (arith, r.size)) (subst (λ (x : List ℕ). FrontRefusal bits x n) (sym r.here) why)))

  walks-run : (t : List ℕ) (n : ℕ) → RunEnd bits t n → (fs : List Fields) (at count : ℕ) → AllWellFormed bits fs → Follow run at fs t → Walks afi run at count (walked_to n (count + length fs) (at + length (encode_run fs)))
  unfolding encode_run read_to
  walks-run t n end [] at count w r = walks-stop afi run at count n (stops-follow at t n r end) _ (walked_same n _ _ _ _ (omega arith) (omega arith))
  walks-run t n end (f ∷ fs) at count w r =
      let is = step-follow at f fs t r w.0 in
      let later = walks-run t n end fs (at + length (encode_nlri f)) (count + 1) w.1 (follow-next run at f fs t r) in
      subst (Walks afi run at count) (walked_same n _ _ _ _ (omega arith) (rw length-append (omega arith)))
      (going (ap (λ (x : StepTaken). x.read) is)
      (subst (λ (c : ℕ). Walks afi run c (count + 1) (walked_to n (count + 1 + length fs) (at + length (encode_nlri f) + length (encode_run fs)))) (sym (ap (λ (x : StepTaken). x.cursor) is)) later))

  counts : (r : RunOf bits run) → walk_of afi run ≡ walked_to r.number (length r.nlris) (length (encode_run r.nlris))
  counts r =
      let w = walks-run r.tail r.number r.end r.nlris 0 0 r.well_formed (record { size = omega (arith, ap length r.is); here = r.is }) in
      walks-once afi run 0 0 _ _ (iterates afi run) w ∙ walked_same r.number _ _ _ _ (omega arith) (omega arith)

  nlris-run : (t : List ℕ) (n : ℕ) → RunEnd bits t n → (left : ℕ) (fs : List Fields) (at : ℕ) → AllWellFormed bits fs → Follow run at fs t → length run < left + at → nlris_from left afi run at ≡ encoded_from at fs
  unfolding encoded_from part
  nlris-run t n end zero fs at w r enough = absurd (omega (arith, r.size))
  nlris-run t n end (suc left) [] at w r enough = nlris_from-stops left afi run at n (stops-follow at t n r end)
  nlris-run t n end (suc left) (f ∷ fs) at w r enough =
      let size = length (encode_nlri f) in
      let here : part run at size ≡ encode_nlri f = ap (take size) (first-here run at f fs t r) ∙ take-append_seam (encode_nlri f) (encode_run fs ++ t) in
      let later = nlris-run t n end left fs (at + size) w.1 (follow-next run at f fs t r) (omega (arith, length-encoded f)) in
      nlris_from-reads left afi run at (layout_for f) (at + size) (step-follow at f fs t r w.0)
      ∙ ap₂ (λ (x : List ℕ) (y : List NlriRead). record { offset = at; octets = x } ∷ y) (ap (part run at) (add-sub_cancel_left at size) ∙ here) later

  reads : (r : RunOf bits run) → nlris_of afi run ≡ encoded_from 0 r.nlris
  unfolding nlris_of
  reads r = nlris-run r.tail r.number r.end (suc (length run)) r.nlris 0 r.well_formed (record { size = omega (arith, ap length r.is); here = r.is }) (omega arith)

module _ (afi bits : ℕ) (of_family : family_bits afi ≡ given bits) where
  -- NLRIs from the front, while reading accepts
  split : (left : ℕ) (s : List ℕ) → length s ≤ left → AllOctets s → RunOf bits s
  unfolding encode_run
  split zero s few a = record { nlris = []; tail = []; number = DONE; well_formed = tt; end = nothing; is = empty-list s (omega arith) }
  split (suc left) s few a =
      ⊎_elim
      (λ yes.
      let laid : Laid = yes.0 in
      let r = front-accepted afi bits of_family s laid a yes.1 in
      let later = split left (drop (2 + laid.size) s) (rw length-drop (omega arith)) (octets-drop (2 + laid.size) a) in
      record {
        nlris = r.0 ∷ later.nlris;
        tail = later.tail;
        number = later.number;
        well_formed = (r.1, later.well_formed);
        end = later.end;
        is = r.2 ∙ ap (λ (x : List ℕ). encode_nlri r.0 ++ x) later.is ∙ sym (append_assoc (encode_nlri r.0) (encode_run later.nlris) later.tail);
      })
      (λ bad. stop (length s) refl bad.0 bad.1)
      (outcome (accepted_at bits s))
    where
      stop : (m : ℕ) → length s ≡ m → (n : ℕ) → accepted_at bits s ≡ refused n → RunOf bits s
      stop zero e n why = record { nlris = []; tail = []; number = DONE; well_formed = tt; end = nothing; is = empty-list s e }
      stop (suc m) e n why =
          let some : 0 < length s = omega arith in
          record { nlris = []; tail = s; number = n; well_formed = tt; end = refusal some ((read_refusals.front afi bits s n of_family a).0 why); is = refl }

pub walk_rule : WalkRule
walk_rule =
    record {
      splits = λ afi bits run of_family a. split afi bits of_family (length run) run (omega arith) a;
      counts = λ afi bits run r of_family a short. counts afi bits of_family run a short r;
      reads = λ afi bits run r of_family a short. reads afi bits of_family run a short r;
      counted = counted;
      refuses = λ afi run n a why. walks-once afi run 0 0 _ _ (iterates afi run) (walks-stop afi run 0 0 n (stops-refused_at n 0 ((step_rule.refuses afi run 0 n a).1 why)) _ refl);
      iterates = iterates;
      only = walks-once;
    }
