-- What holds of a run that arrives in pieces (specs/Rules/PiecesRule.antt says what is stated).
use mathlib.Core.Path.{◌≡◌, refl, sym, ◌∙◌, ap}
use mathlib.Core.List.{List, [], append-nil}
use mathlib.Core.Logic.{◌⊎◌, inl, ⊎_elim, ◌≢◌}
use Prim.Native.Nat.{ℕ, ◌≤◌, ◌<◌}
use native.Mathlib.Omega.{arith}
use borrow.Author.Tests.{eq-eqb, ne_eqb, ltb-true, ltb-false}
use lib.ListN.{length, take, drop}
use lib.Dec.{ltb}
use Rattle.octets.specs.Numbers.{DONE, SHORT, LONG, FAMILY}
use Rattle.octets.specs.Outcome.{given, refused}
use Rattle.octets.proofs.Choice.{tested, pick_true, pick-false}
use Rattle.octets.proofs.Outcome.{outcome, never}
use Rattle.nlri.specs.Family.{family_bits}
use Rattle.nlri.proofs.Definitions.Families.{family-refused, family-refuses}
use Rattle.runs.specs.declared.walking.Walked.{Walked}
use Rattle.runs.specs.Walking.{walked_to, walked_with}
use Rattle.runs.specs.Modes.{walk_by, nlris_by}
use Rattle.runs.proofs.Steps.{stops-refused_at, step-family}
use Rattle.runs.proofs.Turns.{never-skipped, turn-stops, nlris_by_from-stopped}
use Rattle.runs.proofs.Going.{walk-family, walk-long}
use Rattle.pieces.specs.declared.state.Pieces.{Pieces}
use Rattle.pieces.specs.Feeding.{READING, STOPPED, FINISHED, FeedAnswer, started_as, answer_at_end, finish_of, passed_of, long_of, counted_of, over_of, feed_of}
use Rattle.pieces.specs.Handing.{Caller, Moment, first}
use Rattle.pieces.specs.Rules.PiecesRule.{PiecesClaim, TakenWhole, AtMoment, PiecesRule}
use Rattle.pieces.proofs.Feeds.{taken-most, taken-some, taken-ends, lent-after, given-most, feed-finished, feed-over, feed-counts, feed-front}
use Rattle.pieces.proofs.Means.{Reading, Means, kept-most, ended}
use Rattle.pieces.proofs.Moments.{octets-moment, Held, sound-now, means-total, held, Refused, start-refused, fed-refused, refused-moment, fed-over, takes-some, moment-pieces}

-- the answer of a reader that does not read is what it has
end-stopped : (p : Pieces) → p.stage ≢ READING → answer_at_end p ≡ p.walked
unfolding answer_at_end
end-stopped p other = pick-false _ _ _ (ne_eqb p.stage READING other)

-- that of one that reads has the count, offset and number skipped that it has
end-reading : (p : Pieces) → p.stage ≡ READING → answer_at_end p ≡ walked_with (answer_at_end p).number p.walked.count p.walked.offset p.walked.skipped
unfolding answer_at_end
end-reading p stage =
    let is = pick_true _ _ _ (eq-eqb p.stage READING stage) in
    is ∙ ap (λ (w : Walked). walked_with w.number p.walked.count p.walked.offset p.walked.skipped) (sym is)

-- an answer that passes a piece takes it whole
passed-whole : (q : Pieces) (unfinished piece : List ℕ) (a : FeedAnswer) → a ≡ passed_of q unfinished piece → TakenWhole unfinished piece a
passed-whole q unfinished piece a e = record { none = ap (λ (x : FeedAnswer). x.answer.size) e; all = ap (λ (x : FeedAnswer). x.answer.taken) e; lent = ap (λ (x : FeedAnswer). x.octets) e }

-- under a family
module _ (afi mode bits : ℕ) (of_family : family_bits afi ≡ given bits) (run : List ℕ) (c : Caller) (m : Moment afi mode run c) where
  state : Held afi mode bits run c
  state = held afi mode bits of_family m

  means-now : length run ≤ 4096 → Means afi mode bits run [] c
  means-now few = sound-now afi mode bits run c (state.short few) (octets-moment m) few

  long-end : 4096 < length run → answer_at_end c.pieces ≡ walked_to LONG 0 0
  long-end many = let l = state.over many in end-stopped c.pieces (λ z. omega (arith, l.stage)) ∙ l.walked

  claims-known : PiecesClaim afi mode run c
  claims-known =
      record {
        answers = tested (ltb 4096 (length run)) (λ t. long-end (ltb-true _ _ t) ∙ walk-long afi mode run bits of_family (ltb-true _ _ t))
            (λ f. (ended afi mode bits run (octets-moment m) c (means-now (ltb-false _ _ f))).0);
        gives = λ few. (ended afi mode bits run (octets-moment m) c (means-now few)).1;
        long = λ _ many. ((state.over many).walked, long-end many);
      }

  -- while it reads, the state means what it is to mean while reading
  reading-now : c.pieces.stage ≡ READING → Reading afi mode bits run [] c
  reading-now stage =
      tested (ltb 4096 (length run)) (λ t. absurd (omega (arith, (state.over (ltb-true _ _ t)).stage)))
      (λ f. ⊎_elim (λ r. r) (λ s. absurd (omega (arith, s.stage))) (means-now (ltb-false _ _ f)))

  -- the walk's answer then has the state's count, offset and number skipped
  walk-now : c.pieces.stage ≡ READING → walk_by afi mode run ≡ walked_with (answer_at_end c.pieces).number c.pieces.walked.count c.pieces.walked.offset c.pieces.walked.skipped
  walk-now stage = sym (ended afi mode bits run (octets-moment m) c (inl (reading-now stage))).0 ∙ end-reading c.pieces stage

  -- the number is DONE then
  reads_known : c.pieces.stage ≡ READING → c.pieces.walked ≡ walked_with DONE (walk_by afi mode run).count (walk_by afi mode run).offset (walk_by afi mode run).skipped
  reads_known stage =
      ap (λ (n : ℕ). walked_with n c.pieces.walked.count c.pieces.walked.offset c.pieces.walked.skipped) (reading-now stage).number
      ∙ sym (ap (λ (w : Walked). walked_with DONE w.count w.offset w.skipped) (walk-now stage))

  keeps-known : c.pieces.stage ≡ READING → (take c.pieces.kept c.unfinished ≡ drop (walk_by afi mode run).offset run) × (c.pieces.kept ≤ 256)
  keeps-known stage =
      let r = reading-now stage in
      (sym (ap (λ (w : Walked). drop w.offset run) (walk-now stage) ∙ r.here ∙ append-nil _), kept-most afi mode bits run (octets-moment m) [] c r)

  early-known : c.pieces.walked.number ≢ SHORT
  early-known e =
      tested (ltb 4096 (length run)) (λ t. omega (arith, ap (λ (w : Walked). w.number) (state.over (ltb-true _ _ t)).walked))
      (λ f. ⊎_elim (λ r. omega (arith, r.number)) (λ s. s.early e) (means-now (ltb-false _ _ f)))

  moments-known : AtMoment afi mode run c
  moments-known =
      record {
        reads = reads_known;
        tells = λ other. sym (end-stopped c.pieces other) ∙ claims-known.answers;
        early = early-known;
        counts = λ _ few. means-total afi mode bits run c (means-now few);
        keeps = keeps-known;
        passes = λ _ piece many.
            let is = fed-over afi mode bits run c (octets-moment m) state piece many in
            (passed-whole (long_of c.pieces) c.unfinished piece _ is, ap (λ (a : FeedAnswer). a.answer.pieces.walked) is);
        refuses = λ one two _. absurd (never of_family (family-refuses afi one two));
        goes = takes-some m;
      }

-- under a bad AFI
module _ (afi mode n : ℕ) (bad : family_bits afi ≡ refused n) (run : List ℕ) (c : Caller) (m : Moment afi mode run c) where
  refusal : Refused afi mode c
  refusal = refused-moment afi mode n bad m

  unchanged : c.pieces ≡ started_as afi mode FINISHED n
  unchanged = refusal.stays ∙ start-refused afi mode n bad

  tells : c.pieces.walked ≡ walked_to n 0 0
  tells = ap (λ (p : Pieces). p.walked) unchanged

  ends : c.pieces.walked ≡ walked_to FAMILY 0 0
  ends = tells ∙ ap (λ (k : ℕ). walked_to k 0 0) (family-refused afi n bad).0

  finishes : c.pieces.stage ≢ READING
  finishes z = omega (arith, ap (λ (p : Pieces). p.stage) unchanged)

  -- the AFI is neither of the two
  unknown : (afi ≡ 1) ⊎ (afi ≡ 2) → ⊥
  unknown good = let others = (family-refused afi n bad).1 in ⊎_elim others.0 others.1 good

  claims-unknown : PiecesClaim afi mode run c
  unfolding nlris_by
  claims-unknown =
      record {
        answers = end-stopped c.pieces finishes ∙ tells ∙ walk-family afi mode run n bad;
        gives = λ _.
            let told = never-skipped mode n (λ t. omega (arith, (family-refused afi n bad).0)) (λ g. omega (arith, (family-refused afi n bad).0)) in
            refusal.gave ∙ sym (nlris_by_from-stopped afi run 0 mode _ n (turn-stops afi run 0 mode n (stops-refused_at n 0 (step-family afi run 0 n bad)) told));
        long = λ good _. absurd (unknown good);
      }

  moments-unknown : AtMoment afi mode run c
  moments-unknown =
      record {
        reads = λ stage. absurd (finishes stage);
        tells = λ other. sym (end-stopped c.pieces other) ∙ claims-unknown.answers;
        early = λ e. omega (arith, ap (λ (w : Walked). w.number) ends);
        counts = λ good _. absurd (unknown good);
        keeps = λ stage. absurd (finishes stage);
        passes = λ good _ _. absurd (unknown good);
        refuses = λ _ _ piece.
            let is = fed-refused afi mode n bad c piece refusal in
            (passed-whole c.pieces c.unfinished piece _ is, ap (λ (a : FeedAnswer). a.answer.pieces.walked) is ∙ ends);
        goes = takes-some m;
      }

claims : (afi mode : ℕ) (run : List ℕ) (c : Caller) → Moment afi mode run c → PiecesClaim afi mode run c
claims afi mode run c m = ⊎_elim (λ good. claims-known afi mode good.0 good.1 run c m) (λ bad. claims-unknown afi mode bad.0 bad.1 run c m) (outcome (family_bits afi))

moments : (afi mode : ℕ) (run : List ℕ) (c : Caller) → Moment afi mode run c → AtMoment afi mode run c
moments afi mode run c m = ⊎_elim (λ good. moments-known afi mode good.0 good.1 run c m) (λ bad. moments-unknown afi mode bad.0 bad.1 run c m) (outcome (family_bits afi))

-- after a stop
stays : (p : Pieces) (unfinished piece : List ℕ) → p.stage ≡ STOPPED → TakenWhole unfinished piece (feed_of p unfinished piece) × ((feed_of p unfinished piece).answer.pieces.stage ≡ STOPPED)
stays p unfinished piece stage =
    tested (over_of p (length piece)) (λ o. passes (long_of p) (feed-over p unfinished piece (omega arith) o) refl)
    (λ o. passes (counted_of p (length piece)) (feed-counts p unfinished piece (omega arith) o (λ z. omega arith)) refl)
  where
    passes : (q : Pieces) → feed_of p unfinished piece ≡ passed_of q unfinished piece → q.stage ≡ STOPPED → TakenWhole unfinished piece (feed_of p unfinished piece) × ((feed_of p unfinished piece).answer.pieces.stage ≡ STOPPED)
    passes q e s = (passed-whole q unfinished piece _ e, ap (λ (a : FeedAnswer). a.answer.pieces.stage) e ∙ s)

again : (p : Pieces) → finish_of (finish_of p) ≡ finish_of p
again p = ap (λ (w : Walked). record { walked = w; afi = p.afi; mode = p.mode; stage = FINISHED; total = p.total; kept = p.kept }) (end-stopped (finish_of p) (λ z. omega arith))

pub pieces_rule : PiecesRule
pieces_rule =
    record {
      claim = λ afi mode unfinished pieces room o. claims afi mode _ _ (moment-pieces pieces (first unfinished room) o);
      claims = claims;
      moments = moments;
      loop = λ afi mode unfinished pieces room o. moment-pieces pieces (first unfinished room) o;
      family = λ afi mode one two. start-refused afi mode FAMILY (family-refuses afi one two);
      most = taken-most;
      some = taken-some;
      ends = taken-ends;
      lent = lent-after;
      fits = given-most;
      stopped = stays;
      finished = λ p unfinished piece. let is = feed-finished (finish_of p) unfinished piece (omega arith) in (passed-whole (finish_of p) unfinished piece _ is, ap (λ (a : FeedAnswer). a.answer.pieces) is);
      again = again;
      rest = feed-front;
    }
