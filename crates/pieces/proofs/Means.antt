-- What a reader's state means for a run of which it has taken all but a rest; and that a feed keeps it so.
use mathlib.Core.Path.{◌≡◌, refl, sym, ◌∙◌, ap, ap₂, subst}
use mathlib.Core.Bool.{true, false}
use mathlib.Core.List.{List, [], ◌∷◌, ◌++◌, append_assoc, append-nil}
use mathlib.Core.Logic.{◌⊎◌, inl, inr, ⊎_elim, ◌≢◌}
use Prim.Native.Nat.{ℕ, suc, ◌+◌, ◌-◌, ◌≤◌, ◌<◌}
use native.Mathlib.Omega.{arith}
use borrow.Author.Tests.{eqb-true, eqb-false, eq-eqb, ne_eqb, ltb-true, ltb-false}
use lib.ListN.{length, get_or, take, drop, length-append, length-drop, get_or-append}
use lib.Seq.{length-take-le, take_all, take-append_seam, get_or-drop, drop-drop, drop-append_seam}
use lib.Dec.{ltb, eqb}
use Rattle.octets.specs.Numbers.{DONE, SHORT}
use Rattle.octets.specs.Choice.{pick}
use Rattle.octets.specs.Outcome.{given, number_of, and_then}
use Rattle.octets.specs.Octets.{AllOctets, part, placed}
use Rattle.octets.proofs.Choice.{tested, pick_true, pick-false}
use Rattle.octets.proofs.Outcome.{and-given, refused-of, number-refused}
use Rattle.octets.proofs.Lists.{length-placed, take-placed}
use Rattle.octets.proofs.AllOctets.{octets-take, octets-drop}
use Rattle.nlri.specs.Family.{family_bits}
use Rattle.nlri.specs.Layouts.{layout_at}
use Rattle.runs.specs.Walking.{walked_with, step_from, read_to, refused_at, NlriRead}
use Rattle.runs.specs.Modes.{Skipped, is_skipped, past_nlri, turn_from, walk_by, nlris_by_from, nlris_by}
use Rattle.runs.specs.Rules.WalkRules.{StepRefusal, bad_family, long, past, front}
use Rattle.runs.proofs.Steps.{Stops, stops-ended_at, stops-refused_at, step_end, step-octet, step-unaccepted}
use Rattle.runs.proofs.Turns.{never-skipped, turn-reads, turn-skips, turn-stops, nlris_by_from-read, nlris_by_from-skipped, nlris_by_from-stopped}
use Rattle.runs.proofs.Going.{Going, going-last, going-refused, going-read, going-skipped}
use Rattle.runs.proofs.Theorems.{step_rule}
use Rattle.pieces.specs.declared.feeding.Fed.{Fed}
use Rattle.pieces.specs.Feeding.{READING, STOPPED, FeedAnswer, answer_at_end, passed_of, counted_of, size_in, wanted_of, share_of, number_under, kept_of, judged_of, taken_of, read_on_of, Within}
use Rattle.pieces.specs.Handing.{Caller, given_by, fed_by, after_feed}
use Rattle.pieces.proofs.Sizes.{size-known, size-least, size-most, size-grows, layout-alone, layout-short, whole-not-short}
use Rattle.pieces.proofs.Feeds.{not-over, feed-reads, feed-counts, share-rest, share-some, taken-kept, taken-judged, judged-read, judged-skipped, judged-stopped, taken-share}

-- the NLRI that is unfinished: its octets so far
abbrev pub front_of : Caller → List ℕ
front_of c = take c.pieces.kept c.unfinished

-- while reading: the unfinished NLRI begins where the walk over the run goes on, and what is kept of it stands there
pub record Reading (afi mode bits : ℕ) (run rest : List ℕ) (c : Caller) : Type 0 where
  pub family : c.pieces.afi ≡ afi
  pub by_mode : c.pieces.mode ≡ mode
  pub stage : c.pieces.stage ≡ READING
  pub number : c.pieces.walked.number ≡ DONE
  pub total : c.pieces.total + length rest ≡ length run
  pub place : c.pieces.total ≡ c.pieces.walked.offset + c.pieces.kept
  pub going : Going afi mode bits run c.pieces.walked.offset c.pieces.walked.count c.pieces.walked.skipped
  pub told : nlris_by afi mode run ≡ c.nlris ++ nlris_by_from (suc (length run - (c.pieces.walked.count + c.pieces.walked.skipped))) afi mode run c.pieces.walked.offset
  pub room : length c.unfinished ≡ 257
  pub here : drop c.pieces.walked.offset run ≡ front_of c ++ rest
  pub part-way : c.pieces.kept < size_in (front_of c)

-- after a stop: the walk's answer is known
pub record Stopped (afi mode : ℕ) (run rest : List ℕ) (c : Caller) : Type 0 where
  pub stage : c.pieces.stage ≡ STOPPED
  pub total : c.pieces.total + length rest ≡ length run
  pub short : length run ≤ 4096
  pub count : c.pieces.walked.count ≤ 4096
  pub skipped : c.pieces.walked.skipped ≤ 4096
  pub kept : c.pieces.kept ≡ 0
  pub answer : c.pieces.walked ≡ walk_by afi mode run
  pub told : c.nlris ≡ nlris_by afi mode run
  pub early : c.pieces.walked.number ≢ SHORT
  pub room : length c.unfinished ≡ 257

abbrev pub Means : (afi mode bits : ℕ) (run rest : List ℕ) → Caller → Type 0
Means afi mode bits run rest c = Reading afi mode bits run rest c ⊎ Stopped afi mode run rest c

-- the number of an NLRI under a family
number-under : (afi bits : ℕ) (s : List ℕ) → family_bits afi ≡ given bits → number_under afi s ≡ number_of (layout_at bits s)
unfolding number_under
number-under afi bits s f = ap (λ o. number_of (and_then o (λ b. layout_at b s))) f ∙ ap number_of (and-given _ _)

module _ (afi mode bits : ℕ) (run : List ℕ) (octets : AllOctets run) where
  -- facts of a reader that reads
  module _ (rest : List ℕ) (c : Caller) (r : Reading afi mode bits run rest c) where
    octets-front : AllOctets (front_of c)
    octets-front = subst AllOctets (ap (take (length (front_of c))) r.here ∙ take-append_seam (front_of c) rest) (octets-take (length (front_of c)) (octets-drop c.pieces.walked.offset octets))

    pub kept-most : c.pieces.kept ≤ 256
    kept-most = omega (arith, r.part-way, size-most (front_of c) octets-front)

    pub length_front : length (front_of c) ≡ c.pieces.kept
    length_front = length-take-le c.pieces.kept c.unfinished (omega (arith, kept-most, r.room))

    pub within-reading : (size : ℕ) → size ≤ length rest → Within c.pieces size
    within-reading size h =
        let few = r.going.short in
        record { total = omega (arith, r.total); count = omega (arith, r.going.counted, r.going.within); skipped = omega (arith, r.going.counted, r.going.within); kept = kept-most }

    -- where the walk stops the NLRIs given are all that it reads
    told-stopped : (n : ℕ) → Stops (step_from afi run c.pieces.walked.offset) n → is_skipped mode n ≡ false → c.nlris ≡ nlris_by afi mode run
    told-stopped n s f =
        sym (r.told ∙ ap (λ (l : List NlriRead). c.nlris ++ l) (nlris_by_from-stopped afi run c.pieces.walked.offset mode _ n (turn-stops afi run c.pieces.walked.offset mode n s f)) ∙ append-nil c.nlris)

    -- a feed of no more octets than the run has
    module _ (piece : List ℕ) (h : length piece ≤ length rest) where
      pub reads : fed_by c piece ≡ read_on_of c.pieces c.unfinished piece
      reads = feed-reads c.pieces c.unfinished piece (omega (arith, r.stage)) (not-over c.pieces (length piece) (within-reading (length piece) h)) r.stage

      pub shares : (fed_by c piece).answer.taken ≡ share_of (size_in (front_of c ++ piece)) c.pieces.kept (length piece)
      unfolding read_on_of wanted_of
      shares = ap (λ (a : FeedAnswer). a.answer.taken) reads ∙ taken-share c.pieces c.unfinished piece (size_in (front_of c ++ piece)) (share_of (size_in (front_of c ++ piece)) c.pieces.kept (length piece))

    pub wants-more : (piece : List ℕ) → c.pieces.kept < size_in (front_of c ++ piece)
    wants-more piece = omega (arith, size-grows (front_of c) piece (omega (arith, length_front, r.part-way)), length_front)

  -- a feed of octets that are all taken
  module _ (piece rest : List ℕ) (c : Caller) (r : Reading afi mode bits run (piece ++ rest) c) (all : (fed_by c piece).answer.taken ≡ length piece) where
    -- the NLRI's octets with those of the piece
    abbrev nlri : List ℕ
    nlri = front_of c ++ piece

    stands : drop c.pieces.walked.offset run ≡ nlri ++ rest
    stands = r.here ∙ sym (append_assoc (front_of c) piece rest)

    length-nlri : length nlri ≡ c.pieces.kept + length piece
    length-nlri = length-append (front_of c) piece ∙ ap (λ (n : ℕ). n + length piece) (length_front (piece ++ rest) c r)

    octets-nlri : AllOctets nlri
    octets-nlri = subst AllOctets (ap (take (length nlri)) stands ∙ take-append_seam nlri rest) (octets-take (length nlri) (octets-drop c.pieces.walked.offset octets))

    no_more : length piece ≤ length (piece ++ rest)
    no_more = omega (arith, length-append piece rest)

    share : share_of (size_in nlri) c.pieces.kept (length piece) ≡ length piece
    share = sym (shares (piece ++ rest) c r piece no_more) ∙ all

    -- the piece does not go past the NLRI
    fits : size_in nlri ≤ c.pieces.kept + length piece → size_in nlri ≡ c.pieces.kept + length piece
    fits h = omega (arith, sym (share-rest (size_in nlri) c.pieces.kept (length piece) h) ∙ share, wants-more (piece ++ rest) c r piece)

    -- the lent octets afterwards
    abbrev filled : List ℕ
    filled = placed c.pieces.kept piece c.unfinished

    takes : fed_by c piece ≡ taken_of c.pieces c.unfinished piece (size_in nlri) (length piece)
    unfolding read_on_of wanted_of
    takes = reads (piece ++ rest) c r piece no_more ∙ ap (taken_of c.pieces c.unfinished piece (size_in nlri)) share

    front-filled : take (c.pieces.kept + length piece) filled ≡ nlri
    front-filled = take-placed c.pieces.kept piece c.unfinished (omega (arith, kept-most (piece ++ rest) c r, r.room))

    room-filled : c.pieces.kept + length piece ≤ 257 → length filled ≡ 257
    room-filled h = length-placed c.pieces.kept piece c.unfinished (omega (arith, r.room)) ∙ r.room

    whole-piece : take (length piece) piece ≡ piece
    whole-piece = take_all (length piece) piece (omega arith)

    total-after : c.pieces.total + length piece + length rest ≡ length run
    total-after = omega (arith, r.total, length-append piece rest)

    -- the piece ends inside the NLRI
    goes_on : c.pieces.kept + length piece < size_in nlri → Means afi mode bits run rest (after_feed c (fed_by c piece))
    unfolding after_feed given_by pick
    goes_on h =
        let is : fed_by c piece ≡ record { answer = kept_of c.pieces (length piece); octets = filled } =
        takes ∙ taken-kept c.pieces c.unfinished piece (size_in nlri) (length piece) h
        ∙ ap (λ (l : List ℕ). record { answer = kept_of c.pieces (length piece); octets = placed c.pieces.kept l c.unfinished }) whole-piece in
        subst (λ (a : FeedAnswer). Means afi mode bits run rest (after_feed c a)) (sym is)
        (inl
        (record {
          family = r.family;
          by_mode = r.by_mode;
          stage = refl;
          number = r.number;
          total = total-after;
          place = omega (arith, r.place);
          going = r.going;
          told = r.told ∙ ap (λ (l : List NlriRead). l ++ nlris_by_from (suc (length run - (c.pieces.walked.count + c.pieces.walked.skipped))) afi mode run c.pieces.walked.offset) (sym (append-nil c.nlris));
          room = room-filled (omega (arith, size-most nlri octets-nlri));
          here = stands ∙ ap (λ (l : List ℕ). l ++ rest) (sym front-filled);
          part-way = subst (λ (l : List ℕ). c.pieces.kept + length piece < size_in l) (sym front-filled) h;
        }))

    -- the piece ends the NLRI
    module _ (n : ℕ) (size : size_in nlri ≡ n) (whole : n ≡ c.pieces.kept + length piece) where
      two : 2 ≤ n
      two = omega (arith, size-least nlri)

      before : c.pieces.walked.offset < length run
      before = omega (arith, two, ap length stands, length-append nlri rest, length-nlri, length-drop c.pieces.walked.offset run)

      -- its number is that of the run from there on
      number-stands : number_under afi nlri ≡ number_of (layout_at bits (drop c.pieces.walked.offset run))
      number-stands =
          number-under afi bits nlri r.going.of_family
          ∙ ap number_of (sym (layout-alone bits nlri rest (size ∙ whole ∙ sym length-nlri)) ∙ ap (layout_at bits) (sym stands))

      -- its Length octet
      octet-stands : 2 + get_or run (c.pieces.walked.offset + 1) 0 ≡ n
      octet-stands =
          ap (λ (x : ℕ). 2 + x)
          (sym (get_or-drop c.pieces.walked.offset run 1 0) ∙ ap (λ (l : List ℕ). get_or l 1 0) stands ∙ get_or-append nlri rest 0 1 (omega (arith, length-nlri, two)))
          ∙ sym (size-known nlri (omega (arith, length-nlri, two))) ∙ size

      judges : (f : Fed) → judged_of c.pieces (number_under afi nlri) n (length piece) ≡ f → fed_by c piece ≡ record { answer = f; octets = filled }
      judges f is =
          let taken : take n filled ≡ nlri = ap (λ (k : ℕ). take k filled) whole ∙ front-filled in
          takes ∙ ap (λ (k : ℕ). taken_of c.pieces c.unfinished piece k (length piece)) size
          ∙ taken-judged c.pieces c.unfinished piece n (length piece) (omega arith)
          ∙ ap (λ (l : List ℕ). record { answer = judged_of c.pieces (number_under c.pieces.afi (take n (placed c.pieces.kept l c.unfinished))) n (length piece); octets = placed c.pieces.kept l c.unfinished }) whole-piece
          ∙ ap (λ (f : Fed). record { answer = f; octets = filled }) (ap (λ (k : ℕ). judged_of c.pieces k n (length piece)) (ap₂ number_under r.family taken) ∙ is)

      room_after : length filled ≡ 257
      room_after = room-filled (omega (arith, size-most nlri octets-nlri))

      -- where the next one begins, and what stands there
      abbrev next : ℕ
      next = c.pieces.total + length piece

      stands-next : drop next run ≡ rest
      stands-next =
          let is : next ≡ c.pieces.walked.offset + length nlri = omega (arith, r.place, length-nlri) in
          ap (λ (k : ℕ). drop k run) is ∙ sym (drop-drop (length nlri) c.pieces.walked.offset run) ∙ ap (drop (length nlri)) stands ∙ drop-append_seam nlri rest

      next-is : next ≡ past_nlri run c.pieces.walked.offset
      next-is = omega (arith, r.place, octet-stands)

      -- the walk goes on there, with these counts, and with these NLRIs given
      moves-on : (count skipped : ℕ) (nlris : List NlriRead) → Going afi mode bits run next count skipped
          → nlris_by afi mode run ≡ nlris ++ nlris_by_from (suc (length run - (count + skipped))) afi mode run next
          → Means afi mode bits run rest (record { pieces = record { walked = walked_with DONE count next skipped; afi = c.pieces.afi; mode = c.pieces.mode; stage = READING; total = next; kept = 0 }; unfinished = filled; nlris = nlris })
      moves-on count skipped nlris going told =
          inl
          (record {
            family = r.family;
            by_mode = r.by_mode;
            stage = refl;
            number = refl;
            total = total-after;
            place = omega arith;
            going = going;
            told = told;
            room = room_after;
            here = stands-next;
            part-way = omega (arith, size-least []);
          })

      -- one turn fewer is left
      left_after : (count skipped : ℕ) → count + skipped ≡ suc (c.pieces.walked.count + c.pieces.walked.skipped) → length run - (c.pieces.walked.count + c.pieces.walked.skipped) ≡ suc (length run - (count + skipped))
      left_after count skipped one = omega (arith, r.going.counted, before)

      -- it is read, and given
      gives : number_under afi nlri ≡ DONE → Means afi mode bits run rest (after_feed c (fed_by c piece))
      unfolding after_feed given_by pick part
      gives done =
          let offset : ℕ = c.pieces.walked.offset in
          let count : ℕ = c.pieces.walked.count in
          let skipped : ℕ = c.pieces.walked.skipped in
          let read = step-octet afi run offset bits r.going.of_family r.going.short before (sym number-stands ∙ done) in
          let step : step_from afi run offset ≡ read_to read.0 next = read.1 ∙ ap (read_to read.0) (sym next-is) in
          let size_is : next - offset ≡ n = omega (arith, r.place) in
          let began : next - n ≡ offset = omega (arith, r.place) in
          let octets-are : part run offset (next - offset) ≡ take n filled =
          ap (λ (k : ℕ). take k (drop offset run)) (size_is ∙ whole ∙ sym length-nlri) ∙ ap (take (length nlri)) stands ∙ take-append_seam nlri rest
          ∙ sym front-filled ∙ ap (λ (k : ℕ). take k filled) (sym whole) in
          let nlris : (o : ℕ) → List ℕ → List NlriRead = λ o l. record { offset = o; octets = l } ∷ [] in
          let given-it : pick (eqb n 0) [] (nlris (next - n) (take n filled)) ≡ nlris offset (part run offset (next - offset)) =
          pick-false _ _ _ (ne_eqb n 0 (λ z. omega (arith, two))) ∙ ap₂ nlris began (sym octets-are) in
          subst (λ (a : FeedAnswer). Means afi mode bits run rest (after_feed c a)) (sym (judges _ (judged-read c.pieces _ n (length piece) done)))
          (moves-on (count + 1) skipped _
          (going-read afi mode bits run offset count skipped r.going before (drop offset run) refl DONE (sym done ∙ number-stands) refl next next-is (count + 1) skipped refl refl)
          (r.told ∙ ap (λ (l : List NlriRead). c.nlris ++ l) (nlris_by_from-read afi run offset mode (length run - (count + skipped)) read.0 _ (turn-reads afi run offset mode read.0 next step))
          ∙ sym (append_assoc c.nlris (nlris offset (part run offset (next - offset))) (nlris_by_from (length run - (count + skipped)) afi mode run next))
          ∙ ap₂ (λ (l : List NlriRead) (k : ℕ). (c.nlris ++ l) ++ nlris_by_from k afi mode run next) (sym given-it) (left_after (count + 1) skipped (omega arith))))

      -- it is refused
      module _ (other : number_under afi nlri ≢ DONE) where
        step-refused : step_from afi run c.pieces.walked.offset ≡ refused_at (number_under afi nlri) c.pieces.walked.offset
        step-refused = step-unaccepted afi run _ bits r.going.of_family r.going.short before _ (refused-of _ _ number-stands other)

        -- and skipped
        skips : is_skipped mode (number_under afi nlri) ≡ true → Means afi mode bits run rest (after_feed c (fed_by c piece))
        unfolding after_feed given_by pick
        skips t =
            let offset : ℕ = c.pieces.walked.offset in
            let count : ℕ = c.pieces.walked.count in
            let skipped : ℕ = c.pieces.walked.skipped in
            let number : ℕ = number_under afi nlri in
            let turn : turn_from afi mode run offset ≡ Skipped (record { at = next }) =
            turn-skips afi run offset mode number (stops-refused_at number offset step-refused) t ∙ ap (λ (k : ℕ). Skipped (record { at = k })) (sym next-is) in
            subst (λ (a : FeedAnswer). Means afi mode bits run rest (after_feed c a)) (sym (judges _ (judged-skipped c.pieces number n (length piece) other (ap (λ (m : ℕ). is_skipped m number) r.by_mode ∙ t))))
            (moves-on count (skipped + 1) _
            (going-skipped afi mode bits run offset count skipped r.going before (drop offset run) refl number number-stands t next next-is count (skipped + 1) refl refl)
            (r.told ∙ ap (λ (l : List NlriRead). c.nlris ++ l) (nlris_by_from-skipped afi run offset mode (length run - (count + skipped)) _ turn)
            ∙ ap₂ (λ (l : List NlriRead) (k : ℕ). l ++ nlris_by_from k afi mode run next) (sym (append-nil c.nlris)) (left_after count (skipped + 1) (omega arith))))

        -- or it stops the reading
        stops : is_skipped mode (number_under afi nlri) ≡ false → Means afi mode bits run rest (after_feed c (fed_by c piece))
        unfolding after_feed given_by pick
        stops f =
            let offset : ℕ = c.pieces.walked.offset in
            let number : ℕ = number_under afi nlri in
            let few = within-reading (piece ++ rest) c r 0 (omega arith) in
            subst (λ (a : FeedAnswer). Means afi mode bits run rest (after_feed c a)) (sym (judges _ (judged-stopped c.pieces number n (length piece) other (ap (λ (m : ℕ). is_skipped m number) r.by_mode ∙ f))))
            (inr
            (record {
              stage = refl;
              total = total-after;
              short = r.going.short;
              count = few.count;
              skipped = few.skipped;
              kept = refl;
              answer = going-refused afi mode bits run offset _ _ r.going before (drop offset run) refl number number-stands other f;
              told = append-nil c.nlris ∙ told-stopped (piece ++ rest) c r number (stops-refused_at number offset step-refused) f;
              early = refusal-early number ((step_rule.refuses afi run offset number octets).0 step-refused);
              room = room_after;
            }))
          where
            enough : size_in (drop c.pieces.walked.offset run) ≤ length (drop c.pieces.walked.offset run)
            enough =
                let size-stands : size_in (nlri ++ rest) ≡ n = size-known (nlri ++ rest) (omega (arith, length-append nlri rest, length-nlri, two)) ∙ ap (λ (x : ℕ). 2 + x) (get_or-append nlri rest 0 1 (omega (arith, length-nlri, two))) ∙ sym (size-known nlri (omega (arith, length-nlri, two))) ∙ size in
                omega (arith, ap size_in stands ∙ size-stands, ap length stands, length-append nlri rest, length-nlri)

            refusal-early : (m : ℕ) → StepRefusal afi run c.pieces.walked.offset m → m ≢ SHORT
            refusal-early m (bad_family one two) e = omega arith
            refusal-early m (long b f h) e = omega arith
            refusal-early m (past b f few far) e = omega (arith, before)
            refusal-early m (front b f few near why) e = whole-not-short b _ m enough why e

    fed-reading : Means afi mode bits run rest (after_feed c (fed_by c piece))
    fed-reading =
        tested (ltb (c.pieces.kept + length piece) (size_in nlri)) (λ t. goes_on (ltb-true _ _ t))
        (λ f.
        let whole = fits (ltb-false _ _ f) in
        tested (eqb (number_under afi nlri) DONE) (λ d. gives (size_in nlri) refl whole (eqb-true _ _ d))
        (λ d.
        let other = eqb-false _ _ d in
        tested (is_skipped mode (number_under afi nlri)) (λ t. skips (size_in nlri) refl whole other t) (λ f. stops (size_in nlri) refl whole other f)))

  -- a reader that has stopped counts
  counts-stopped : (piece rest : List ℕ) (c : Caller) → Stopped afi mode run (piece ++ rest) c → fed_by c piece ≡ passed_of (counted_of c.pieces (length piece)) c.unfinished piece
  counts-stopped piece rest c s =
      let sum = length-append piece rest in
      let within : Within c.pieces (length piece) = record { total = omega (arith, s.total, s.short); count = s.count; skipped = s.skipped; kept = omega (arith, s.kept) } in
      feed-counts c.pieces c.unfinished piece (omega (arith, s.stage)) (not-over c.pieces (length piece) within) (λ z. omega (arith, s.stage))

  fed-stopped : (piece rest : List ℕ) (c : Caller) → Stopped afi mode run (piece ++ rest) c → Means afi mode bits run rest (after_feed c (fed_by c piece))
  unfolding after_feed given_by pick
  fed-stopped piece rest c s =
      let sum = length-append piece rest in
      subst (λ (a : FeedAnswer). Means afi mode bits run rest (after_feed c a)) (sym (counts-stopped piece rest c s))
      (inr
      (record {
        stage = refl;
        total = omega (arith, s.total);
        short = s.short;
        count = s.count;
        skipped = s.skipped;
        kept = refl;
        answer = s.answer;
        told = append-nil c.nlris ∙ s.told;
        early = s.early;
        room = s.room;
      }))

  pub fed : (piece rest : List ℕ) (c : Caller) → Means afi mode bits run (piece ++ rest) c → (fed_by c piece).answer.taken ≡ length piece → Means afi mode bits run rest (after_feed c (fed_by c piece))
  fed piece rest c m all = ⊎_elim (λ r. fed-reading piece rest c r all) (λ s. fed-stopped piece rest c s) m

  -- some octets are taken of a piece that has some
  progress-reading : (piece : List ℕ) (c : Caller) (r : Reading afi mode bits run piece c) → 0 < length piece → 0 < (fed_by c piece).answer.taken
  progress-reading piece c r some =
      omega (arith, shares piece c r piece (omega arith), share-some (size_in (front_of c ++ piece)) c.pieces.kept (length piece) (wants-more piece c r piece) some)

  pub progress : (piece : List ℕ) (c : Caller) → Means afi mode bits run piece c → 0 < length piece → 0 < (fed_by c piece).answer.taken
  progress piece c m some =
      ⊎_elim (λ r. progress-reading piece c r some)
      (λ s. omega (arith, ap (λ (a : FeedAnswer). a.answer.taken) (counts-stopped piece [] c (subst (λ (l : List ℕ). Stopped afi mode run l c) (sym (append-nil piece)) s)))) m

  -- the walk at the end of the run
  ended_by : (c : Caller) (r : Reading afi mode bits run [] c) (n : ℕ) → pick (eqb c.pieces.kept 0) DONE SHORT ≡ n → walked_with n c.pieces.walked.count c.pieces.walked.offset c.pieces.walked.skipped ≡ walk_by afi mode run
      → Stops (step_from afi run c.pieces.walked.offset) n → is_skipped mode n ≡ false → (answer_at_end c.pieces ≡ walk_by afi mode run) × (c.nlris ≡ nlris_by afi mode run)
  unfolding answer_at_end
  ended_by c r n is answer stop f = (
    pick_true _ _ _ (eq-eqb c.pieces.stage READING r.stage) ∙ ap (λ (m : ℕ). walked_with m c.pieces.walked.count c.pieces.walked.offset c.pieces.walked.skipped) is ∙ answer,
    told-stopped [] c r n stop f,
  )

  ended-reading : (c : Caller) → Reading afi mode bits run [] c → (answer_at_end c.pieces ≡ walk_by afi mode run) × (c.nlris ≡ nlris_by afi mode run)
  ended-reading c r =
      let offset : ℕ = c.pieces.walked.offset in
      let here : drop offset run ≡ front_of c = r.here ∙ append-nil (front_of c) in
      let len = length_front [] c r in
      let total = r.total in
      tested (eqb c.pieces.kept 0)
      (λ t.
      let none : c.pieces.kept ≡ 0 = eqb-true _ _ t in
      let last : offset ≡ length run = omega (arith, r.place) in
      ended_by c r DONE (pick_true _ _ _ t) (going-last afi mode bits run offset _ _ r.going (omega arith)) (stops-ended_at offset (step_end afi run offset bits r.going.of_family r.going.short last))
      (never-skipped mode DONE (λ t. omega arith) (λ g. omega arith)))
      (λ f.
      let some = eqb-false c.pieces.kept 0 f in
      let before : offset < length run = omega (arith, r.place) in
      let laid = ap (layout_at bits) here ∙ layout-short bits (front_of c) (omega (arith, r.part-way)) in
      let told = never-skipped mode SHORT (λ t. omega arith) (λ g. omega arith) in
      ended_by c r SHORT (pick-false _ _ _ f) (going-refused afi mode bits run offset _ _ r.going before (drop offset run) refl SHORT (sym (number-refused laid)) (λ z. omega arith) told)
      (stops-refused_at SHORT offset (step-unaccepted afi run offset bits r.going.of_family r.going.short before SHORT laid)) told)

  -- where the run ends
  pub ended : (c : Caller) → Means afi mode bits run [] c → (answer_at_end c.pieces ≡ walk_by afi mode run) × (c.nlris ≡ nlris_by afi mode run)
  unfolding answer_at_end
  ended c m =
      ⊎_elim (λ r. ended-reading c r) (λ s. (pick-false _ _ _ (ne_eqb c.pieces.stage READING (λ z. omega (arith, s.stage))) ∙ s.answer, s.told)) m
