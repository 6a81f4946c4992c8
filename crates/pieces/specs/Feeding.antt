-- A run that arrives in pieces (document 02, W-203), read by the mode of the walk (W-206, W-210): what start, feed and finish answer.
use Rattle.std.specs.Prelude.{ℕ, ◌+◌, ◌-◌, ◌≤◌, Bool, List, ◌++◌, length, get_or, take, ltb, eqb}
use Rattle.octets.specs.Numbers.{DONE, SHORT, LONG}
use Rattle.octets.specs.Choice.{pick, either}
use Rattle.octets.specs.Outcome.{on_outcome, and_then, number_of}
use Rattle.octets.specs.Octets.{placed}
use Rattle.octets.specs.Outputs.{Changed}
use Rattle.nlri.specs.Family.{family_bits}
use Rattle.nlri.specs.Layouts.{layout_at}
use Rattle.runs.specs.declared.walking.Walked.{Walked}
use Rattle.runs.specs.Walking.{walked_to, walked_with}
use Rattle.runs.specs.Modes.{is_skipped}
use Rattle.pieces.specs.declared.state.Stage.{Stage}
use Rattle.pieces.specs.declared.state.Stage.TheVariants.{Reading, Stopped, Finished}
use Rattle.pieces.specs.declared.state.Pieces.{Pieces}
use Rattle.pieces.specs.declared.feeding.Fed.{Fed}

-- a stage of a reader: it reads
abbrev pub READING : ℕ
READING = 0

-- a refusal, or more than 4,096 octets, stopped it: it counts octets
abbrev pub STOPPED : ℕ
STOPPED = 1

-- it only repeats its answer; so it does at any greater number
abbrev pub FINISHED : ℕ
FINISHED = 2

-- the number of a stage, and the stage of a number
abbrev pub stage_number : Stage → ℕ
stage_number Reading = READING
stage_number Stopped = STOPPED
stage_number Finished = FINISHED

abbrev pub stage_by : ℕ → Stage
stage_by number = pick (eqb number READING) Reading (pick (eqb number STOPPED) Stopped Finished)

-- a reader that has taken no octet
abbrev pub started_as : (afi mode stage number : ℕ) → Pieces
started_as afi mode stage number = record { walked = walked_to number 0 0; afi = afi; mode = mode; stage = stage; total = 0; kept = 0 }

-- start: FAMILY, and then the reader is finished
unfoldable pub start_of : (afi mode : ℕ) → Pieces
start_of afi mode = on_outcome (λ number. started_as afi mode FINISHED number) (λ bits. started_as afi mode READING DONE) (family_bits afi)

-- the walk's answer where the run ends: SHORT where an NLRI is unfinished; a stop's answer stays
unfoldable pub answer_at_end : Pieces → Walked
answer_at_end p = pick (eqb p.stage READING) (walked_with (pick (eqb p.kept 0) DONE SHORT) p.walked.count p.walked.offset p.walked.skipped) p.walked

-- finish
abbrev pub finish_of : Pieces → Pieces
finish_of p = record { walked = answer_at_end p; afi = p.afi; mode = p.mode; stage = FINISHED; total = p.total; kept = p.kept }

-- what a feed answers, and the lent octets afterwards
abbrev pub FeedAnswer : Type 0
FeedAnswer = Changed Fed

-- all of a piece is taken, no NLRI is given, and the lent octets stay
abbrev pub passed_of : Pieces → (unfinished piece : List ℕ) → FeedAnswer
passed_of p unfinished piece = record { answer = record { pieces = p; taken = length piece; size = 0 }; octets = unfinished }

-- the total passed 4,096: 0, 0, LONG, and a total that stays over
abbrev pub long_of : Pieces → Pieces
long_of p = record { walked = walked_to LONG 0 0; afi = p.afi; mode = p.mode; stage = STOPPED; total = 4097; kept = 0 }

-- after a stop: octets are counted
abbrev pub counted_of : Pieces → ℕ → Pieces
counted_of p size = record { walked = p.walked; afi = p.afi; mode = p.mode; stage = STOPPED; total = p.total + size; kept = 0 }

-- more than 4,096 octets in all; or numbers that these calls never give
unfoldable pub over_of : Pieces → (size : ℕ) → Bool
over_of p size = either (ltb 4096 (p.total + size)) (either (ltb 4096 p.walked.count) (either (ltb 4096 p.walked.skipped) (ltb 256 p.kept)))

-- the octets of the NLRI at the front of s, as far as s tells: those of its header, then those that its Length asks
unfoldable pub size_in : List ℕ → ℕ
size_in s = pick (ltb (length s) 2) 2 (2 + get_or s 1 0)

-- the octets of the NLRI that the kept octets and the piece begin
unfoldable pub wanted_of : (kept : ℕ) (unfinished piece : List ℕ) → ℕ
wanted_of kept unfinished piece = size_in (take kept unfinished ++ piece)

-- the octets taken of a piece of so many: to the end of that NLRI at the most
unfoldable pub share_of : (wanted kept size : ℕ) → ℕ
share_of wanted kept size = pick (ltb (kept + size) wanted) size (wanted - kept)

-- the number of the NLRI at the front of s: FAMILY, then NLRI reading
unfoldable pub number_under : ℕ → List ℕ → ℕ
number_under afi s = number_of (and_then (family_bits afi) (λ bits. layout_at bits s))

-- the piece ends inside the NLRI, which is kept
abbrev pub kept_of : Pieces → (share : ℕ) → Fed
kept_of p share = record { pieces = record { walked = p.walked; afi = p.afi; mode = p.mode; stage = READING; total = p.total + share; kept = p.kept + share }; taken = share; size = 0 }

-- past the end of an NLRI: what is walked then, the stage, and the size of the NLRI if it is given
abbrev pub past_of : Pieces → Walked → (stage share size : ℕ) → Fed
past_of p walked stage share size =
    record { pieces = record { walked = walked; afi = p.afi; mode = p.mode; stage = stage; total = p.total + share; kept = 0 }; taken = share; size = size }

-- the NLRI is whole and read: it is given and counted, and the next one begins after it
abbrev pub read_of : Pieces → (wanted share : ℕ) → Fed
read_of p wanted share = past_of p (walked_with DONE (p.walked.count + 1) (p.total + share) p.walked.skipped) READING share wanted

-- the NLRI is whole and skipped: it is counted apart and not given, and the next one begins after it
abbrev pub skipped_of : Pieces → (share : ℕ) → Fed
skipped_of p share = past_of p (walked_with DONE p.walked.count (p.total + share) (p.walked.skipped + 1)) READING share 0

-- the NLRI is whole and refused: its number stops the reading where it begins
abbrev pub stopped_of : Pieces → (number share : ℕ) → Fed
stopped_of p number share = past_of p (walked_with number p.walked.count p.walked.offset p.walked.skipped) STOPPED share 0

-- an NLRI that is whole, by its number: it is read; or it is refused, and skipped as the walk of the mode skips it; or it stops the reading
unfoldable pub judged_of : Pieces → (number wanted share : ℕ) → Fed
judged_of p number wanted share = pick (eqb number DONE) (read_of p wanted share) (pick (is_skipped p.mode number) (skipped_of p share) (stopped_of p number share))

-- while reading, of an NLRI of `wanted` octets, `share` of which were taken of a piece of `size` octets: whether it is whole
unfoldable pub settled_of : Pieces → (unfinished : List ℕ) → (size wanted share : ℕ) → Fed
settled_of p unfinished size wanted share =
    pick (ltb (p.kept + size) wanted) (kept_of p share) (judged_of p (number_under p.afi (take wanted unfinished)) wanted share)

-- while reading: the octets taken are kept behind those kept before
unfoldable pub taken_of : Pieces → (unfinished piece : List ℕ) → (wanted share : ℕ) → FeedAnswer
taken_of p unfinished piece wanted share =
    record {
      answer = settled_of p (placed p.kept (take share piece) unfinished) (length piece) wanted share;
      octets = placed p.kept (take share piece) unfinished;
    }

-- while reading: the octets taken go up to the end of one NLRI
unfoldable pub read_on_of : Pieces → (unfinished piece : List ℕ) → FeedAnswer
read_on_of p unfinished piece =
    taken_of p unfinished piece (wanted_of p.kept unfinished piece) (share_of (wanted_of p.kept unfinished piece) p.kept (length piece))

-- feed: after finish the answer is repeated; then LONG, stop or no stop; then the octets are read, or after a stop counted
unfoldable pub feed_of : Pieces → (unfinished piece : List ℕ) → FeedAnswer
feed_of p unfinished piece =
    pick (ltb STOPPED p.stage) (passed_of p unfinished piece)
    (pick (over_of p (length piece)) (passed_of (long_of p) unfinished piece)
    (pick (eqb p.stage READING) (read_on_of p unfinished piece)
    (passed_of (counted_of p (length piece)) unfinished piece)))

-- what a state and a piece of so many octets have that are not over
pub record Within (p : Pieces) (size : ℕ) : Type 0 where
  pub total : p.total + size ≤ 4096
  pub count : p.walked.count ≤ 4096
  pub skipped : p.walked.skipped ≤ 4096
  pub kept : p.kept ≤ 256
