-- What holds of a run that arrives in pieces (document 02, W-203), by the walk of the same mode (W-206, W-210) over the whole run. Proved in proofs/PiecesRule.antt.
use Rattle.std.specs.Prelude.{ℕ, ◌+◌, ◌≤◌, ◌<◌, ◌≡◌, List, ◌≢◌, ◌⊎◌, length, get_or, take, drop}
use Rattle.octets.specs.Numbers.{DONE, SHORT, LONG, FAMILY}
use Rattle.octets.specs.Octets.{AllOctets, part}
use Rattle.runs.specs.Walking.{walked_to, walked_with}
use Rattle.runs.specs.Modes.{walk_by, nlris_by}
use Rattle.pieces.specs.declared.state.Pieces.{Pieces}
use Rattle.pieces.specs.Feeding.{READING, STOPPED, FINISHED, FeedAnswer, start_of, finish_of, feed_of}
use Rattle.pieces.specs.Handing.{Caller, started_with, fed_by, feed_pieces, joined, Moment}

-- a caller whose reader has taken a run
pub record PiecesClaim (afi mode : ℕ) (run : List ℕ) (c : Caller) : Type 0 where
  -- at finish count, offset, number and the number skipped are those of the walk of that mode over the whole run
  pub answers : (finish_of c.pieces).walked ≡ walk_by afi mode run
  -- within 4,096 octets the NLRIs given are those that the walk reads: their octets, in order, and where each begins
  pub gives : length run ≤ 4096 → c.nlris ≡ nlris_by afi mode run
  -- over 4,096 in all, wherever the cut lies and stop or no stop: 0, 0, LONG and 0 skipped, before finish and after
  pub long : (afi ≡ 1) ⊎ (afi ≡ 2) → 4096 < length run → (c.pieces.walked ≡ walked_to LONG 0 0) × ((finish_of c.pieces).walked ≡ walked_to LONG 0 0)

-- an answer that takes a piece whole: no NLRI is given, whatever the piece's first octets complete, and the lent octets stay
pub record TakenWhole (unfinished piece : List ℕ) (a : FeedAnswer) : Type 0 where
  pub none : a.answer.size ≡ 0
  pub all : a.answer.taken ≡ length piece
  pub lent : a.octets ≡ unfinished

-- at a moment of a reader that has taken a run
pub record AtMoment (afi mode : ℕ) (run : List ℕ) (c : Caller) : Type 0 where
  -- while it reads it tells DONE, with the count, offset and number skipped of the walk over what was taken
  pub reads : c.pieces.stage ≡ READING → c.pieces.walked ≡ walked_with DONE (walk_by afi mode run).count (walk_by afi mode run).offset (walk_by afi mode run).skipped
  -- after a stop, and under a bad AFI, it tells that walk's answer
  pub tells : c.pieces.stage ≢ READING → c.pieces.walked ≡ walk_by afi mode run
  -- SHORT is not told before finish
  pub early : c.pieces.walked.number ≢ SHORT
  -- every octet is counted, after a stop too
  pub counts : (afi ≡ 1) ⊎ (afi ≡ 2) → length run ≤ 4096 → c.pieces.total ≡ length run
  -- while it reads it keeps what the run has after the last whole NLRI, at most 256 octets
  pub keeps : c.pieces.stage ≡ READING → (take c.pieces.kept c.unfinished ≡ drop (walk_by afi mode run).offset run) × (c.pieces.kept ≤ 256)
  -- a piece that passes 4,096 in all, stop or no stop, is taken whole, and at once the answer is 0, 0, LONG and 0 skipped
  pub passes : (afi ≡ 1) ⊎ (afi ≡ 2) → (piece : List ℕ) → 4096 < length run + length piece
      → TakenWhole c.unfinished piece (fed_by c piece) × ((fed_by c piece).answer.pieces.walked ≡ walked_to LONG 0 0)
  -- under a bad AFI every piece is taken whole, and the answer stays 0, 0, FAMILY and 0 skipped
  pub refuses : afi ≢ 1 → afi ≢ 2 → (piece : List ℕ) → TakenWhole c.unfinished piece (fed_by c piece) × ((fed_by c piece).answer.pieces.walked ≡ walked_to FAMILY 0 0)
  -- of a piece that has octets some are taken, so that a caller's loop ends
  pub goes : (piece : List ℕ) → AllOctets piece → 0 < length piece → 0 < (fed_by c piece).answer.taken

-- the lent octets after a feed: behind those kept the octets that it took, where it reads; every other octet as it was
pub record LentAfter (p : Pieces) (unfinished piece : List ℕ) (a : FeedAnswer) : Type 0 where
  pub others : (i : ℕ) → (i < p.kept) ⊎ (p.kept + a.answer.taken ≤ i) → get_or a.octets i 0 ≡ get_or unfinished i 0
  pub behind : (a.octets ≡ unfinished) ⊎ (part a.octets p.kept a.answer.taken ≡ take a.answer.taken piece)

-- "Updates that arrive in bits"
pub record PiecesRule : Type 0 where
  -- the claim, for every run and every way to cut it, pieces of no octets included, by the loop that a caller writes
  pub claim : (afi mode : ℕ) (unfinished : List ℕ) (pieces : List (List ℕ)) → length unfinished ≡ 257 → AllOctets (joined pieces) → PiecesClaim afi mode (joined pieces) (feed_pieces (started_with afi mode unfinished) pieces)
  -- the same of any other caller, whatever it hands over next, and at every moment
  pub claims : (afi mode : ℕ) (run : List ℕ) (c : Caller) → Moment afi mode run c → PiecesClaim afi mode run c
  pub moments : (afi mode : ℕ) (run : List ℕ) (c : Caller) → Moment afi mode run c → AtMoment afi mode run c
  -- a moment of the loop is one of these
  pub loop : (afi mode : ℕ) (unfinished : List ℕ) (pieces : List (List ℕ)) → length unfinished ≡ 257 → AllOctets (joined pieces) → Moment afi mode (joined pieces) (feed_pieces (started_with afi mode unfinished) pieces)
  -- a bad AFI is told at the start, and the reader is then finished
  pub family : (afi mode : ℕ) → afi ≢ 1 → afi ≢ 2
      → start_of afi mode ≡ record { walked = record { number = FAMILY; count = 0; offset = 0; skipped = 0 }; afi = afi; mode = mode; stage = FINISHED; total = 0; kept = 0 }
  -- of every state, also of one that no call made: a feed takes no more than the piece has
  pub most : (p : Pieces) (unfinished piece : List ℕ) → (feed_of p unfinished piece).answer.taken ≤ length piece
  -- of a piece that has octets it takes some, where fewer octets are kept than the NLRI at the front of the lent octets has by its Length
  pub some : (p : Pieces) (unfinished piece : List ℕ) → length unfinished ≡ 257 → p.kept < 2 + get_or unfinished 1 0 → 0 < length piece → 0 < (feed_of p unfinished piece).answer.taken
  -- where it does not take all of a piece, it takes up to the end of an NLRI, and nothing is kept
  pub ends : (p : Pieces) (unfinished piece : List ℕ) → (feed_of p unfinished piece).answer.taken ≢ length piece → (feed_of p unfinished piece).answer.pieces.kept ≡ 0
  -- it writes no lent octet but those where it puts what it takes
  pub lent : (p : Pieces) (unfinished piece : List ℕ) → length unfinished ≡ 257 → LentAfter p unfinished piece (feed_of p unfinished piece)
  -- and it gives no more than the lent octets have
  pub fits : (p : Pieces) (unfinished piece : List ℕ) → AllOctets unfinished → AllOctets piece → (feed_of p unfinished piece).answer.size ≤ 257
  -- after a stop pieces are taken whole, and the stop stays
  pub stopped : (p : Pieces) (unfinished piece : List ℕ) → p.stage ≡ STOPPED → TakenWhole unfinished piece (feed_of p unfinished piece) × ((feed_of p unfinished piece).answer.pieces.stage ≡ STOPPED)
  -- after finish every call repeats the answer, and leaves the lent octets
  pub finished : (p : Pieces) (unfinished piece : List ℕ)
      → TakenWhole unfinished piece (feed_of (finish_of p) unfinished piece) × ((feed_of (finish_of p) unfinished piece).answer.pieces ≡ finish_of p)
  pub again : (p : Pieces) → finish_of (finish_of p) ≡ finish_of p
  -- octets past those that a feed takes are not looked at: the rest of a piece is another piece
  pub rest : (p : Pieces) (unfinished piece : List ℕ) → length unfinished ≡ 257 → feed_of p unfinished (take (feed_of p unfinished piece).answer.taken piece) ≡ feed_of p unfinished piece
