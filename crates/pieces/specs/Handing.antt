-- How a run is handed over: the loop that a caller writes, and every moment of any caller.
use Rattle.std.specs.Prelude.{ℕ, zero, suc, ◌-◌, ◌≡◌, List, [], ◌∷◌, ◌++◌, length, take, drop, leb, eqb}
use Rattle.octets.specs.Choice.{pick}
use Rattle.octets.specs.Octets.{AllOctets}
use Rattle.runs.specs.Walking.{NlriRead}
use Rattle.pieces.specs.declared.state.Pieces.{Pieces}
use Rattle.pieces.specs.Feeding.{FeedAnswer, start_of, feed_of}

-- a caller: the reader's state, the lent octets, and the NLRIs given so far
pub record Caller : Type 0 where
  pub pieces : Pieces
  pub unfinished : List ℕ
  pub nlris : List NlriRead

-- the NLRI that an answer gives: its octets at the front of the lent ones, where it began; none where the size is 0
unfoldable pub given_by : FeedAnswer → List NlriRead
given_by a =
    pick (eqb a.answer.size 0) []
    (record { offset = a.answer.pieces.walked.offset - a.answer.size; octets = take a.answer.size a.octets } ∷ [])

-- a reader just started, with lent octets of any content
abbrev pub started_with : (afi mode : ℕ) (unfinished : List ℕ) → Caller
started_with afi mode unfinished = record { pieces = start_of afi mode; unfinished = unfinished; nlris = [] }

-- what a feed answers to a caller
abbrev pub fed_by : Caller → (piece : List ℕ) → FeedAnswer
fed_by c piece = feed_of c.pieces c.unfinished piece

-- the caller afterwards
unfoldable pub after_feed : Caller → FeedAnswer → Caller
after_feed c a = record { pieces = a.answer.pieces; unfinished = a.octets; nlris = c.nlris ++ given_by a }

-- a piece is fed, then its rest, until all of it is taken: in at most so many calls
unfoldable pub feed_piece : ℕ → Caller → (piece : List ℕ) → Caller
feed_piece zero c piece = c
feed_piece (suc left) c piece =
    pick (leb (length piece) (fed_by c piece).answer.taken) (after_feed c (fed_by c piece))
    (feed_piece left (after_feed c (fed_by c piece)) (drop (fed_by c piece).answer.taken piece))

-- pieces, one after the other. A feed takes some of a piece that has octets, so that more calls than octets suffice
unfoldable pub feed_pieces : Caller → List (List ℕ) → Caller
feed_pieces c [] = c
feed_pieces c (piece ∷ pieces) = feed_pieces (feed_piece (suc (length piece)) c piece) pieces

-- the run that pieces make
unfoldable pub joined : List (List ℕ) → List ℕ
joined [] = []
joined (piece ∷ pieces) = piece ++ joined pieces

-- every moment of a reader that was started, in the hands of any caller, with the run that it has taken so far: at first none, and after a feed
-- of any octets those that the feed took. The lent octets stay with the reader
pub data Moment (afi mode : ℕ) : (run : List ℕ) → Caller → Type 0 where
  first : (unfinished : List ℕ) → length unfinished ≡ 257 → Moment afi mode [] (started_with afi mode unfinished)
  next : {run : List ℕ} {c : Caller} → Moment afi mode run c → (piece : List ℕ) → AllOctets piece → Moment afi mode (run ++ take (fed_by c piece).answer.taken piece) (after_feed c (fed_by c piece))
