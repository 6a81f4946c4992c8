-- A run in pieces by examples in literal octets (document 02, W-203): every state that the calls give, every answer, and all 257 lent octets. Proved in
-- proofs/PiecesExamples.antt.
use Rattle.std.specs.Prelude.{ℕ, ◌≡◌, List, [], ◌∷◌, ◌++◌, replicate}
use Rattle.runs.specs.declared.walking.Walked.{Walked}
use Rattle.pieces.specs.declared.state.Pieces.{Pieces}
use Rattle.pieces.specs.Feeding.{FeedAnswer, start_of, finish_of, feed_of}

-- a reader of AFI 1: what it has walked, its stage (0 reads, 1 stopped, 2 finished), the octets taken, and those kept. Mode 0 skips
abbrev pub skipping_reader : Walked → (stage total kept : ℕ) → Pieces
skipping_reader walked stage total kept = record { walked = walked; afi = 1; mode = 0; stage = stage; total = total; kept = kept }

-- mode 1 is the old one
abbrev pub old_reader : Walked → (stage total kept : ℕ) → Pieces
old_reader walked stage total kept = record { walked = walked; afi = 1; mode = 1; stage = stage; total = total; kept = kept }

-- what a feed answers: the reader, the octets taken of the piece, the size of the NLRI given; and the lent octets
abbrev pub fed_to : Pieces → (share size : ℕ) → (octets : List ℕ) → FeedAnswer
fed_to pieces share size octets = record { answer = record { pieces = pieces; taken = share; size = size }; octets = octets }

-- an Intra-AS route: RD 100:7, originator 10.0.0.9
abbrev pub intra_as_nlri : List ℕ
intra_as_nlri = 1 ∷ 12 ∷ 0 ∷ 0 ∷ 0 ∷ 100 ∷ 0 ∷ 0 ∷ 0 ∷ 7 ∷ 10 ∷ 0 ∷ 0 ∷ 9 ∷ []

-- lent octets before the first feed
abbrev pub fresh_octets : List ℕ
fresh_octets = replicate 257 255

-- those after the Intra-AS route
abbrev pub intra_as_octets : List ℕ
intra_as_octets = intra_as_nlri ++ replicate 243 255

-- a Source Active route of 232.1.1.1, which is discarded
abbrev pub discarded_nlri : List ℕ
discarded_nlri = 5 ∷ 18 ∷ 0 ∷ 0 ∷ 0 ∷ 100 ∷ 0 ∷ 0 ∷ 0 ∷ 7 ∷ 32 ∷ 10 ∷ 0 ∷ 0 ∷ 1 ∷ 32 ∷ 232 ∷ 1 ∷ 1 ∷ 1 ∷ []

-- each is so, by computation
pub record PiecesExamples : Type 0 where
  -- a start
  pub started : start_of 1 0 ≡ skipping_reader (record { number = 0; count = 0; offset = 0; skipped = 0 }) 0 0 0
  pub started_old : start_of 1 1 ≡ old_reader (record { number = 0; count = 0; offset = 0; skipped = 0 }) 0 0 0
  -- that Intra-AS route, and an Inter-AS route of AS 65001 of as many octets. Cut inside the first header, where 1 octet is kept
  pub in_header : feed_of (skipping_reader (record { number = 0; count = 0; offset = 0; skipped = 0 }) 0 0 0) fresh_octets (1 ∷ [])
      ≡ fed_to (skipping_reader (record { number = 0; count = 0; offset = 0; skipped = 0 }) 0 1 1) 1 0 (1 ∷ replicate 256 255)
  -- cut inside its body
  pub in_body : feed_of (skipping_reader (record { number = 0; count = 0; offset = 0; skipped = 0 }) 0 1 1) (1 ∷ replicate 256 255) (12 ∷ 0 ∷ 0 ∷ 0 ∷ 100 ∷ [])
      ≡ fed_to (skipping_reader (record { number = 0; count = 0; offset = 0; skipped = 0 }) 0 6 6) 5 0 (1 ∷ 12 ∷ 0 ∷ 0 ∷ 0 ∷ 100 ∷ replicate 251 255)
  -- a piece that has its other 8 octets and 3 of the next: these 8 are taken, and the NLRI of 14 octets is given
  pub first_whole : feed_of (skipping_reader (record { number = 0; count = 0; offset = 0; skipped = 0 }) 0 6 6) (1 ∷ 12 ∷ 0 ∷ 0 ∷ 0 ∷ 100 ∷ replicate 251 255) (0 ∷ 0 ∷ 0 ∷ 7 ∷ 10 ∷ 0 ∷ 0 ∷ 9 ∷ 2 ∷ 12 ∷ 0 ∷ [])
      ≡ fed_to (skipping_reader (record { number = 0; count = 1; offset = 14; skipped = 0 }) 0 14 0) 8 14 (1 ∷ 12 ∷ 0 ∷ 0 ∷ 0 ∷ 100 ∷ 0 ∷ 0 ∷ 0 ∷ 7 ∷ 10 ∷ 0 ∷ 0 ∷ 9 ∷ replicate 243 255)
  -- those 3, at the front of the lent octets
  pub rest : feed_of (skipping_reader (record { number = 0; count = 1; offset = 14; skipped = 0 }) 0 14 0) intra_as_octets (2 ∷ 12 ∷ 0 ∷ [])
      ≡ fed_to (skipping_reader (record { number = 0; count = 1; offset = 14; skipped = 0 }) 0 17 3) 3 0 (2 ∷ 12 ∷ 0 ∷ 0 ∷ 0 ∷ 100 ∷ 0 ∷ 0 ∷ 0 ∷ 7 ∷ 10 ∷ 0 ∷ 0 ∷ 9 ∷ replicate 243 255)
  -- a piece of no octets
  pub nothing : feed_of (skipping_reader (record { number = 0; count = 1; offset = 14; skipped = 0 }) 0 17 3) (2 ∷ 12 ∷ 0 ∷ replicate 254 255) []
      ≡ fed_to (skipping_reader (record { number = 0; count = 1; offset = 14; skipped = 0 }) 0 17 3) 0 0 (2 ∷ 12 ∷ 0 ∷ replicate 254 255)
  -- exactly to the end
  pub last_whole : feed_of (skipping_reader (record { number = 0; count = 1; offset = 14; skipped = 0 }) 0 17 3) (2 ∷ 12 ∷ 0 ∷ replicate 254 255) (0 ∷ 0 ∷ 100 ∷ 0 ∷ 0 ∷ 0 ∷ 7 ∷ 0 ∷ 0 ∷ 253 ∷ 233 ∷ [])
      ≡ fed_to (skipping_reader (record { number = 0; count = 2; offset = 28; skipped = 0 }) 0 28 0) 11 14 (2 ∷ 12 ∷ 0 ∷ 0 ∷ 0 ∷ 100 ∷ 0 ∷ 0 ∷ 0 ∷ 7 ∷ 0 ∷ 0 ∷ 253 ∷ 233 ∷ replicate 243 255)
  -- finish there, and before it, where 3 octets are kept: SHORT; finish again; a feed after it
  pub finished : finish_of (skipping_reader (record { number = 0; count = 2; offset = 28; skipped = 0 }) 0 28 0) ≡ skipping_reader (record { number = 0; count = 2; offset = 28; skipped = 0 }) 2 28 0
  pub short : finish_of (skipping_reader (record { number = 0; count = 1; offset = 14; skipped = 0 }) 0 17 3) ≡ skipping_reader (record { number = 1; count = 1; offset = 14; skipped = 0 }) 2 17 3
  pub repeated : finish_of (skipping_reader (record { number = 1; count = 1; offset = 14; skipped = 0 }) 2 17 3) ≡ skipping_reader (record { number = 1; count = 1; offset = 14; skipped = 0 }) 2 17 3
  pub after_finish : feed_of (skipping_reader (record { number = 1; count = 1; offset = 14; skipped = 0 }) 2 17 3) fresh_octets intra_as_nlri
      ≡ fed_to (skipping_reader (record { number = 1; count = 1; offset = 14; skipped = 0 }) 2 17 3) 14 0 fresh_octets
  -- a whole NLRI of type 9 and 3 octets, and one octet more, after the Intra-AS route: it is skipped; in the old mode it stops the reading where it begins
  pub unknown : feed_of (skipping_reader (record { number = 0; count = 1; offset = 14; skipped = 0 }) 0 14 0) fresh_octets (9 ∷ 1 ∷ 5 ∷ 1 ∷ [])
      ≡ fed_to (skipping_reader (record { number = 0; count = 1; offset = 17; skipped = 1 }) 0 17 0) 3 0 (9 ∷ 1 ∷ 5 ∷ replicate 254 255)
  pub unknown_old : feed_of (old_reader (record { number = 0; count = 1; offset = 14; skipped = 0 }) 0 14 0) fresh_octets (9 ∷ 1 ∷ 5 ∷ 1 ∷ [])
      ≡ fed_to (old_reader (record { number = 2; count = 1; offset = 14; skipped = 0 }) 1 17 0) 3 0 (9 ∷ 1 ∷ 5 ∷ replicate 254 255)
  -- the same of a discarded Source Active route: it is skipped, or stops with 19
  pub discarded : feed_of (skipping_reader (record { number = 0; count = 0; offset = 0; skipped = 0 }) 0 0 0) fresh_octets discarded_nlri
      ≡ fed_to (skipping_reader (record { number = 0; count = 0; offset = 20; skipped = 1 }) 0 20 0) 20 0 (discarded_nlri ++ replicate 237 255)
  pub discarded_old : feed_of (old_reader (record { number = 0; count = 0; offset = 0; skipped = 0 }) 0 0 0) fresh_octets discarded_nlri
      ≡ fed_to (old_reader (record { number = 19; count = 0; offset = 0; skipped = 0 }) 1 20 0) 20 0 (discarded_nlri ++ replicate 237 255)
  -- an Intra-AS route of Length 11 stops in either mode: LENGTH
  pub bad_length : feed_of (skipping_reader (record { number = 0; count = 1; offset = 14; skipped = 0 }) 0 14 0) fresh_octets (1 ∷ 11 ∷ replicate 12 0)
      ≡ fed_to (skipping_reader (record { number = 3; count = 1; offset = 14; skipped = 0 }) 1 27 0) 13 0 (1 ∷ 11 ∷ (replicate 11 0 ++ replicate 244 255))
  -- after a stop octets are counted and no NLRI is given; finish leaves the stop
  pub counted : feed_of (old_reader (record { number = 2; count = 1; offset = 14; skipped = 0 }) 1 17 0) fresh_octets intra_as_nlri
      ≡ fed_to (old_reader (record { number = 2; count = 1; offset = 14; skipped = 0 }) 1 31 0) 14 0 fresh_octets
  pub stop_left : finish_of (old_reader (record { number = 2; count = 1; offset = 14; skipped = 0 }) 1 31 0) ≡ old_reader (record { number = 2; count = 1; offset = 14; skipped = 0 }) 2 31 0
  -- the greatest NLRI, of 257 octets: all lent octets are written
  pub greatest : feed_of (skipping_reader (record { number = 0; count = 0; offset = 0; skipped = 0 }) 0 0 0) fresh_octets (9 ∷ 255 ∷ replicate 255 5)
      ≡ fed_to (skipping_reader (record { number = 0; count = 0; offset = 257; skipped = 1 }) 0 257 0) 257 0 (9 ∷ 255 ∷ replicate 255 5)
  -- 4,095 octets taken, as 1,365 NLRIs of type 9: one octet more is kept; two more pass 4,096, and so does an NLRI, which is not given
  pub most : feed_of (skipping_reader (record { number = 0; count = 0; offset = 4095; skipped = 1365 }) 0 4095 0) fresh_octets (9 ∷ [])
      ≡ fed_to (skipping_reader (record { number = 0; count = 0; offset = 4095; skipped = 1365 }) 0 4096 1) 1 0 (9 ∷ replicate 256 255)
  pub over : feed_of (skipping_reader (record { number = 0; count = 0; offset = 4095; skipped = 1365 }) 0 4095 0) fresh_octets (9 ∷ 0 ∷ [])
      ≡ fed_to (skipping_reader (record { number = 8; count = 0; offset = 0; skipped = 0 }) 1 4097 0) 2 0 fresh_octets
  -- a count of before is void: 292 NLRIs of 14 octets, and one more
  pub void : feed_of (old_reader (record { number = 0; count = 292; offset = 4088; skipped = 0 }) 0 4088 0) fresh_octets intra_as_nlri
      ≡ fed_to (old_reader (record { number = 8; count = 0; offset = 0; skipped = 0 }) 1 4097 0) 14 0 fresh_octets
  -- after a stop too; then one octet more, or none, and finish: LONG stays
  pub over_stopped : feed_of (old_reader (record { number = 2; count = 1; offset = 14; skipped = 0 }) 1 4090 0) fresh_octets (1 ∷ 12 ∷ 0 ∷ 0 ∷ 0 ∷ 100 ∷ 0 ∷ [])
      ≡ fed_to (old_reader (record { number = 8; count = 0; offset = 0; skipped = 0 }) 1 4097 0) 7 0 fresh_octets
  pub long_again : feed_of (old_reader (record { number = 8; count = 0; offset = 0; skipped = 0 }) 1 4097 0) fresh_octets (1 ∷ [])
      ≡ fed_to (old_reader (record { number = 8; count = 0; offset = 0; skipped = 0 }) 1 4097 0) 1 0 fresh_octets
  pub long_empty : feed_of (old_reader (record { number = 8; count = 0; offset = 0; skipped = 0 }) 1 4097 0) fresh_octets []
      ≡ fed_to (old_reader (record { number = 8; count = 0; offset = 0; skipped = 0 }) 1 4097 0) 0 0 fresh_octets
  pub long_finished : finish_of (old_reader (record { number = 8; count = 0; offset = 0; skipped = 0 }) 1 4097 0) ≡ old_reader (record { number = 8; count = 0; offset = 0; skipped = 0 }) 2 4097 0
  -- one piece of 4,097 octets, and of 4,096
  pub long_piece : feed_of (skipping_reader (record { number = 0; count = 0; offset = 0; skipped = 0 }) 0 0 0) fresh_octets (replicate 4097 0)
      ≡ fed_to (skipping_reader (record { number = 8; count = 0; offset = 0; skipped = 0 }) 1 4097 0) 4097 0 fresh_octets
  pub most_piece : feed_of (skipping_reader (record { number = 0; count = 0; offset = 0; skipped = 0 }) 0 0 0) fresh_octets (replicate 4096 0)
      ≡ fed_to (skipping_reader (record { number = 0; count = 0; offset = 2; skipped = 1 }) 0 2 0) 2 0 (0 ∷ 0 ∷ replicate 255 255)
  -- AFI 3: FAMILY and finished; it stays, whatever is handed over, and at finish
  pub family : start_of 3 0 ≡ record { walked = record { number = 10; count = 0; offset = 0; skipped = 0 }; afi = 3; mode = 0; stage = 2; total = 0; kept = 0 }
  pub family_fed : feed_of (record { walked = record { number = 10; count = 0; offset = 0; skipped = 0 }; afi = 3; mode = 0; stage = 2; total = 0; kept = 0 }) fresh_octets intra_as_nlri
      ≡ fed_to (record { walked = record { number = 10; count = 0; offset = 0; skipped = 0 }; afi = 3; mode = 0; stage = 2; total = 0; kept = 0 }) 14 0 fresh_octets
  pub family_finished : finish_of (record { walked = record { number = 10; count = 0; offset = 0; skipped = 0 }; afi = 3; mode = 0; stage = 2; total = 0; kept = 0 })
      ≡ record { walked = record { number = 10; count = 0; offset = 0; skipped = 0 }; afi = 3; mode = 0; stage = 2; total = 0; kept = 0 }
