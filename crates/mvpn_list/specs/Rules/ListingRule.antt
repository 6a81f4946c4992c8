-- What the listing of every run is (document 01, "Marked examples", the listing; document 02, W-206, W-210), said of its text: of a number by plain facts of
-- its digits, and of the lines by the encodings of the run's NLRIs. Proved in proofs/ListingRule.antt.
use Rattle.std.specs.Prelude.{ℕ, ◌+◌, ◌*◌, ◌-◌, ◌≤◌, ◌<◌, ◌≡◌, List, [], ◌∷◌, ◌++◌, ◌↔◌, ◌≢◌, ◌⊎◌, length, get_or, take}
use Rattle.octets.specs.Numbers.{DONE}
use Rattle.octets.specs.Octets.{AllOctets}
use Rattle.nlri.specs.Fields.{Fields, encode_nlri}
use Rattle.nlri.specs.Rules.DiscardExamples.{source_active4}
use Rattle.runs.specs.Rules.WalkRules.{encode_run, RunOf}
use Rattle.runs.specs.Modes.{SKIP, OLD}
use Rattle.runs.specs.Rules.ModeRule.{EncodedNlri, Split}
use Rattle.mvpn_list.specs.Listing.{decimal_of, lines_of, listing_of, mode_of}

-- the number that ASCII digits stand for, the most significant first
unfoldable pub decimal_value : List ℕ → ℕ → ℕ
decimal_value [] high = high
decimal_value (digit ∷ digits) high = decimal_value digits (high * 10 + (digit - 48))

-- every element is an ASCII digit
pub data AllDigits : List ℕ → Type 0 where
  none : AllDigits []
  one : {x : ℕ} {xs : List ℕ} → 48 ≤ x → x ≤ 57 → AllDigits xs → AllDigits (x ∷ xs)

-- n in decimal without padding: digits that stand for n, at least one, and the first of several is not 0
pub record Decimal (n : ℕ) (digits : List ℕ) : Type 0 where
  pub each : AllDigits digits
  pub value : decimal_value digits 0 ≡ n
  pub some : 1 ≤ length digits
  pub unpadded : 1 < length digits → get_or digits 0 0 ≢ 48

-- a line of numbers in decimal: a blank after each but the last, and a line feed after that
pub data NumberLine : List ℕ → List ℕ → Type 0 where
  last : {n : ℕ} {text : List ℕ} (digits : List ℕ) → Decimal n digits → text ≡ digits ++ (10 ∷ []) → NumberLine (n ∷ []) text
  next : {n : ℕ} {ns text : List ℕ} (digits later : List ℕ) → Decimal n digits → NumberLine ns later → text ≡ digits ++ (32 ∷ later) → NumberLine (n ∷ ns) text

-- what opens the last line: `end ` exactly where the number is DONE, else `stop `
pub data Opening : ℕ → List ℕ → Type 0 where
  end : Opening DONE (101 ∷ 110 ∷ 100 ∷ 32 ∷ [])
  stop : {number : ℕ} → number ≢ DONE → Opening number (115 ∷ 116 ∷ 111 ∷ 112 ∷ 32 ∷ [])

-- NLRIs that follow each other, each with the offset where its encoding begins, the first at an offset
unfoldable pub fields_from : (offset : ℕ) → List Fields → List EncodedNlri
fields_from offset [] = []
fields_from offset (f ∷ fs) = record { offset = offset; fields = f } ∷ fields_from (offset + length (encode_nlri f)) fs

-- the lines: one for each NLRI in order, with the offset where its encoding begins, its type and its Length; and the last, with its figures
pub data RunLines (number : ℕ) (figures : List ℕ) : List EncodedNlri → List ℕ → Type 0 where
  nlri : {f : EncodedNlri} {fs : List EncodedNlri} {text : List ℕ} (line later : List ℕ) → NumberLine (f.offset ∷ f.fields.type ∷ (length (encode_nlri f.fields) - 2) ∷ []) line
      → RunLines number figures fs later → text ≡ line ++ later → RunLines number figures (f ∷ fs) text
  last : {text : List ℕ} (opening line : List ℕ) → Opening number opening → NumberLine figures line → text ≡ opening ++ line → RunLines number figures [] text

-- what is printed of a run of AFI 1, whose addresses have 32 bits
pub record ListingRule : Type 0 where
  -- of a number the only digits that are it in decimal
  pub decimal : (n : ℕ) (digits : List ℕ) → (decimal_of n ≡ digits) ↔ Decimal n digits
  -- `MVT list 1`, and then the lines of the run
  pub header : (mode : ℕ) (run : List ℕ) → listing_of mode run ≡ 77 ∷ 86 ∷ 84 ∷ 32 ∷ 108 ∷ 105 ∷ 115 ∷ 116 ∷ 32 ∷ 49 ∷ 10 ∷ lines_of mode run
  -- within 4,096 octets exactly the lines of the run's NLRIs and of its end: offset, number, and how many others were skipped, unknown types and routes that
  -- are discarded (W-210); that every run is such NLRIs, such others and an end is `mode_rule`'s
  pub skips : (run : List ℕ) (s : Split 32 0 run) (text : List ℕ) → AllOctets run → length run ≤ 4096
      → (lines_of SKIP run ≡ text) ↔ RunLines s.number (s.offset ∷ s.number ∷ s.skipped ∷ []) s.nlris text
  -- in the old mode those of the NLRIs before the first refusal; the last line has offset and number alone. That every run is such NLRIs and an end is `walk_rule`'s
  pub old : (mode : ℕ) (run : List ℕ) (r : RunOf 32 run) (text : List ℕ) → mode ≢ SKIP → AllOctets run → length run ≤ 4096
      → (lines_of mode run ≡ text) ↔ RunLines r.number (length (encode_run r.nlris) ∷ r.number ∷ []) (fields_from 0 r.nlris) text
  -- of a longer run `stop 0 8 0`, and in the old mode `stop 0 8`
  pub long : (run : List ℕ) → 4096 < length run → lines_of SKIP run ≡ 115 ∷ 116 ∷ 111 ∷ 112 ∷ 32 ∷ 48 ∷ 32 ∷ 56 ∷ 32 ∷ 48 ∷ 10 ∷ []
  pub long_old : (mode : ℕ) (run : List ℕ) → mode ≢ SKIP → 4096 < length run → lines_of mode run ≡ 115 ∷ 116 ∷ 111 ∷ 112 ∷ 32 ∷ 48 ∷ 32 ∷ 56 ∷ 10 ∷ []
  -- the first 4,097 octets decide, so that the program reads no more
  pub seen : (mode : ℕ) (input : List ℕ) → listing_of mode (take 4097 input) ≡ listing_of mode input
  -- document 01's run: `MVT list 1`, `0 3 14`, `end 18 0 1`; in the old mode `stop 16 2` in the end
  pub marked : listing_of SKIP (3 ∷ 14 ∷ 0 ∷ 0 ∷ 0 ∷ 100 ∷ 0 ∷ 0 ∷ 0 ∷ 7 ∷ 0 ∷ 0 ∷ 10 ∷ 0 ∷ 0 ∷ 1 ∷ 9 ∷ 0 ∷ [])
      ≡ 77 ∷ 86 ∷ 84 ∷ 32 ∷ 108 ∷ 105 ∷ 115 ∷ 116 ∷ 32 ∷ 49 ∷ 10 ∷ 48 ∷ 32 ∷ 51 ∷ 32 ∷ 49 ∷ 52 ∷ 10 ∷ 101 ∷ 110 ∷ 100 ∷ 32 ∷ 49 ∷ 56 ∷ 32 ∷ 48 ∷ 32 ∷ 49 ∷ 10 ∷ []
  pub marked_old : listing_of OLD (3 ∷ 14 ∷ 0 ∷ 0 ∷ 0 ∷ 100 ∷ 0 ∷ 0 ∷ 0 ∷ 7 ∷ 0 ∷ 0 ∷ 10 ∷ 0 ∷ 0 ∷ 1 ∷ 9 ∷ 0 ∷ [])
      ≡ 77 ∷ 86 ∷ 84 ∷ 32 ∷ 108 ∷ 105 ∷ 115 ∷ 116 ∷ 32 ∷ 49 ∷ 10 ∷ 48 ∷ 32 ∷ 51 ∷ 32 ∷ 49 ∷ 52 ∷ 10 ∷ 115 ∷ 116 ∷ 111 ∷ 112 ∷ 32 ∷ 49 ∷ 54 ∷ 32 ∷ 50 ∷ 10 ∷ []
  -- Source Active routes for 232.0.0.0 and 233.0.0.0 (W-210): `MVT list 1`, `20 5 18`, `end 40 0 1`; in the old mode `stop 0 19`
  pub discarded : listing_of SKIP (source_active4 232 0 0 0 ++ source_active4 233 0 0 0)
      ≡ 77 ∷ 86 ∷ 84 ∷ 32 ∷ 108 ∷ 105 ∷ 115 ∷ 116 ∷ 32 ∷ 49 ∷ 10 ∷ 50 ∷ 48 ∷ 32 ∷ 53 ∷ 32 ∷ 49 ∷ 56 ∷ 10 ∷ 101 ∷ 110 ∷ 100 ∷ 32 ∷ 52 ∷ 48 ∷ 32 ∷ 48 ∷ 32 ∷ 49 ∷ 10 ∷ []
  pub discarded_old : listing_of OLD (source_active4 232 0 0 0 ++ source_active4 233 0 0 0)
      ≡ 77 ∷ 86 ∷ 84 ∷ 32 ∷ 108 ∷ 105 ∷ 115 ∷ 116 ∷ 32 ∷ 49 ∷ 10 ∷ 115 ∷ 116 ∷ 111 ∷ 112 ∷ 32 ∷ 48 ∷ 32 ∷ 49 ∷ 57 ∷ 10 ∷ []
  -- the old mode exactly where `old` is the only argument after the name, else the mode that skips
  pub asked : (count : ℕ) (argument : List ℕ) → (mode_of count argument ≡ OLD) ↔ ((count ≡ 2) × (argument ≡ 111 ∷ 108 ∷ 100 ∷ []))
  pub other : (count : ℕ) (argument : List ℕ) → (mode_of count argument ≡ OLD) ⊎ (mode_of count argument ≡ SKIP)
