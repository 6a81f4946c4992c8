-- What holds of the walk by its mode (document 02, W-206, W-210), said of the run's octets. Proved in proofs/ModeRule.antt.
use Rattle.std.specs.Prelude.{ℕ, ◌+◌, ◌≤◌, ◌≡◌, true, false, Option, Result, List, [], ◌∷◌, ◌++◌, ◌≢◌, ◌⊎◌, length, get_or}
use Rattle.octets.specs.Outcome.{given}
use Rattle.octets.specs.Octets.{AllOctets}
use Rattle.octets.specs.declared.refusal.Refusal.{Refusal}
use Rattle.nlri.specs.Family.{family_bits}
use Rattle.nlri.specs.Fields.{Fields, encode_nlri, Encodable, Discarded, WellFormed}
use Rattle.nlri.specs.Bodies.{KnownType}
use Rattle.nlri.specs.Layouts.{no_layout}
use Rattle.nlri.specs.Rules.NlriRules.{layout_for}
use Rattle.runs.specs.declared.turning.Turn.{Turn}
use Rattle.runs.specs.Walking.{walk_of, NlriRead, nlris_of}
use Rattle.runs.specs.Rules.WalkRules.{EncodedAt, EndAt, StepRefusal, RunEnd}
use Rattle.runs.specs.Modes.{SkippableNumber, TurnTaken, turn_from, turn_taken_of, turned_of, walk_by, nlris_by}

-- an NLRI of a run: its fields, and the offset where their encoding begins
pub record EncodedNlri : Type 0 where
  pub offset : ℕ
  pub fields : Fields

-- their encodings
unfoldable pub encodings : List EncodedNlri → List NlriRead
encodings [] = []
encodings (f ∷ fs) = record { offset = f.offset; octets = encode_nlri f.fields } ∷ encodings fs

-- the octets of an NLRI that is skipped: an unknown type with its Length and that many octets, or the encoding of a Source Active route that is discarded
pub data SkippableNlri (bits : ℕ) : List ℕ → Type 0 where
  unknown : (type : ℕ) (body : List ℕ) → (KnownType type → ⊥) → SkippableNlri bits (type ∷ (length body ∷ body))
  discarded : (f : Fields) → Encodable bits f → Discarded bits f → SkippableNlri bits (encode_nlri f)

-- a run from an offset on, with its figures: its NLRIs; how many are skipped among them; and where and why it ends: with nothing, or with
-- octets that NLRI reading refuses otherwise
pub data SkippingRun (bits : ℕ) : (at : ℕ) → List ℕ → (nlris : List EncodedNlri) → (number offset skipped : ℕ) → Type 0 where
  end : {at number : ℕ} {run : List ℕ} → RunEnd bits run number → (SkippableNumber number → ⊥) → SkippingRun bits at run [] number at 0
  nlri : {at number offset skipped : ℕ} {rest : List ℕ} {nlris : List EncodedNlri} (f : Fields) → WellFormed bits f
      → SkippingRun bits (at + length (encode_nlri f)) rest nlris number offset skipped
      → SkippingRun bits at (encode_nlri f ++ rest) (record { offset = at; fields = f } ∷ nlris) number offset skipped
  skip : {at number offset skipped : ℕ} {rest : List ℕ} {nlris : List EncodedNlri} (s : List ℕ) → SkippableNlri bits s
      → SkippingRun bits (at + length s) rest nlris number offset skipped
      → SkippingRun bits at (s ++ rest) nlris number offset (skipped + 1)

-- such a run, whatever its figures
pub record Split (bits at : ℕ) (run : List ℕ) : Type 0 where
  pub nlris : List EncodedNlri
  pub number : ℕ
  pub offset : ℕ
  pub skipped : ℕ
  pub is : SkippingRun bits at run nlris number offset skipped

-- a turn of the walk, in the words of its number and values
pub record TurnRule : Type 0 where
  -- an NLRI at the cursor is read in every mode: its layout, and the cursor just past it
  pub reads : (afi mode : ℕ) (run : List ℕ) (at : ℕ) (f : Fields) → EncodedAt afi run at f
      → turned_of (turn_from afi mode run at) ≡ record { number = 0; read = true; skipped = false; layout = layout_for f; cursor = at + length (encode_nlri f) }
  -- one refused by TYPE or GROUP is skipped in mode 0: the cursor just past it, by its Length
  pub skips : (afi : ℕ) (run : List ℕ) (at n : ℕ) → AllOctets run → StepRefusal afi run at n → SkippableNumber n
      → turned_of (turn_from afi 0 run at) ≡ record { number = 0; read = false; skipped = true; layout = no_layout; cursor = at + (2 + get_or run (at + 1) 0) }
  -- the walk stops at the run's end, and at any other refusal; in every other mode at these too
  pub ends : (afi mode : ℕ) (run : List ℕ) (at : ℕ) → EndAt afi run at
      → turned_of (turn_from afi mode run at) ≡ record { number = 0; read = false; skipped = false; layout = no_layout; cursor = 0 }
  pub stops : (afi mode : ℕ) (run : List ℕ) (at n : ℕ) → AllOctets run → StepRefusal afi run at n → (mode ≢ 0) ⊎ (SkippableNumber n → ⊥)
      → turned_of (turn_from afi mode run at) ≡ record { number = n; read = false; skipped = false; layout = no_layout; cursor = 0 }
  -- turns with the same number and values are equal
  pub apart : (a b : TurnTaken) → turned_of a ≡ turned_of b → a ≡ b
  -- and so are results of a turn
  pub results_apart : (a b : Result (Option Turn) Refusal) → turned_of (turn_taken_of a) ≡ turned_of (turn_taken_of b) → a ≡ b

-- "Unknown route types are stepped over", and Source Active routes that are discarded (W-210)
pub record ModeRule : Type 0 where
  -- every mode but 0, SKIP, is the walk that stops at every refusal, of which `walk_rule` speaks
  pub old : (afi mode : ℕ) (run : List ℕ) → mode ≢ 0 → (walk_by afi mode run ≡ walk_of afi run) × (nlris_by afi mode run ≡ nlris_of afi run)
  -- which skips nothing
  pub none : (afi : ℕ) (run : List ℕ) → (walk_of afi run).skipped ≡ 0
  -- every run of octets is NLRIs that are read or skipped, and then its end
  pub splits : (afi bits : ℕ) (run : List ℕ) → family_bits afi ≡ given bits → AllOctets run → Split bits 0 run
  -- the walk that skips has exactly the figures of such a run, and reads its NLRIs where they stand
  pub skips : (afi bits : ℕ) (run : List ℕ) (s : Split bits 0 run) → family_bits afi ≡ given bits → AllOctets run → length run ≤ 4096
      → (walk_by afi 0 run ≡ record { number = s.number; count = length s.nlris; offset = s.offset; skipped = s.skipped }) × (nlris_by afi 0 run ≡ encodings s.nlris)
  -- where that walk stops neither at an unknown type nor at a route that is discarded, each mode is that walk
  pub agree : (afi mode : ℕ) (run : List ℕ) → (SkippableNumber (walk_of afi run).number → ⊥) → (walk_by afi mode run ≡ walk_of afi run) × (nlris_by afi mode run ≡ nlris_of afi run)
  -- where the first step refuses otherwise, as it does a bad AFI and a run that is too long, nothing is read or skipped
  pub refuses : (afi mode : ℕ) (run : List ℕ) (n : ℕ) → AllOctets run → StepRefusal afi run 0 n → (SkippableNumber n → ⊥) → walk_by afi mode run ≡ record { number = n; count = 0; offset = 0; skipped = 0 }
  -- of every run each mode reads as many NLRIs as it counts
  pub counted : (afi mode : ℕ) (run : List ℕ) → (walk_by afi mode run).count ≡ length (nlris_by afi mode run)
