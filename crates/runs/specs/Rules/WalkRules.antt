-- What holds of steps and walks, in document 01's notions. Stated here, proved in proofs/.
use Rattle.std.specs.Prelude.{ℕ, ◌+◌, ◌≤◌, ◌<◌, ◌≡◌, true, false, Option, Result, List, [], ◌∷◌, ◌++◌, ◌↔◌, ◌≢◌, ◌⊎◌, length, drop}
use Rattle.octets.specs.Numbers.{DONE, SHORT, LONG, FAMILY}
use Rattle.octets.specs.Outcome.{given}
use Rattle.octets.specs.Octets.{AllOctets}
use Rattle.octets.specs.declared.refusal.Refusal.{Refusal}
use Rattle.runs.specs.declared.stepping.Step.{Step}
use Rattle.nlri.specs.Family.{family_bits}
use Rattle.nlri.specs.Fields.{Fields, encode_nlri, WellFormed}
use Rattle.nlri.specs.Bodies.{KnownType}
use Rattle.nlri.specs.Rules.NlriRules.{FrontRefusal, layout_for}
use Rattle.runs.specs.declared.walking.Walked.{Walked}
use Rattle.runs.specs.Walking.{read_to, ended_at, refused_at, advanced, step_from, step_taken_of, walk_of, NlriRead, nlris_of}

-- a step that reads: fields well-formed under the AFI's family stand encoded at the cursor of a run that is not too long
pub record EncodedAt (afi : ℕ) (run : List ℕ) (at : ℕ) (f : Fields) : Type 0 where
  pub bits : ℕ
  pub of_family : family_bits afi ≡ given bits
  pub short : length run ≤ 4096
  pub well_formed : WellFormed bits f
  pub after : List ℕ
  pub is : drop at run ≡ encode_nlri f ++ after

-- a step at the run's end: FAMILY and LONG do not refuse, and the cursor is at the end
abbrev pub EndAt : (afi : ℕ) → List ℕ → (at : ℕ) → Type 0
EndAt afi run at = ((afi ≡ 1) ⊎ (afi ≡ 2)) × (length run ≤ 4096) × (at ≡ length run)

-- why a step refuses: FAMILY, LONG, a cursor past the end, then NLRI reading
pub data StepRefusal (afi : ℕ) (run : List ℕ) (at : ℕ) : ℕ → Type 0 where
  bad_family : afi ≢ 1 → afi ≢ 2 → StepRefusal afi run at FAMILY
  long : (bits : ℕ) → family_bits afi ≡ given bits → 4096 < length run → StepRefusal afi run at LONG
  past : (bits : ℕ) → family_bits afi ≡ given bits → length run ≤ 4096 → length run < at → StepRefusal afi run at SHORT
  front : (bits : ℕ) {n : ℕ} → family_bits afi ≡ given bits → length run ≤ 4096 → at < length run → FrontRefusal bits (drop at run) n → StepRefusal afi run at n

-- "Walking a run": what a step answers, in the order FAMILY, LONG, the cursor, NLRI reading
pub record StepRule : Type 0 where
  -- an NLRI at the cursor is read: its layout, and the cursor just past it
  pub reads : (afi : ℕ) (run : List ℕ) (at : ℕ) (f : Fields) → EncodedAt afi run at f → step_from afi run at ≡ read_to (layout_for f) (at + length (encode_nlri f))
  -- at the run's end DONE with no NLRI, and the cursor given
  pub ends : (afi : ℕ) (run : List ℕ) (at : ℕ) → (step_from afi run at ≡ ended_at at) ↔ EndAt afi run at
  -- which is told there, and nowhere else
  pub ended : (afi : ℕ) (run : List ℕ) (at : ℕ) → ((step_from afi run at).ended ≡ true) ↔ EndAt afi run at
  -- each number, with the cursor given, exactly when document 01, W-207 and W-210 say
  pub refuses : (afi : ℕ) (run : List ℕ) (at n : ℕ) → AllOctets run → (step_from afi run at ≡ refused_at n at) ↔ StepRefusal afi run at n
  -- there is no other step
  pub decided : (afi : ℕ) (run : List ℕ) (at : ℕ) → AllOctets run → ((f : Fields) × EncodedAt afi run at f) ⊎ EndAt afi run at ⊎ ((n : ℕ) × StepRefusal afi run at n)
  -- no refusal is DONE
  pub done : (afi : ℕ) (run : List ℕ) (at : ℕ) → StepRefusal afi run at DONE → ⊥
  -- an NLRI read has a route type that there is, where a step that reads none has 0
  pub typed : (afi : ℕ) (run : List ℕ) (at : ℕ) → (step_from afi run at).read ≡ true → KnownType (step_from afi run at).layout.route_type
  -- a step that reads moves the cursor just past the NLRI, within the run
  pub moves : (afi : ℕ) (run : List ℕ) (at : ℕ) → (step_from afi run at).read ≡ true
      → ((step_from afi run at).cursor ≡ advanced at (step_from afi run at).layout.length) × (at < (step_from afi run at).cursor) × ((step_from afi run at).cursor ≤ length run)
  -- results with the same number and values are equal
  pub apart : (a b : Result (Option Step) Refusal) (at : ℕ) → step_taken_of a at ≡ step_taken_of b at → a ≡ b

-- the walk from a cursor as the iteration of the step: it goes on from the cursor that a step that read hands back, and stops at any other step
pub data Walks (afi : ℕ) (run : List ℕ) : (at count : ℕ) → Walked → Type 0 where
  stopping : {at count : ℕ} → (step_from afi run at).read ≡ false → Walks afi run at count (record { number = (step_from afi run at).number; count = count; offset = at; skipped = 0 })
  going : {at count : ℕ} {w : Walked} → (step_from afi run at).read ≡ true → Walks afi run (step_from afi run at).cursor (count + 1) w → Walks afi run at count w

-- NLRIs that follow each other
unfoldable pub encode_run : List Fields → List ℕ
encode_run [] = []
encode_run (f ∷ fs) = encode_nlri f ++ encode_run fs

-- the encodings of these NLRIs, each with the offset where it begins, the first of them at an offset
unfoldable pub encoded_from : (offset : ℕ) → List Fields → List NlriRead
encoded_from offset [] = []
encoded_from offset (f ∷ fs) = record { offset = offset; octets = encode_nlri f } ∷ encoded_from (offset + length (encode_nlri f)) fs

-- each of them well-formed
abbrev pub AllWellFormed : ℕ → List Fields → Type 0
AllWellFormed bits [] = Unit {0}
AllWellFormed bits (f ∷ fs) = WellFormed bits f × AllWellFormed bits fs

-- what may stand after the NLRIs of a run, and the number there: nothing, or octets that NLRI reading refuses
pub data RunEnd (bits : ℕ) : List ℕ → ℕ → Type 0 where
  nothing : RunEnd bits [] DONE
  refusal : {t : List ℕ} {n : ℕ} → 0 < length t → FrontRefusal bits t n → RunEnd bits t n

-- a run as NLRIs and then its end
pub record RunOf (bits : ℕ) (run : List ℕ) : Type 0 where
  pub nlris : List Fields
  pub tail : List ℕ
  pub number : ℕ
  pub well_formed : AllWellFormed bits nlris
  pub end : RunEnd bits tail number
  pub is : run ≡ encode_run nlris ++ tail

-- "Walking a run"
pub record WalkRule : Type 0 where
  -- every run of octets is NLRIs and then its end
  pub splits : (afi bits : ℕ) (run : List ℕ) → family_bits afi ≡ given bits → AllOctets run → RunOf bits run
  -- the walk counts these NLRIs, and stops where they end with the number there
  pub counts : (afi bits : ℕ) (run : List ℕ) (r : RunOf bits run) → family_bits afi ≡ given bits → AllOctets run → length run ≤ 4096
      → walk_of afi run ≡ record { number = r.number; count = length r.nlris; offset = length (encode_run r.nlris); skipped = 0 }
  -- what it reads is the encodings of these NLRIs, where they stand
  pub reads : (afi bits : ℕ) (run : List ℕ) (r : RunOf bits run) → family_bits afi ≡ given bits → AllOctets run → length run ≤ 4096 → nlris_of afi run ≡ encoded_from 0 r.nlris
  -- of every run it reads as many NLRIs as it counts
  pub counted : (afi : ℕ) (run : List ℕ) → (walk_of afi run).count ≡ length (nlris_of afi run)
  -- where the first step refuses, as it does a bad AFI and a run that is too long, nothing is read
  pub refuses : (afi : ℕ) (run : List ℕ) (n : ℕ) → AllOctets run → StepRefusal afi run 0 n → walk_of afi run ≡ record { number = n; count = 0; offset = 0; skipped = 0 }
  -- the walk is the iteration of the step, and nothing else is
  pub iterates : (afi : ℕ) (run : List ℕ) → Walks afi run 0 0 (walk_of afi run)
  pub only : (afi : ℕ) (run : List ℕ) (at count : ℕ) (v w : Walked) → Walks afi run at count v → Walks afi run at count w → v ≡ w
