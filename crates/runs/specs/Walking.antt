-- Walking a run (document 01, "NLRI on the wire"): the step from a cursor, and the walk as its iteration.
use Rattle.std.specs.Prelude.{ℕ, zero, suc, ◌+◌, ◌-◌, Bool, true, false, Option, Some, None, Result, Ok, Err, List, [], ◌∷◌, length, drop, ltb, eqb}
use Rattle.octets.specs.Numbers.{DONE, SHORT, LONG}
use Rattle.octets.specs.Choice.{pick}
use Rattle.octets.specs.Outcome.{on_outcome}
use Rattle.octets.specs.Octets.{part}
use Rattle.octets.specs.Refusals.{refusal_number}
use Rattle.octets.specs.declared.refusal.Refusal.{Refusal}
use Rattle.nlri.specs.declared.layout.Layout.{Layout}
use Rattle.runs.specs.declared.stepping.Step.{Step}
use Rattle.runs.specs.declared.walking.Walked.{Walked}
use Rattle.nlri.specs.Family.{family_bits}
use Rattle.nlri.specs.Layouts.{layout_at, no_layout}

-- what a step answers: the number, whether an NLRI was read, whether the run ends at the cursor, the layout of the NLRI read, and the next cursor
pub record StepTaken : Type 0 where
  pub number : ℕ
  pub read : Bool
  pub ended : Bool
  pub layout : Layout
  pub cursor : ℕ

-- an NLRI, and the cursor just past it
unfoldable pub read_to : Layout → ℕ → StepTaken
read_to layout cursor = record { number = DONE; read = true; ended = false; layout = layout; cursor = cursor }

-- the run's end: DONE with no NLRI; the cursor given is handed back
unfoldable pub ended_at : ℕ → StepTaken
ended_at cursor = record { number = DONE; read = false; ended = true; layout = no_layout; cursor = cursor }

-- a refusal: no NLRI; the cursor given is handed back
unfoldable pub refused_at : (number cursor : ℕ) → StepTaken
refused_at number cursor = record { number = number; read = false; ended = false; layout = no_layout; cursor = cursor }

-- the place just past an NLRI that begins at a cursor, by its Length: header and body
abbrev pub advanced : (at size : ℕ) → ℕ
advanced at size = at + (2 + size)

-- under a family: LONG, then the cursor, then NLRI reading; a cursor just past the NLRI read
unfoldable pub step_under : ℕ → List ℕ → ℕ → StepTaken
step_under bits run at =
    pick (ltb 4096 (length run)) (refused_at LONG at)
    (pick (eqb at (length run)) (ended_at at)
    (pick (ltb (length run) at) (refused_at SHORT at)
    (on_outcome (λ number. refused_at number at) (λ layout. read_to layout (advanced at layout.length)) (layout_at bits (drop at run)))))

-- FAMILY first
unfoldable pub step_from : ℕ → List ℕ → ℕ → StepTaken
step_from afi run at = on_outcome (λ number. refused_at number at) (λ bits. step_under bits run at) (family_bits afi)

-- the number and values of each case of a step's result; at the run's end and on a refusal the cursor given stays
unfoldable pub step_taken_of : Result (Option Step) Refusal → (cursor : ℕ) → StepTaken
step_taken_of (Ok (Some step)) cursor = read_to step.layout step.next.at
step_taken_of (Ok None) cursor = ended_at cursor
step_taken_of (Err refusal) cursor = refused_at (refusal_number refusal) cursor

-- what a walk answers: the number and the offset of its stop, the count of NLRIs read before it, and the number of those skipped
abbrev pub walked_with : (number count offset skipped : ℕ) → Walked
walked_with number count offset skipped = record { number = number; count = count; offset = offset; skipped = skipped }

-- with none skipped
abbrev pub walked_to : (number count offset : ℕ) → Walked
walked_to number count offset = walked_with number count offset 0

-- at most so many steps on from a cursor, with the count read so far: the first stop decides
unfoldable pub walk_from : ℕ → ℕ → List ℕ → (at count : ℕ) → Walked
walk_from zero afi run at count = walked_to DONE count at
walk_from (suc left) afi run at count =
    pick (step_from afi run at).read (walk_from left afi run (step_from afi run at).cursor (count + 1))
    (walked_to (step_from afi run at).number count at)

-- the walk: the count read, the offset of the stop and its number. Each step that reads passes octets, so that more steps than octets suffice
unfoldable pub walk_of : ℕ → List ℕ → Walked
walk_of afi run = walk_from (suc (length run)) afi run 0 0

-- an NLRI that the walk reads: where it begins in the run, and its octets
pub record NlriRead : Type 0 where
  pub offset : ℕ
  pub octets : List ℕ

-- the NLRIs that the walk reads, in at most so many steps on from a cursor
unfoldable pub nlris_from : ℕ → ℕ → List ℕ → (at : ℕ) → List NlriRead
nlris_from zero afi run at = []
nlris_from (suc left) afi run at =
    pick (step_from afi run at).read
    (record { offset = at; octets = part run at ((step_from afi run at).cursor - at) } ∷ nlris_from left afi run (step_from afi run at).cursor)
    []

-- all NLRIs that the walk reads, in order
unfoldable pub nlris_of : ℕ → List ℕ → List NlriRead
nlris_of afi run = nlris_from (suc (length run)) afi run 0
