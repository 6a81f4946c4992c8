-- The walk by its mode (document 02, W-206, W-210): an NLRI whose route type is unknown, or that is discarded, is skipped, or stops the walk as any other
-- refusal does.
use Rattle.std.specs.Prelude.{ℕ, zero, suc, ◌+◌, ◌-◌, ◌≡◌, Bool, true, false, Option, Some, None, Result, Ok, Err, ◌⊎◌, List, [], ◌∷◌, length, get_or, eqb}
use Rattle.octets.specs.Numbers.{DONE, TYPE, GROUP}
use Rattle.octets.specs.Choice.{pick, both, either}
use Rattle.octets.specs.Octets.{part}
use Rattle.octets.specs.Refusals.{refusal_number}
use Rattle.octets.specs.declared.refusal.Refusal.{Refusal}
use Rattle.nlri.specs.declared.layout.Layout.{Layout}
use Rattle.nlri.specs.Layouts.{no_layout}
use Rattle.runs.specs.declared.mode.Mode.{Mode}
use Rattle.runs.specs.declared.mode.Mode.TheVariants as mode
use Rattle.runs.specs.declared.stepping.Cursor.{Cursor}
use Rattle.runs.specs.declared.turning.Turn.{Turn}
use Rattle.runs.specs.declared.turning.Turn.TheVariants as turn
use Rattle.runs.specs.declared.walking.Walked.{Walked}
use Rattle.runs.specs.Walking.{advanced, step_from, walked_with, NlriRead}

-- the mode that skips
abbrev pub SKIP : ℕ
SKIP = 0

-- the old mode, in which every refusal stops the walk; so is every other number
abbrev pub OLD : ℕ
OLD = 1

-- the number of a mode, and the mode of a number
abbrev pub mode_number : Mode → ℕ
mode_number mode.Skip = SKIP
mode_number mode.Old = OLD

abbrev pub mode_by : ℕ → Mode
mode_by number = pick (eqb number SKIP) mode.Skip mode.Old

-- the numbers of NLRIs that a mode may skip: an unknown route type (W-206), and a Source Active route that is discarded (W-210)
abbrev pub SkippableNumber : ℕ → Type 0
SkippableNumber number = (number ≡ TYPE) ⊎ (number ≡ GROUP)

-- whether an NLRI refused by a number is skipped
unfoldable pub is_skipped : (mode number : ℕ) → Bool
is_skipped mode number = both (eqb mode SKIP) (either (eqb number TYPE) (eqb number GROUP))

-- just past the NLRI that begins at a cursor, by its Length octet
abbrev pub past_nlri : List ℕ → (at : ℕ) → ℕ
past_nlri run at = advanced at (get_or run (at + 1) 0)

-- what a turn of the walk comes to: an NLRI is read or skipped, and the next cursor; or the walk stops with a number, DONE at the run's end
pub data TurnTaken : Type 0 where
  Read : Layout → Cursor → TurnTaken
  Skipped : Cursor → TurnTaken
  Stopped : (number : ℕ) → TurnTaken

-- a turn of the walk at a cursor: the NLRI there is read, or it is refused and skipped, or the walk stops
unfoldable pub turn_from : (afi mode : ℕ) → List ℕ → (at : ℕ) → TurnTaken
turn_from afi mode run at =
    pick (step_from afi run at).read (Read (step_from afi run at).layout (record { at = (step_from afi run at).cursor }))
    (pick (is_skipped mode (step_from afi run at).number) (Skipped (record { at = past_nlri run at }))
    (Stopped (step_from afi run at).number))

-- each case of a turn's result
unfoldable pub turn_taken_of : Result (Option Turn) Refusal → TurnTaken
turn_taken_of (Ok (Some (turn.Read step))) = Read step.layout step.next
turn_taken_of (Ok (Some (turn.Skipped next))) = Skipped next
turn_taken_of (Ok None) = Stopped DONE
turn_taken_of (Err refusal) = Stopped (refusal_number refusal)

-- what a turn answers: the number, whether an NLRI was read, whether one was skipped, the layout of the NLRI read, and the next cursor
pub record Turned : Type 0 where
  pub number : ℕ
  pub read : Bool
  pub skipped : Bool
  pub layout : Layout
  pub cursor : ℕ

-- the number and values of each case; only a stop has a number, and it has no cursor
unfoldable pub turned_of : TurnTaken → Turned
turned_of (Read layout cursor) = record { number = DONE; read = true; skipped = false; layout = layout; cursor = cursor.at }
turned_of (Skipped cursor) = record { number = DONE; read = false; skipped = true; layout = no_layout; cursor = cursor.at }
turned_of (Stopped number) = record { number = number; read = false; skipped = false; layout = no_layout; cursor = 0 }

-- by what a turn does, and the next cursor or the number
unfoldable pub on_turn : {A : Type 0} → (ℕ → A) → (ℕ → A) → (ℕ → A) → TurnTaken → A
on_turn read skipped stopped (Read layout cursor) = read cursor.at
on_turn read skipped stopped (Skipped cursor) = skipped cursor.at
on_turn read skipped stopped (Stopped number) = stopped number

-- at most so many turns on from a cursor, with the count read and the number skipped so far: the first stop decides
unfoldable pub walk_by_from : ℕ → (afi mode : ℕ) → List ℕ → (at count skipped : ℕ) → Walked
walk_by_from zero afi mode run at count skipped = walked_with DONE count at skipped
walk_by_from (suc left) afi mode run at count skipped =
    on_turn (λ next. walk_by_from left afi mode run next (count + 1) skipped) (λ next. walk_by_from left afi mode run next count (skipped + 1)) (λ number. walked_with number count at skipped)
    (turn_from afi mode run at)

-- the walk of a mode. Each turn that goes on passes octets, so that more turns than octets suffice
unfoldable pub walk_by : (afi mode : ℕ) → List ℕ → Walked
walk_by afi mode run = walk_by_from (suc (length run)) afi mode run 0 0 0

-- the NLRIs that it reads, in at most so many turns on from a cursor
unfoldable pub nlris_by_from : ℕ → (afi mode : ℕ) → List ℕ → (at : ℕ) → List NlriRead
nlris_by_from zero afi mode run at = []
nlris_by_from (suc left) afi mode run at =
    on_turn (λ next. record { offset = at; octets = part run at (next - at) } ∷ nlris_by_from left afi mode run next) (λ next. nlris_by_from left afi mode run next) (λ number. [])
    (turn_from afi mode run at)

-- all NLRIs that it reads, in order
unfoldable pub nlris_by : (afi mode : ℕ) → List ℕ → List NlriRead
nlris_by afi mode run = nlris_by_from (suc (length run)) afi mode run 0
