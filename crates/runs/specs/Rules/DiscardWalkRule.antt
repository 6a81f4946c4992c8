-- A Source Active route that is discarded, where it stands in a run (document 02, W-210): what a step answers, and how the walk of each mode goes on; with
-- examples in literal octets. Proved in proofs/DiscardWalkRule.antt.
use Rattle.std.specs.Prelude.{ℕ, ◌+◌, ◌≤◌, ◌≡◌, true, false, List, [], ◌∷◌, ◌++◌, ◌↔◌, ◌≢◌, length, drop}
use Rattle.octets.specs.Octets.{AllOctets}
use Rattle.nlri.specs.Fields.{Fields, encode_nlri}
use Rattle.nlri.specs.Layouts.{no_layout}
use Rattle.nlri.specs.Rules.DiscardRule.{DiscardedFields}
use Rattle.nlri.specs.Rules.DiscardExamples.{source_active4}
use Rattle.runs.specs.Walking.{refused_at, step_from}
use Rattle.runs.specs.Modes.{turn_from, turned_of, walk_by, nlris_by}

-- such a route stands encoded at the cursor of a run that is not too long
pub record DiscardedAt (afi : ℕ) (run : List ℕ) (at : ℕ) : Type 0 where
  pub short : length run ≤ 4096
  pub fields : Fields
  pub discarded : DiscardedFields afi fields
  pub after : List ℕ
  pub is : drop at run ≡ encode_nlri fields ++ after

-- at such a route
pub record DiscardWalkRule : Type 0 where
  -- there, and nowhere else, a step answers GROUP, 19, and hands its cursor back
  pub steps : (afi : ℕ) (run : List ℕ) (at : ℕ) → AllOctets run → (step_from afi run at ≡ refused_at 19 at) ↔ DiscardedAt afi run at
  -- the walk of mode 0 skips it, and goes on just past it; that skips are counted is `ModeRule.skips`
  pub skips : (afi : ℕ) (run : List ℕ) (at : ℕ) → AllOctets run → (d : DiscardedAt afi run at)
      → turned_of (turn_from afi 0 run at) ≡ record { number = 0; read = false; skipped = true; layout = no_layout; cursor = at + length (encode_nlri d.fields) }
  -- that of any other mode stops at it
  pub stops : (afi mode : ℕ) (run : List ℕ) (at : ℕ) → mode ≢ 0 → AllOctets run → DiscardedAt afi run at
      → turned_of (turn_from afi mode run at) ≡ record { number = 19; read = false; skipped = false; layout = no_layout; cursor = 0 }

-- routes for 232.0.0.0, 233.0.0.0 and 232.255.255.255, and an NLRI of an unknown type with no body
abbrev pub mixed_run : List ℕ
mixed_run = source_active4 232 0 0 0 ++ (source_active4 233 0 0 0 ++ (source_active4 232 255 255 255 ++ (9 ∷ 0 ∷ [])))

-- how each mode walks
pub record DiscardWalkExamples : Type 0 where
  -- one is read, where it stands, and three are skipped
  pub skipping : walk_by 1 0 mixed_run ≡ record { number = 0; count = 1; offset = 62; skipped = 3 }
  pub read : nlris_by 1 0 mixed_run ≡ record { offset = 20; octets = source_active4 233 0 0 0 } ∷ []
  -- the old mode stops at the first, or at the one behind those it reads
  pub old : walk_by 1 1 mixed_run ≡ record { number = 19; count = 0; offset = 0; skipped = 0 }
  pub later : walk_by 1 1 (source_active4 231 255 255 255 ++ source_active4 232 0 0 0) ≡ record { number = 19; count = 1; offset = 20; skipped = 0 }
