-- What holds of the call info. Stated here, proved in proofs/Statements/InfoRule.antt.
use Rattle.std.specs.Prelude.{ℕ, ◌+◌, ◌*◌, ◌≤◌, ◌≡◌, true, false, List, [], ◌↔◌, ◌≢◌, length, replicate}
use Rattle.octets.specs.Numbers.{DONE, TABLE}
use Rattle.routes.specs.Route.{Route}
use Rattle.routes.specs.Table.{sound_of}
use Rattle.routes.specs.Rules.Images.{TableOf}
use Rattle.routes.specs.Info.{info_of}
use Rattle.routes.specs.Rules.NextRule.{told_in_turn}

-- info: each answer exactly when
pub record InfoRule : Type 0 where
  pub refuses : (t : List ℕ) (n : ℕ) → n ≢ DONE → ((info_of t).number ≡ n) ↔ ((sound_of t ≡ false) × (n ≡ TABLE))
  pub done : (t : List ℕ) → ((info_of t).number ≡ DONE) ↔ (sound_of t ≡ true)
  -- the family, the places and the number of the routes of a table
  pub tells : (afi places : ℕ) (rs : List Route) (t : List ℕ) → TableOf afi places rs t → info_of t ≡ record { number = DONE; afi = afi; places = places; routes = length rs }
  -- the memory is the header and as many places as told; going on by next from no octets gives as many routes as told
  pub places : (t : List ℕ) → sound_of t ≡ true → length t ≡ 8 + 128 * (info_of t).places
  pub routes : (calls : ℕ) (t output : List ℕ) → sound_of t ≡ true → 124 ≤ length output → (info_of t).routes ≤ calls → length (told_in_turn (replicate calls t) [] output) ≡ (info_of t).routes
  -- a refusal has empty fields
  pub empty : (t : List ℕ) → sound_of t ≡ false → info_of t ≡ record { number = TABLE; afi = 0; places = 0; routes = 0 }
