-- What holds of the call next, and of going on by it through a table. Stated here, proved in proofs/Statements/NextRule.antt and InTurn.antt.
use Rattle.std.specs.Prelude.{ℕ, ◌≤◌, ◌<◌, ◌≡◌, true, false, List, [], ◌∷◌, ◌↔◌, ◌≢◌, ◌⊎◌, eqb, length, take, replicate}
use Rattle.octets.specs.Numbers.{DONE, TABLE, SPACE}
use Rattle.octets.specs.Choice.{pick}
use Rattle.octets.specs.Octets.{part}
use Rattle.octets.specs.Order.{before}
use Rattle.octets.specs.Lists.{Among}
use Rattle.routes.specs.declared.Matched.{Matched}
use Rattle.routes.specs.declared.Following.{Following}
use Rattle.routes.specs.Route.{Route, entry, nlri_of, stale_of, Increasing}
use Rattle.routes.specs.Table.{routes_of, sound_of}
use Rattle.octets.specs.Outputs.{Changed}
use Rattle.routes.specs.Next.{next_of}
use Rattle.routes.specs.Rules.MatchRule.{Told, Untold}

-- of some routes the one that comes next after octets: its NLRI comes after them, and that of no route comes between
pub record ComesNext (nlri : List ℕ) (rs : List Route) (r : Route) : Type 0 where
  pub member : Among r rs
  pub after : before nlri (nlri_of r) ≡ true
  pub between : (u : Route) → Among u rs → before nlri (nlri_of u) ≡ true → before (nlri_of u) (nlri_of r) ≡ true → ⊥

-- no route's NLRI comes after octets
abbrev pub NoneNext : (nlri : List ℕ) → List Route → Type 0
NoneNext nlri rs = (u : Route) → Among u rs → before nlri (nlri_of u) ≡ true → ⊥

-- an answer of next as a match would give it for a route of no tier
abbrev pub as_matched : Changed Following → Changed Matched
as_matched c =
    record {
      answer = record { number = c.answer.number; tier = 0; nlri_size = c.answer.nlri_size; attribute_size = c.answer.attribute_size };
      octets = c.octets;
    }

-- a route is told as a match tells it: sizes that are not 0, its NLRI and its attribute at the front of the output, the octets past them as they
-- were; and its mark, 1 exactly where it is marked stale, else 0
pub record Tells (r : Route) (output : List ℕ) (changed : Changed Following) : Type 0 where
  pub some : 0 < changed.answer.nlri_size
  pub told : Told 0 r output (as_matched changed)
  pub mark : (stale_of r ≡ true → changed.answer.stale ≡ 1) × (stale_of r ≡ false → changed.answer.stale ≡ 0)

-- why next refuses: TABLE, then SPACE, also where no route comes after
pub data NextRefusal (t output : List ℕ) : ℕ → Type 0 where
  next_unsound : sound_of t ≡ false → NextRefusal t output TABLE
  next_space : sound_of t ≡ true → length output < 124 → NextRefusal t output SPACE

-- next: each answer exactly when, and what it leaves
pub record NextRule : Type 0 where
  pub refuses : (t nlri output : List ℕ) (n : ℕ) → n ≢ DONE → ((next_of t nlri output).answer.number ≡ n) ↔ NextRefusal t output n
  pub done : (t nlri output : List ℕ) → ((next_of t nlri output).answer.number ≡ DONE) ↔ ((sound_of t ≡ true) × (124 ≤ length output))
  -- a call that is done tells a route exactly when it comes next, and none exactly when none comes after
  pub tells : (t nlri output : List ℕ) (r : Route) → (next_of t nlri output).answer.number ≡ DONE → Tells r output (next_of t nlri output) ↔ ComesNext nlri (routes_of t) r
  pub none : (t nlri output : List ℕ) → (next_of t nlri output).answer.number ≡ DONE → ((next_of t nlri output).answer.nlri_size ≡ 0) ↔ NoneNext nlri (routes_of t)
  -- none told, and a refusal, have empty fields and leave the output
  pub untold : (t nlri output : List ℕ) → ((next_of t nlri output).answer.number ≢ DONE) ⊎ ((next_of t nlri output).answer.nlri_size ≡ 0) → Untold output (as_matched (next_of t nlri output))
  -- nor is a mark told
  pub unmarked : (t nlri output : List ℕ) → ((next_of t nlri output).answer.number ≢ DONE) ⊎ ((next_of t nlri output).answer.nlri_size ≡ 0) → (next_of t nlri output).answer.stale ≡ 0

-- the route that an answer tells, as a caller takes it out of the output by its sizes, with its mark
abbrev pub told_route : Changed Following → Route
told_route c =
    entry (part c.octets 0 c.answer.nlri_size) (part c.octets c.answer.nlri_size c.answer.attribute_size) (eqb c.answer.stale 1)

-- the routes that a caller's loop is told, with a table for each call: it asks on with the NLRI that stands in the output, and ends where none is told
unfoldable pub told_in_turn : (tables : List (List ℕ)) (nlri output : List ℕ) → List Route
told_in_turn [] nlri output = []
told_in_turn (t ∷ ts) nlri output =
    pick (eqb (next_of t nlri output).answer.nlri_size 0) []
    (told_route (next_of t nlri output) ∷ told_in_turn ts (nlri_of (told_route (next_of t nlri output))) (next_of t nlri output).octets)

-- a table that is sound and holds a route
pub record Holds (r : Route) (t : List ℕ) : Type 0 where
  pub sound : sound_of t ≡ true
  pub member : Among r (routes_of t)

-- going on by next, with an output that every route fits into
pub record InTurnRule : Type 0 where
  -- one table, from no octets: so many calls give the first so many of its routes, in its increasing order; so each of them once, and then none
  pub whole : (calls : ℕ) (t output : List ℕ) → sound_of t ≡ true → 124 ≤ length output → told_in_turn (replicate calls t) [] output ≡ take calls (routes_of t)
  -- whatever routes come and go between the calls: no route comes twice, and what comes was held
  pub increasing : (tables : List (List ℕ)) (nlri output : List ℕ) → 124 ≤ length output → Increasing nlri (told_in_turn tables nlri output)
  pub held : (tables : List (List ℕ)) (nlri output : List ℕ) (r : Route) → 124 ≤ length output → Among r (told_in_turn tables nlri output) → (t : List ℕ) × Among t tables × Holds r t
  -- and a route that was there at each call has come when a call tells none
  pub kept : (tables : List (List ℕ)) (nlri output : List ℕ) (r : Route) → 124 ≤ length output → ((t : List ℕ) → Among t tables → Holds r t) → before nlri (nlri_of r) ≡ true
      → length (told_in_turn tables nlri output) < length tables → Among r (told_in_turn tables nlri output)
