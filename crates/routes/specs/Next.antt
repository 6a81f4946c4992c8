-- The route that comes next in a table after an NLRI: by this call a caller lists a table. By NLRI and not by place, so that a route that comes or
-- goes between two calls shifts no other.
use Rattle.std.specs.Prelude.{ℕ, Result, Ok, Err, Option, Some, None, List, [], ◌∷◌, length, ltb}
use Rattle.octets.specs.Numbers.{DONE, TABLE, SPACE}
use Rattle.octets.specs.Choice.{pick}
use Rattle.octets.specs.Outcome.{Outcome, given, refused, on_outcome, unless}
use Rattle.octets.specs.Order.{before}
use Rattle.octets.specs.declared.refusal.Refusal.{Refusal}
use Rattle.octets.specs.Refusals.{refusal_number}
use Rattle.routes.specs.declared.Following.{Following}
use Rattle.routes.specs.declared.NextRoute.{NextRoute}
use Rattle.routes.specs.Route.{Route, nlri_of, stale_of}
use Rattle.routes.specs.Place.{mark_octet}
use Rattle.routes.specs.Table.{routes_of, sound_of}
use Rattle.routes.specs.Matching.{Found, nothing, found}
use Rattle.octets.specs.Outputs.{Changed}
use Rattle.routes.specs.Answers.{matched_by}

-- the first of some routes whose NLRI comes after these octets; no tier is asked for, so it is found with 0
unfoldable pub next_in : (nlri : List ℕ) → List Route → Found
next_in nlri [] = nothing
next_in nlri (r ∷ rs) = pick (before nlri (nlri_of r)) (found 0 r) (next_in nlri rs)

-- next: TABLE, then SPACE for an output under 124 octets. What it is given as NLRI are any octets, held or not
unfoldable pub next_outcome : (table nlri output : List ℕ) → Outcome Found
next_outcome t nlri output = unless (sound_of t) TABLE (pick (ltb (length output) 124) (refused SPACE) (given (next_in nlri (routes_of t))))

-- a number and empty fields: of a refusal, and DONE where no route comes after
abbrev pub empty_next : ℕ → Following
empty_next number = record { number = number; nlri_size = 0; attribute_size = 0; stale = 0 }

-- what next answers, by a result
abbrev pub following_told : Result (Option NextRoute) Refusal → Following
following_told (Ok (Some route)) =
    record { number = DONE; nlri_size = route.nlri_size; attribute_size = route.attribute_size; stale = mark_octet route.is_stale }
following_told (Ok None) = empty_next DONE
following_told (Err refusal) = empty_next (refusal_number refusal)

-- the mark of a route that was found, as next tells it
unfoldable pub found_mark : Found → ℕ
found_mark nothing = 0
found_mark (found tier r) = mark_octet (stale_of r)

-- what a match answers and leaves, with a mark for its tier
abbrev pub following_by : Outcome Found → (output : List ℕ) → Changed Following
following_by outcome output =
    record {
      answer = record {
        number = (matched_by outcome output).answer.number;
        nlri_size = (matched_by outcome output).answer.nlri_size;
        attribute_size = (matched_by outcome output).answer.attribute_size;
        stale = on_outcome (λ number. 0) found_mark outcome;
      };
      octets = (matched_by outcome output).octets;
    }

-- the answer, and the output afterwards: as a match tells a route, or none
unfoldable pub next_of : (table nlri output : List ℕ) → Changed Following
next_of t nlri output = following_by (next_outcome t nlri output) output
