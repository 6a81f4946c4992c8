-- The shapes of answers (document 01, "The numbers a call gives back"): number and fields of install and match, and what a match leaves in
-- its output.
use Rattle.std.specs.Prelude.{ℕ, Result, Ok, Err, Option, Some, None, List, ◌++◌, length}
use Rattle.octets.specs.Numbers.{DONE}
use Rattle.octets.specs.Outcome.{Outcome, on_outcome}
use Rattle.octets.specs.Octets.{front}
use Rattle.octets.specs.declared.refusal.Refusal.{Refusal}
use Rattle.octets.specs.Refusals.{refusal_number}
use Rattle.octets.specs.Outputs.{Changed}
use Rattle.routes.specs.declared.Installation.{Installation}
use Rattle.routes.specs.declared.Installation.TheVariants.{New, Replaced}
use Rattle.routes.specs.declared.Installed.{Installed}
use Rattle.routes.specs.declared.Matched.{Matched}
use Rattle.routes.specs.declared.MatchedRoute.{MatchedRoute}
use Rattle.routes.specs.declared.Restarted.{Restarted}
use Rattle.routes.specs.declared.Tier.{Tier}
use Rattle.routes.specs.declared.Tier.TheVariants.{Exact, AnyGroup, AnySource, Any}
use Rattle.routes.specs.Route.{nlri_of, attribute_of}
use Rattle.routes.specs.Matching.{Found, nothing, found}

-- what an install answers besides DONE: the NLRI was not held
abbrev pub NEW : ℕ
NEW = 1

-- the NLRI was held, and has this attribute now
abbrev pub REPLACED : ℕ
REPLACED = 2

-- a refusal's number and empty fields
abbrev pub refused_install : ℕ → Installed
refused_install number = record { number = number; outcome = 0 }

-- DONE with "new" or "replaced"
abbrev pub done_install : ℕ → Installed
done_install outcome = record { number = DONE; outcome = outcome }

-- the number of what an install did
abbrev pub installation_number : Installation → ℕ
installation_number New = NEW
installation_number Replaced = REPLACED

-- what an install answers, by a result
abbrev pub installed_by : Result Installation Refusal → Installed
installed_by (Ok installation) = done_install (installation_number installation)
installed_by (Err refusal) = refused_install (refusal_number refusal)

-- what an install answers
unfoldable pub installed_of : Outcome ℕ → Installed
installed_of outcome = on_outcome refused_install done_install outcome

-- a refusal's number and empty fields
abbrev pub refused_restart : ℕ → Restarted
refused_restart number = record { number = number; gone = 0 }

-- what a mark or sweep answers: DONE with how many went
unfoldable pub restarted_of : Outcome ℕ → Restarted
restarted_of outcome = on_outcome refused_restart (λ gone. record { number = DONE; gone = gone }) outcome

-- what a mark or sweep answers, by a result
abbrev pub restarted_by : Result ℕ Refusal → Restarted
restarted_by (Ok gone) = record { number = DONE; gone = gone }
restarted_by (Err refusal) = refused_restart (refusal_number refusal)

-- a number and empty fields: of a refusal, and DONE where no route matches
abbrev pub empty_match : ℕ → Matched
empty_match number = record { number = number; tier = 0; nlri_size = 0; attribute_size = 0 }

-- the number of a tier
abbrev pub tier_number : Tier → ℕ
tier_number Exact = 1
tier_number AnyGroup = 2
tier_number AnySource = 3
tier_number Any = 4

-- what a match answers, by a result
abbrev pub matched_told : Result (Option MatchedRoute) Refusal → Matched
matched_told (Ok (Some route)) = record { number = DONE; tier = tier_number route.tier; nlri_size = route.nlri_size; attribute_size = route.attribute_size }
matched_told (Ok None) = empty_match DONE
matched_told (Err refusal) = empty_match (refusal_number refusal)

-- DONE with the tier and both sizes
unfoldable pub found_answer : Found → Matched
found_answer nothing = empty_match DONE
found_answer (found tier r) = record { number = DONE; tier = tier; nlri_size = length (nlri_of r); attribute_size = length (attribute_of r) }

-- NLRI and attribute at the front of the output, one straight after the other; where no route matches, the output as it was
unfoldable pub found_output : Found → List ℕ → List ℕ
found_output nothing output = output
found_output (found tier r) output = front (nlri_of r ++ attribute_of r) output

-- what a match answers, and the output afterwards; a refusal leaves it
unfoldable pub matched_by : Outcome Found → (output : List ℕ) → Changed Matched
matched_by outcome output =
    record { answer = on_outcome empty_match found_answer outcome; octets = on_outcome (λ number. output) (λ f. found_output f output) outcome }
