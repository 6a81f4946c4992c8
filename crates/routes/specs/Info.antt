-- What a table says of itself: its family, its places, and how many routes are in them.
use Rattle.std.specs.Prelude.{ℕ, Result, Ok, Err, List, length}
use Rattle.octets.specs.Numbers.{DONE, TABLE}
use Rattle.octets.specs.Choice.{pick}
use Rattle.octets.specs.declared.refusal.Refusal.{Refusal}
use Rattle.octets.specs.Refusals.{refusal_number}
use Rattle.routes.specs.declared.TableContents.{TableContents}
use Rattle.routes.specs.declared.TableFacts.{TableFacts}
use Rattle.routes.specs.Table.{afi_in, places_in, routes_of, sound_of}

-- a refusal's number and empty fields
abbrev pub empty_info : ℕ → TableFacts
empty_info number = record { number = number; afi = 0; places = 0; routes = 0 }

-- what info answers, by a result
abbrev pub facts_by : Result TableContents Refusal → TableFacts
facts_by (Ok contents) = record { number = DONE; afi = contents.afi; places = contents.places; routes = contents.routes }
facts_by (Err refusal) = empty_info (refusal_number refusal)

-- TABLE; then what the table has
unfoldable pub info_of : (table : List ℕ) → TableFacts
info_of t = pick (sound_of t) (record { number = DONE; afi = afi_in t; places = places_in t; routes = length (routes_of t) }) (empty_info TABLE)
