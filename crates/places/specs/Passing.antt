-- Definitions that mirror the functions of the soundness pass; laws tie them to those of `routes`.
use Rattle.std.specs.Prelude.{ℕ, ◌+◌, ◌-◌, Bool, List, ltb, get_or}
use Rattle.octets.specs.Choice.{either}
use Rattle.octets.specs.Octets.{part}
use Rattle.octets.specs.Order.{before}
use Rattle.routes.specs.Place.{PLACE}

-- the NLRI of the place from `at` on comes after as many octets where the NLRI of the place before it starts; the first place has none before it
unfoldable pub rises_at : (at : ℕ) (table : List ℕ) → Bool
rises_at at table = either (ltb at PLACE) (before (part table (at - PLACE + 2) (get_or table at 0)) (part table (at + 2) (get_or table at 0)))
