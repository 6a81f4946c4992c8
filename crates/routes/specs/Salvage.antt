-- Salvage of a damaged table (document 02, W-212): every place is looked at, whatever the header and its count say. Which routes are kept, which places
-- are dropped and why, and what the call answers and leaves.
use Rattle.std.specs.Prelude.{ℕ, Result, Ok, Err, Option, Some, None, zero, suc, ◌+◌, ◌*◌, ◌≡◌, List, [], ◌∷◌, ◌++◌, length, ltb, eqb}
use Rattle.octets.specs.Numbers.{DONE, TABLE, SPACE}
use Rattle.octets.specs.Choice.{pick}
use Rattle.octets.specs.Outcome.{Outcome, given, refused, on_outcome, unless, and_then}
use Rattle.octets.specs.Octets.{part, front, big_endian}
use Rattle.octets.specs.Order.{all_zero}
use Rattle.nlri.specs.Family.{family_bits}
use Rattle.octets.specs.declared.refusal.Refusal.{Refusal}
use Rattle.octets.specs.Refusals.{refusal_number}
use Rattle.routes.specs.declared.DropReason.{DropReason}
use Rattle.routes.specs.declared.DropReason.TheVariants.{Bad, Repeated}
use Rattle.routes.specs.declared.SalvageCounts.{SalvageCounts}
use Rattle.routes.specs.declared.Salvaged.{Salvaged}
use Rattle.routes.specs.Route.{Route, nlri_of, holds, arranged}
use Rattle.routes.specs.Place.{PLACE, route_in, place_sound}
use Rattle.routes.specs.Table.{HEADER, image_of, places_in, table_size}

-- the place of a number, from 0
unfoldable pub place_at : (memory : List ℕ) (number : ℕ) → List ℕ
place_at memory number = part memory (HEADER + PLACE * number) PLACE

-- the routes of those of the first so many places that are good by themselves under the AFI given, with their marks, in place order
unfoldable pub good_of : (afi : ℕ) (memory : List ℕ) (count : ℕ) → List Route
good_of afi memory zero = []
good_of afi memory (suc count) = good_of afi memory count ++ pick (place_sound afi (place_at memory count)) (route_in (place_at memory count) ∷ []) []

-- those that are kept, in increasing order of NLRIs: of equal NLRIs the first
unfoldable pub kept_routes : (afi : ℕ) (memory : List ℕ) (count : ℕ) → List Route
kept_routes afi memory count = arranged (good_of afi memory count)

-- why a place is dropped: it is bad,
abbrev pub BAD : ℕ
BAD = 1

-- or it repeats the NLRI of a good place before it
abbrev pub REPEATED : ℕ
REPEATED = 2

-- the octet of each
abbrev pub drop_octet : DropReason → ℕ
drop_octet Bad = BAD
drop_octet Repeated = REPEATED

-- the same; 0 for no reason
abbrev pub drop_octet_or_0 : Option DropReason → ℕ
drop_octet_or_0 (Some reason) = drop_octet reason
drop_octet_or_0 None = 0

-- the reason of a place behind places with these good routes; 0 for one that is kept and for an all-zero one
unfoldable pub reason_of : (afi : ℕ) (place : List ℕ) (earlier : List Route) → ℕ
reason_of afi place earlier = pick (place_sound afi place) (pick (holds (nlri_of (route_in place)) earlier) REPEATED 0) (pick (all_zero place) 0 BAD)

-- the reason of the place of a number
unfoldable pub reason_at : (afi : ℕ) (memory : List ℕ) (number : ℕ) → ℕ
reason_at afi memory number = reason_of afi (place_at memory number) (good_of afi memory number)

-- a place that is dropped, by its number and the reason
pub data Dropped : Type 0 where
  dropped : (number reason : ℕ) → Dropped

-- those among the first so many places, in place order
unfoldable pub dropped_of : (afi : ℕ) (memory : List ℕ) (count : ℕ) → List Dropped
dropped_of afi memory zero = []
dropped_of afi memory (suc count) = dropped_of afi memory count ++ pick (eqb (reason_at afi memory count) 0) [] (dropped count (reason_at afi memory count) ∷ [])

-- its octets in the list: the number in 16 bits, and the reason
unfoldable pub dropped_octets : Dropped → List ℕ
dropped_octets (dropped number reason) = big_endian 2 number ++ (reason ∷ [])

-- the list
unfoldable pub list_of : List Dropped → List ℕ
list_of [] = []
list_of (d ∷ ds) = dropped_octets d ++ list_of ds

-- what salvage answers, and what is then in the second buffer and in the list's
pub record Salvage : Type 0 where
  pub answer : Salvaged
  pub table : List ℕ
  pub list : List ℕ

-- a call of which this is due answers r and leaves these octets in the two buffers
abbrev pub LeavesBoth : Salvage → Salvaged → (table list : List ℕ) → Type 0
LeavesBoth due r table list = (r ≡ due.answer) × (table ≡ due.table) × (list ≡ due.list)

-- a refusal's number and empty fields
abbrev pub empty_salvage : ℕ → Salvaged
empty_salvage number = record { number = number; kept = 0; dropped = 0 }

-- what salvage answers, by a result
abbrev pub salvaged_by : Result SalvageCounts Refusal → Salvaged
salvaged_by (Ok counts) = record { number = DONE; kept = counts.kept; dropped = counts.dropped }
salvaged_by (Err refusal) = empty_salvage (refusal_number refusal)

-- how many places there are. FAMILY; TABLE for the size; SPACE for a second buffer of another size, or a list's of fewer than 3 octets a place
unfoldable pub salvage_outcome : (afi : ℕ) (damaged table list : List ℕ) → Outcome ℕ
salvage_outcome afi damaged table list =
    and_then (family_bits afi) (λ bits.
    unless (table_size (length damaged)) TABLE
    (unless (eqb (length table) (length damaged)) SPACE
    (pick (ltb (length list) (3 * places_in damaged)) (refused SPACE) (given (places_in damaged)))))

-- the image of what is kept, and each place dropped at the front of the list's buffer; a refusal leaves both buffers as they were
unfoldable pub salvage_of : (afi : ℕ) (damaged table list : List ℕ) → Salvage
salvage_of afi damaged table list =
    on_outcome (λ number. record { answer = empty_salvage number; table = table; list = list })
    (λ places.
    record {
      answer = record { number = DONE; kept = length (kept_routes afi damaged places); dropped = length (dropped_of afi damaged places) };
      table = image_of afi places (kept_routes afi damaged places);
      list = front (list_of (dropped_of afi damaged places)) list;
    })
    (salvage_outcome afi damaged table list)
