-- Definitions that mirror the functions; laws tie them to those of the calls.
use Rattle.std.specs.Prelude.{ℕ, zero, suc, ◌+◌, ◌*◌, ◌≤◌, ◌≡◌, Bool, true, not, Option, Result, Ok, Err, List, [], ◌∷◌, ◌++◌, length, take, drop}
use Rattle.octets.specs.Numbers.{DONE, CONFLICT}
use Rattle.octets.specs.declared.refusal.Refusal.{Refusal}
use Rattle.octets.specs.Refusals.{refusal_number, result_number}
use Rattle.octets.specs.Lists.{Among}
use Rattle.octets.specs.Choice.{pick, both}
use Rattle.octets.specs.Order.{same}
use Rattle.nlri.specs.Fields.{encode_address}
use Rattle.nlri.specs.Standing.{standing}
use Rattle.routes.specs.Route.{route, nlri_of, Distinct}
use Rattle.routes.specs.Query.{Flow}
use Rattle.routes.specs.Place.{PLACE, end_in, route_in, place_of, place_sound}
use Rattle.routes.specs.Table.{routes_from}
use Rattle.matches.specs.declared.scan.Best.{Best}
use Rattle.matches.specs.Scanning.{best_in, Kept}
use Rattle.places.specs.Readable.{Readable}
use Rattle.plan.specs.declared.vrf.Vrf as vrf
use Rattle.plan.specs.Flows.{Vrf, vrf_of, ListedFlow, is_listed}
use Rattle.plan.specs.Refusing.{conflicts}
use Rattle.plan.specs.declared.Planned.{Planned}
use Rattle.plan.specs.Calls.{refused_plan, done_plan}
use Rattle.plan.specs.Judging.{matched, sound_places}

-- the VRF of the code
abbrev pub vrf_in : vrf.Vrf → Vrf
vrf_in v = vrf_of v.prefixes.now v.originator.now v.distinguisher.now

-- what a test answers of a flow has this number
abbrev pub Judges : (ListedFlow → Result Unit Refusal → Type 0) → (fault : ListedFlow → ℕ) → Type 0
Judges returns fault = (f : ListedFlow) (r : Result Unit Refusal) → returns f r → result_number r ≡ fault f

-- CONFLICT
unfoldable pub conflict_fault : List ListedFlow → ℕ
conflict_fault fs = pick (conflicts fs) CONFLICT DONE

-- The judge.

-- an NLRI has this originator and RD, by where they stand
unfoldable pub stands_as : (originator distinguisher nlri : List ℕ) → Bool
stands_as originator distinguisher nlri = both (same (standing nlri).originator originator) (same (standing nlri).distinguisher distinguisher)

-- a place is sound by itself, and its route has them
unfoldable pub own_good_place : (afi : ℕ) → (originator distinguisher place : List ℕ) → Bool
own_good_place afi originator distinguisher place = both (place_sound afi place) (stands_as originator distinguisher (nlri_of (route_in place)))

-- each of so many places is
unfoldable pub good_places : (afi : ℕ) → (originator distinguisher : List ℕ) → (count : ℕ) → List ℕ → Bool
good_places afi originator distinguisher zero s = true
good_places afi originator distinguisher (suc count) s = both (own_good_place afi originator distinguisher (take PLACE s)) (good_places afi originator distinguisher count (drop PLACE s))

-- the route in each of so many places ends within it
unfoldable pub EachEnds : (count : ℕ) → List ℕ → Type 0
EachEnds zero s = Unit {0}
EachEnds (suc count) s = (end_in (take PLACE s) ≤ PLACE) × EachEnds count (drop PLACE s)

-- so many sound places, with no NLRI twice
pub record Proposed (afi : ℕ) (places : List ℕ) (count : ℕ) : Type 0 where
  pub room : PLACE * count ≤ length places
  pub sound : sound_places afi count places ≡ true
  pub distinct : Distinct (routes_from count places)

-- the place that a flow's match takes, of so many
pub record BestFor (afi : ℕ) (flow : Flow) (places : List ℕ) (count : ℕ) (best : Option Best) : Type 0 where
  pub is : best_in places best ≡ matched afi flow (routes_from count places)
  pub stands : Kept (Readable places) best

-- The planner.

-- what the planner answers: DONE with how many routes, or the refusal's number and 0
abbrev pub planned_in : Result ℕ Refusal → Planned
planned_in (Ok routes) = done_plan routes
planned_in (Err refusal) = refused_plan (refusal_number refusal)

-- a flow has a route of its own: it wants another attribute, and is not listed again
unfoldable pub stands_out : List ℕ → ListedFlow → List ListedFlow → Bool
stands_out a f rest = both (not (same f.wanted a)) (not (is_listed f rest))

-- source, group and originator as an S-PMSI NLRI has them
unfoldable pub source_to_originator : (source group originator : List ℕ) → List ℕ
source_to_originator source group originator = encode_address source ++ (encode_address group ++ originator)

-- a whole S-PMSI NLRI by its fields
unfoldable pub planned_nlri : (distinguisher source group originator : List ℕ) → List ℕ
planned_nlri distinguisher source group originator = (3 ∷ ((length distinguisher + length (source_to_originator source group originator)) ∷ [])) ++ (distinguisher ++ source_to_originator source group originator)

-- the place of its route
unfoldable pub place_for : (distinguisher originator source group wanted : List ℕ) → List ℕ
place_for distinguisher originator source group wanted = place_of (route (planned_nlri distinguisher source group originator) wanted)

-- the sizes of a route's fields
pub record RouteSized (distinguisher originator source group wanted : List ℕ) : Type 0 where
  pub distinguished : length distinguisher ≡ 8
  pub originated : length originator ≤ 16
  pub sourced : length source ≤ 16
  pub grouped : length group ≤ 16
  pub attributed : length wanted ≤ 64

-- the sizes of a VRF's originator and RD
pub record VrfSized (distinguisher originator : List ℕ) : Type 0 where
  pub distinguished : length distinguisher ≡ 8
  pub originated : length originator ≤ 16

-- a flow whose route fits a place
pub record FlowSized (f : ListedFlow) : Type 0 where
  pub sourced : length f.source ≤ 16
  pub grouped : length f.group ≤ 16
  pub attributed : length f.wanted ≤ 64

-- each of these flows is one
abbrev pub AllSized : List ListedFlow → Type 0
AllSized fs = (f : ListedFlow) → Among f fs → FlowSized f

module _ (distinguisher originator a : List ℕ) where
  -- the place of a flow's own route, where it has one
  unfoldable pub own_place : ListedFlow → (rest : List ListedFlow) → List ℕ
  own_place f rest = pick (stands_out a f rest) (place_for distinguisher originator f.source f.group f.wanted) []

  -- those of the flows, one after the other
  unfoldable pub own_places : List ListedFlow → List ℕ
  own_places [] = []
  own_places (f ∷ fs) = own_place f fs ++ own_places fs

  -- behind that of the wildcards
  unfoldable pub all_places : List ListedFlow → List ℕ
  all_places fs = place_for distinguisher originator [] [] a ++ own_places fs

-- an output with room for such octets behind an octet
abbrev pub RoomFor : (at : ℕ) (octets output : List ℕ) → Type 0
RoomFor at octets output = at + length octets ≤ length output
