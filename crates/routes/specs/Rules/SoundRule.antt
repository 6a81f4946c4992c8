-- What a sound table is, octet by octet, and what it holds (document 01, "The table memory"). Stated here, proved in
-- proofs/Statements/SoundRule.antt.
use Rattle.std.specs.Prelude.{ℕ, ◌+◌, ◌*◌, ◌≤◌, ◌<◌, ◌≡◌, true, false, List, [], ◌∷◌, ◌++◌, ◌↔◌, length, get_or, take, eqb}
use Rattle.octets.specs.Octets.{part}
use Rattle.octets.specs.Order.{before, zeros}
use Rattle.routes.specs.Route.{Route, entry}
use Rattle.routes.specs.Table.{afi_in, places_in, routes_of, sound_of}
use Rattle.routes.specs.Rules.ArgumentRules.{KnownFamily, SPmsi, Labelled}

-- a table's size: 8 octets and 0 to 500 places of 128
pub record TableSize (size : ℕ) : Type 0 where
  pub places : ℕ
  pub most : places ≤ 500
  pub is : size ≡ 8 + 128 * places

-- the count in 16 bits
abbrev pub count_at : (t : List ℕ) → ℕ
count_at t = 256 * get_or t 6 0 + get_or t 7 0

-- the NLRI of the place from `at` on: of so many octets as the place's first says, behind both sizes
abbrev pub nlri_in_place : (t : List ℕ) (at : ℕ) → List ℕ
nlri_in_place t at = part t (at + 2) (get_or t at 0)

-- its attribute: of so many octets as the place's second says, straight after the NLRI
abbrev pub attribute_in_place : (t : List ℕ) (at : ℕ) → List ℕ
attribute_in_place t at = part t (at + 2 + get_or t at 0) (get_or t (at + 1) 0)

-- its route, marked stale where the place's last octet is 1
abbrev pub route_in_place : (t : List ℕ) (at : ℕ) → Route
route_in_place t at = entry (nlri_in_place t at) (attribute_in_place t at) (eqb (get_or t (at + 127) 0) 1)

-- the 128 octets from `at` on are a taken place
pub record PlaceHolds (afi : ℕ) (t : List ℕ) (at : ℕ) : Type 0 where
  -- both sizes, the NLRI and the attribute fit it, before its last octet
  pub fits : 2 + get_or t at 0 + get_or t (at + 1) 0 ≤ 127
  -- a type 3 NLRI that install would accept
  pub named : SPmsi afi (nlri_in_place t at)
  -- an attribute that install would accept
  pub labelled : Labelled (attribute_in_place t at)
  -- then zeros
  pub filled : (i : ℕ) → 2 + get_or t at 0 + get_or t (at + 1) 0 ≤ i → i < 127 → get_or t (at + i) 0 ≡ 0
  -- and as the last octet the mark, 0 or 1 (request W-208)
  pub marked : get_or t (at + 127) 0 ≤ 1

-- sound; the place with number i, from 0 on, begins at 8 + 128 * i
pub record Sound (t : List ℕ) : Type 0 where
  -- size 8 plus a multiple of 128 in that limit
  pub size : TableSize (length t)
  -- "MVT", version 1 in 16 bits
  pub version : take 5 t ≡ 77 ∷ (86 ∷ (84 ∷ (0 ∷ (1 ∷ []))))
  -- AFI 1 or 2
  pub family : KnownFamily (get_or t 5 0)
  -- count not over the places
  pub within : count_at t ≤ size.places
  -- the first so many places each hold a route
  pub held : (i : ℕ) → i < count_at t → PlaceHolds (get_or t 5 0) t (8 + 128 * i)
  -- NLRIs strictly increasing
  pub increasing : (i : ℕ) → i + 1 < count_at t → before (nlri_in_place t (8 + 128 * i)) (nlri_in_place t (8 + 128 * (i + 1))) ≡ true
  -- everything after them zero
  pub free : (i : ℕ) → 8 + 128 * count_at t ≤ i → get_or t i 0 ≡ 0

-- soundness, and what a sound table says and holds
pub record SoundRule : Type 0 where
  -- the test of a table holds exactly of those that are sound
  pub exactly : (t : List ℕ) → (sound_of t ≡ true) ↔ Sound t
  -- its family, its places, and as many routes as the count
  pub family : (t : List ℕ) → Sound t → afi_in t ≡ get_or t 5 0
  pub places : (t : List ℕ) → Sound t → length t ≡ 8 + 128 * places_in t
  pub count : (t : List ℕ) → Sound t → length (routes_of t) ≡ count_at t
  -- route number i is the one in place number i; what stands for a missing route does not matter
  pub routes : (t : List ℕ) → Sound t → (missing : Route) (i : ℕ) → i < count_at t → get_or (routes_of t) i missing ≡ route_in_place t (8 + 128 * i)

-- a table of AFI 1 with two places, octet by octet, and six octets to choose: the version's, the count's, the last of a BIER attribute's label
-- field, the one behind that attribute, and the last two of the first place. The NLRI there is (C-*,C-*) with RD 100:7 and originator 10.0.0.1
unfoldable pub small_table : (version count label behind free mark : ℕ) → List ℕ
small_table version count label behind free mark =
    77 ∷ 86 ∷ 84 ∷ 0 ∷ version ∷ 1 ∷ 0 ∷ count
    ∷ 16 ∷ 12
    ∷ 3 ∷ 14 ∷ 0 ∷ 0 ∷ 0 ∷ 100 ∷ 0 ∷ 0 ∷ 0 ∷ 7 ∷ 0 ∷ 0 ∷ 10 ∷ 0 ∷ 0 ∷ 1
    ∷ 0 ∷ 11 ∷ 0 ∷ 0 ∷ label ∷ 0 ∷ 0 ∷ 1 ∷ 10 ∷ 0 ∷ 0 ∷ 2
    ∷ behind ∷ (zeros 95 ++ (free ∷ mark ∷ zeros 128))

-- version 1, one route, label 1, zeros behind it, and 0 or 1 as its mark: sound, with this route; each of the others differs from it in one octet,
-- and is not sound
pub record SoundExamples : Type 0 where
  -- what it is, says and holds
  pub sound : sound_of (small_table 1 1 16 0 0 0) ≡ true
  pub family : afi_in (small_table 1 1 16 0 0 0) ≡ 1
  pub places : places_in (small_table 1 1 16 0 0 0) ≡ 2
  pub routes : routes_of (small_table 1 1 16 0 0 0)
      ≡ entry (3 ∷ 14 ∷ 0 ∷ 0 ∷ 0 ∷ 100 ∷ 0 ∷ 0 ∷ 0 ∷ 7 ∷ 0 ∷ 0 ∷ 10 ∷ 0 ∷ 0 ∷ 1 ∷ []) (0 ∷ 11 ∷ 0 ∷ 0 ∷ 16 ∷ 0 ∷ 0 ∷ 1 ∷ 10 ∷ 0 ∷ 0 ∷ 2 ∷ []) false ∷ []
  -- with mark 1 it holds the same route, marked
  pub sound_marked : sound_of (small_table 1 1 16 0 0 1) ≡ true
  pub marked : routes_of (small_table 1 1 16 0 0 1)
      ≡ entry (3 ∷ 14 ∷ 0 ∷ 0 ∷ 0 ∷ 100 ∷ 0 ∷ 0 ∷ 0 ∷ 7 ∷ 0 ∷ 0 ∷ 10 ∷ 0 ∷ 0 ∷ 1 ∷ []) (0 ∷ 11 ∷ 0 ∷ 0 ∷ 16 ∷ 0 ∷ 0 ∷ 1 ∷ 10 ∷ 0 ∷ 0 ∷ 2 ∷ []) true ∷ []
  -- version 2
  pub other_version : sound_of (small_table 2 1 16 0 0 0) ≡ false
  -- count 0 though a place is taken, 2 though the second is not, 3 though there are two
  pub uncounted : sound_of (small_table 1 0 16 0 0 0) ≡ false
  pub untaken : sound_of (small_table 1 2 16 0 0 0) ≡ false
  pub overcounted : sound_of (small_table 1 3 16 0 0 0) ≡ false
  -- BIER with label 0
  pub unlabelled : sound_of (small_table 1 1 15 0 0 0) ≡ false
  -- an octet behind the route, the first or the last before the mark
  pub unfilled : sound_of (small_table 1 1 16 1 0 0) ≡ false
  pub unfilled_last : sound_of (small_table 1 1 16 0 1 0) ≡ false
  -- mark 2
  pub other_mark : sound_of (small_table 1 1 16 0 0 2) ≡ false
