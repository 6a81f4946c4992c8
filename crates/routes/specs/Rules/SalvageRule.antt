-- What holds of salvage (document 02, W-212), octet by octet, with examples. Stated here, proved in proofs/Statements/SalvageRule.antt.
use Rattle.std.specs.Prelude.{ℕ, suc, ◌+◌, ◌*◌, ◌≤◌, ◌<◌, ◌≡◌, List, [], ◌∷◌, ◌++◌, ◌↔◌, ◌≢◌, ◌⊎◌, length, get_or, take}
use Rattle.octets.specs.Numbers.{FAMILY, TABLE, SPACE}
use Rattle.octets.specs.Rules.Answering.{Answering}
use Rattle.octets.specs.Octets.{AllOctets, part}
use Rattle.octets.specs.Order.{zeros}
use Rattle.octets.specs.Lists.{Among}
use Rattle.routes.specs.Route.{Route}
use Rattle.routes.specs.Table.{routes_of}
use Rattle.routes.specs.Salvage.{Salvage, salvage_of}
use Rattle.routes.specs.Rules.ArgumentRules.{KnownFamily}
use Rattle.routes.specs.Rules.SoundRule.{TableSize, count_at, nlri_in_place, route_in_place, PlaceHolds, Sound, small_table}

-- where the place of a number, from 0 on, begins
abbrev pub place_start : (number : ℕ) → ℕ
place_start number = 8 + 128 * number

-- a place of zeros
abbrev pub ZeroPlace : (memory : List ℕ) → (number : ℕ) → Type 0
ZeroPlace memory number = (i : ℕ) → i < 128 → get_or memory (place_start number + i) 0 ≡ 0

-- a place that is good by itself: what a sound table of this family has in a taken place
abbrev pub GoodPlace : (afi : ℕ) → (memory : List ℕ) → (number : ℕ) → Type 0
GoodPlace afi memory number = PlaceHolds afi memory (place_start number)

-- a place that is kept: it is good, and no good place before it has its NLRI
pub record KeptPlace (afi : ℕ) (memory : List ℕ) (number : ℕ) : Type 0 where
  pub good : GoodPlace afi memory number
  pub first : (earlier : ℕ) → earlier < number → GoodPlace afi memory earlier → nlri_in_place memory (place_start earlier) ≢ nlri_in_place memory (place_start number)

-- what becomes of a place, by numbers of which 1 and 2 are the reasons of the list: 0 it is all zero, 1 bad, 2 it repeats the NLRI of a place before it
-- that is kept, 3 it is kept
pub data Fate (afi : ℕ) (memory : List ℕ) (number : ℕ) : ℕ → Type 0 where
  zeroed : ZeroPlace memory number → Fate afi memory number 0
  bad : (ZeroPlace memory number → ⊥) → (GoodPlace afi memory number → ⊥) → Fate afi memory number 1
  repeated : GoodPlace afi memory number → (earlier : ℕ) → earlier < number → KeptPlace afi memory earlier → nlri_in_place memory (place_start earlier) ≡ nlri_in_place memory (place_start number)
      → Fate afi memory number 2
  kept : KeptPlace afi memory number → Fate afi memory number 3

-- the list after the first so many places, and how many it has: in its turn each that is bad or repeated, its number in 16 bits and the reason
pub data ListUpto (afi : ℕ) (memory : List ℕ) : (number : ℕ) → (octets : List ℕ) → (count : ℕ) → Type 0 where
  start : ListUpto afi memory 0 [] 0
  passed : {number count : ℕ} {octets : List ℕ} → ListUpto afi memory number octets count → Fate afi memory number 0 ⊎ Fate afi memory number 3 → ListUpto afi memory (suc number) octets count
  listed : {number count reason : ℕ} {octets : List ℕ} (high low : ℕ) → ListUpto afi memory number octets count → (reason ≡ 1) ⊎ (reason ≡ 2) → Fate afi memory number reason
      → number ≡ 256 * high + low → low < 256 → ListUpto afi memory (suc number) (octets ++ (high ∷ (low ∷ (reason ∷ [])))) (suc count)

-- why salvage refuses: FAMILY, TABLE for the size, SPACE for a second buffer of another size, or for a list's of fewer than 3 octets a place
pub data SalvageRefusal (afi : ℕ) (damaged table list : List ℕ) : ℕ → Type 0 where
  no_family : afi ≢ 1 → afi ≢ 2 → SalvageRefusal afi damaged table list FAMILY
  bad_size : KnownFamily afi → (TableSize (length damaged) → ⊥) → SalvageRefusal afi damaged table list TABLE
  other_size : KnownFamily afi → TableSize (length damaged) → length table ≢ length damaged → SalvageRefusal afi damaged table list SPACE
  short_list : KnownFamily afi → (size : TableSize (length damaged)) → length table ≡ length damaged → length list < 3 * size.places → SalvageRefusal afi damaged table list SPACE

-- what salvage takes
pub record Salvageable (afi : ℕ) (damaged table list : List ℕ) : Type 0 where
  pub family : KnownFamily afi
  pub size : TableSize (length damaged)
  pub same : length table ≡ length damaged
  pub room : 3 * size.places ≤ length list

-- what a salvage that is done answers and leaves
pub record SalvageDone (afi : ℕ) (damaged table list : List ℕ) (due : Salvage) : Type 0 where
  pub takes : Salvageable afi damaged table list
  -- the second buffer is a sound table of that family
  pub sound : Sound due.table
  pub family : get_or due.table 5 0 ≡ afi
  pub table_size : length due.table ≡ length table
  -- which holds the routes of the places that are kept, with their marks, and no other; as many as told
  pub keeps : (r : Route) → Among r (routes_of due.table) ↔ ((number : ℕ) × (number < takes.size.places) × KeptPlace afi damaged number × (r ≡ route_in_place damaged (place_start number)))
  pub kept : due.answer.kept ≡ count_at due.table
  -- the list of the places that are dropped, as many as told, stands at the front of its buffer; every octet past it is as it was
  pub octets : List ℕ
  pub drops : ListUpto afi damaged takes.size.places octets due.answer.dropped
  pub listed : take (length octets) due.list ≡ octets
  pub past : (i : ℕ) → length octets ≤ i → get_or due.list i 0 ≡ get_or list i 0
  pub list_size : length due.list ≡ length list

-- a refusal has empty fields and changes no octet
pub record SalvageNothing (table list : List ℕ) (due : Salvage) : Type 0 where
  pub kept : due.answer.kept ≡ 0
  pub dropped : due.answer.dropped ≡ 0
  pub same_table : due.table ≡ table
  pub same_list : due.list ≡ list

-- salvage: each answer exactly when, and what it leaves
pub record SalvageRule : Type 0 where
  -- every place has a fate, and one only
  pub decided : (afi : ℕ) (memory : List ℕ) (number : ℕ) → (fate : ℕ) × Fate afi memory number fate
  pub one : (afi : ℕ) (memory : List ℕ) (number i j : ℕ) → Fate afi memory number i → Fate afi memory number j → i ≡ j
  -- as the call answers it
  pub answers : (afi : ℕ) (damaged table list : List ℕ)
      → Answering (salvage_of afi damaged table list).answer.number (SalvageRefusal afi damaged table list) (SalvageDone afi damaged table list (salvage_of afi damaged table list))
      (SalvageNothing table list (salvage_of afi damaged table list))
  -- a sound table of that family comes back unchanged, with an empty list
  pub unchanged : (afi : ℕ) (damaged table list : List ℕ) → AllOctets damaged → Salvageable afi damaged table list → Sound damaged → get_or damaged 5 0 ≡ afi
      → salvage_of afi damaged table list ≡ record { answer = record { number = 0; kept = count_at damaged; dropped = 0 }; table = damaged; list = list }
  -- and so does what salvage left
  pub again : (afi : ℕ) (damaged table list other buffer : List ℕ) → Salvageable afi damaged table list → Salvageable afi damaged other buffer
      → salvage_of afi (salvage_of afi damaged table list).table other buffer
      ≡ record { answer = record { number = 0; kept = (salvage_of afi damaged table list).answer.kept; dropped = 0 }; table = (salvage_of afi damaged table list).table; list = buffer }

-- two places of the same NLRI, the first marked, the second of another label, behind a header of zeros
unfoldable pub repeated_places : List ℕ
repeated_places = zeros 8 ++ (part (small_table 1 1 16 0 0 1) 8 128 ++ part (small_table 1 1 32 0 0 0) 8 128)

-- salvage of two places into buffers of 264 and 7 octets
abbrev pub salvage_of_two : (afi : ℕ) (damaged : List ℕ) → Salvage
salvage_of_two afi damaged = salvage_of afi damaged (zeros 264) (9 ∷ (9 ∷ (9 ∷ (9 ∷ (9 ∷ (9 ∷ (9 ∷ [])))))))

-- each of these is so, by computation; octets of 9 in the list's buffer are those that were there
pub record SalvageExamples : Type 0 where
  -- version 9 and a count of 7: the marked route is kept, and the list is empty
  pub header : salvage_of_two 1 (small_table 9 7 16 0 0 1)
      ≡ record { answer = record { number = 0; kept = 1; dropped = 0 }; table = small_table 1 1 16 0 0 1; list = 9 ∷ (9 ∷ (9 ∷ (9 ∷ (9 ∷ (9 ∷ (9 ∷ [])))))) }
  -- a count of 0: the place is looked at all the same
  pub uncounted : salvage_of_two 1 (small_table 1 0 16 0 0 0)
      ≡ record { answer = record { number = 0; kept = 1; dropped = 0 }; table = small_table 1 1 16 0 0 0; list = 9 ∷ (9 ∷ (9 ∷ (9 ∷ (9 ∷ (9 ∷ (9 ∷ [])))))) }
  -- BIER with label 0, and mark 2: place 0 is bad, and the empty place behind it is not listed
  pub unlabelled : (salvage_of_two 1 (small_table 1 1 15 0 0 0)).answer ≡ record { number = 0; kept = 0; dropped = 1 }
  pub other_mark : (salvage_of_two 1 (small_table 1 1 16 0 0 2)).list ≡ 0 ∷ (0 ∷ (1 ∷ (9 ∷ (9 ∷ (9 ∷ (9 ∷ []))))))
  -- of the same NLRI twice the first is kept, with its mark; place 1 is repeated
  pub repeated : salvage_of_two 1 repeated_places
      ≡ record { answer = record { number = 0; kept = 1; dropped = 1 }; table = small_table 1 1 16 0 0 1; list = 0 ∷ (1 ∷ (2 ∷ (9 ∷ (9 ∷ (9 ∷ (9 ∷ [])))))) }
  -- the AFI is the one given, and not the header's
  pub family : take 8 (salvage_of_two 2 (small_table 1 1 16 0 0 0)).table ≡ 77 ∷ (86 ∷ (84 ∷ (0 ∷ (1 ∷ (2 ∷ (0 ∷ (1 ∷ [])))))))
