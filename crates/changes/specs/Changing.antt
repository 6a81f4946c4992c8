-- Definitions that mirror the functions that find and change places; laws tie them to those of `routes`.
use Rattle.std.specs.Prelude.{ℕ, Result, Ok, Err, ◌≡◌, suc, ◌+◌, ◌-◌, ◌*◌, Bool, true, false, List, [], ◌∷◌, ◌++◌, take, drop}
use Rattle.octets.specs.Octets.{part, placed}
use Rattle.octets.specs.Choice.{pick}
use Rattle.octets.specs.Order.{same, before, zeros}
use Rattle.routes.specs.Route.{Route, nlri_of}
use Rattle.routes.specs.Place.{PLACE, MARK}
use Rattle.changes.specs.declared.change.RouteMark.{RouteMark}
use Rattle.changes.specs.declared.change.RouteMark.TheVariants.{Fresh, Stale}
use Rattle.routes.specs.Table.{HEADER, header_of, afi_in}

-- how many routes at the front have an NLRI that comes before this one
unfoldable pub rank : (nlri : List ℕ) → List Route → ℕ
rank nlri [] = 0
rank nlri (q ∷ rs) = pick (before (nlri_of q) nlri) (suc (rank nlri rs)) 0

-- the first route has this NLRI
unfoldable pub first_is : (nlri : List ℕ) → List Route → Bool
first_is nlri [] = false
first_is nlri (q ∷ rs) = same nlri (nlri_of q)

-- what a search for an NLRI answers: the index where its route stands, or that where such a route belongs
abbrev pub Searched : (nlri : List ℕ) → List Route → Result ℕ ℕ → Type 0
Searched nlri rs (Ok index) = (index ≡ rank nlri rs) × (first_is nlri (drop index rs) ≡ true)
Searched nlri rs (Err index) = (index ≡ rank nlri rs) × (first_is nlri (drop index rs) ≡ false)

-- the octets from `start` to `end` moved up by one place, the last place of them falling off
unfoldable pub opened : (start end : ℕ) → List ℕ → List ℕ
opened start end t = take start t ++ (part t start PLACE ++ (part t start (end - start - PLACE) ++ drop end t))

-- the octets from `start` to `end` moved down by one place, and zeros in the last place of them
unfoldable pub closed : (start end : ℕ) → List ℕ → List ℕ
closed start end t = take start t ++ (part t (start + PLACE) (end - start - PLACE) ++ (zeros PLACE ++ drop end t))

-- the place of an index written over
unfoldable pub replaced_at : (index : ℕ) (place table : List ℕ) → List ℕ
replaced_at index place t = placed (HEADER + PLACE * index) place t

-- a gap of one place at an index, before the other places from there on, and the count one more
unfoldable pub opened_at : (index count : ℕ) (table : List ℕ) → List ℕ
opened_at index count t = opened (HEADER + PLACE * index) (HEADER + PLACE * (count + 1)) (header_of (afi_in t) (count + 1) ++ drop HEADER t)

-- a place put in at an index, before the other places from there on
unfoldable pub added_at : (index count : ℕ) (place table : List ℕ) → List ℕ
added_at index count place t = replaced_at index place (opened_at index count t)

-- the place of an index taken out
unfoldable pub taken_at : (index count : ℕ) (table : List ℕ) → List ℕ
taken_at index count t = header_of (afi_in t) (count - 1) ++ drop HEADER (closed (HEADER + PLACE * index) (HEADER + PLACE * count) t)

-- the number of each mark
abbrev pub mark_number : RouteMark → ℕ
mark_number Fresh = 0
mark_number Stale = 1

-- a place with another mark
unfoldable pub remarked : (mark : ℕ) (place : List ℕ) → List ℕ
remarked mark place = take MARK place ++ (mark ∷ [])
