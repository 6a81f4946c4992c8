-- Definitions that mirror the pass of mark and sweep over a table's places; laws tie them to those of `routes`.
use Rattle.std.specs.Prelude.{ℕ, ◌+◌, ◌*◌, ◌≤◌, ◌≡◌, Bool, List, ◌++◌, eqb, length, get_or, take, drop}
use Rattle.octets.specs.Choice.{pick}
use Rattle.octets.specs.Octets.{part, placed}
use Rattle.octets.specs.Order.{same}
use Rattle.nlri.specs.Standing.{standing}
use Rattle.routes.specs.Place.{PLACE, MARK}
use Rattle.routes.specs.Table.{places_of, afi_in, routes_of}
use Rattle.routes.specs.Restart.{RestartCall, marking, sweeping, renewed}
use Rattle.changes.specs.declared.change.RouteMark.{RouteMark}
use Rattle.changes.specs.declared.change.RouteMark.TheVariants.{Fresh, Stale}
use Rattle.changes.specs.Changing.{remarked}
use Rattle.places.specs.Readable.{nlri_at}

-- the route in the place from `at` on is one of the router's
unfoldable pub own_at : (router table : List ℕ) (at : ℕ) → Bool
own_at router t at = same (standing (nlri_at t at)).originator router

-- it is marked
unfoldable pub stale_at : (table : List ℕ) (at : ℕ) → Bool
stale_at t at = eqb (get_or t (at + MARK) 0) 1

-- where those kept end after the place from `at` on: it goes, or is kept
unfoldable pub settled_end : (router table : List ℕ) (at to : ℕ) → ℕ
settled_end router t at to = pick (own_at router t at) (pick (stale_at t at) to (to + PLACE)) (to + PLACE)

-- the table then: it is kept at `to`, with this mark where it is one of the router's
unfoldable pub settled : (mark : ℕ) (router table : List ℕ) (at to : ℕ) → List ℕ
settled mark router t at to =
    pick (own_at router t at) (pick (stale_at t at) t (placed to (remarked mark (part t at PLACE)) t)) (placed to (part t at PLACE) t)

-- so many places are passed: those kept of them stand before `to`, the others as they were
pub record Renewing (which : RestartCall) (router t : List ℕ) (i to : ℕ) (s : List ℕ) : Type 0 where
  pub least : 8 ≤ to
  pub most : to ≤ 8 + 128 * i
  pub size : length s ≡ length t
  pub rest : drop (8 + 128 * i) s ≡ drop (8 + 128 * i) t
  pub is : take 8 t ++ places_of (renewed (afi_in t) which router (routes_of t)) ≡ take to s ++ places_of (renewed (afi_in t) which router (drop i (routes_of t)))

-- mark or sweep, by the mark that it leaves
abbrev pub restart_by : RouteMark → RestartCall
restart_by Fresh = sweeping
restart_by Stale = marking
