-- The best place that the scan finds holds the route that the match's rule takes.
use Prim.Native.Nat.{ℕ, zero, suc, ◌+◌, ◌*◌, ◌≤◌, ◌<◌}
use mathlib.Core.Path.{◌≡◌, refl, sym, ◌∙◌, ap, ap₂, subst}
use mathlib.Core.Bool.{Bool, true, false}
use mathlib.Core.List.{List}
use native.Mathlib.Omega.{arith}
use lib.Dec.{ltb, eqb}
use lib.ListN.{length, drop}
use lib.Seq.{drop-drop}
use Rattle.octets.specs.Choice.{pick, both, either}
use Rattle.octets.specs.Outcome.{given}
use Rattle.octets.specs.Octets.{part}
use Rattle.octets.specs.Order.{before}
use Rattle.routes.specs.Route.{Route, Distinct}
use Rattle.routes.specs.Query.{Query}
use Rattle.routes.specs.Place.{route_in}
use Rattle.routes.specs.Table.{afi_in, count_in, routes_from, routes_of, sound_of}
use Rattle.routes.specs.Matching.{names_tunnel, distinguisher_of, Found, found, match_in}
use Rattle.routes.specs.declared.Matched.{Matched}
use Rattle.routes.specs.Answers.{matched_by}
use Rattle.routes.specs.OnePass.{tier_of, ahead, against, better, scanned}
use Rattle.routes.proofs.Definitions.Increases.{distinct-increasing}
use Rattle.routes.proofs.Definitions.Matching.OnePass.{one-pass}
use Rattle.matches.specs.declared.scan.Best.{Best}
use Rattle.nlri.specs.Standing.{standing}
use Rattle.std.proofs.Common.{Option, None, Some}
use Rattle.routes.specs.declared.Tier.{Tier}
use Rattle.routes.specs.declared.Tier.TheVariants.{Exact, AnyGroup, AnySource, Any}
use Rattle.routes.specs.Answers.{tier_number}
use Rattle.matches.specs.Scanning.{Sought, tier_or_0, tier_at, ahead_at, ahead_of, better_by, better_at, scan_at, best_in, Kept, Answerable, open_query}
use Rattle.places.specs.Readable.{nlri_at, Readable}
use Rattle.octets.specs.Outputs.{Leaves}
use Rattle.matches.specs.declared.tier.Tiers.{Tiers}
use Rattle.matches.proofs.Tiers.{tier-stands, distinguisher-stands}
use Rattle.places.proofs.Taken.{Taken, route-accepted, taken-readable, taken-writable, table-places-taken}
use Rattle.matches.proofs.Scans.{better-kept, place_here, places-next}
use native.Mathlib.Nat.{zero-add}
use Rattle.routes.proofs.Statements.Images.{sound-holdable}

best-picked : (t : List ℕ) (b : Bool) (x y : Option Best) → best_in t (pick b x y) ≡ pick b (best_in t x) (best_in t y)
unfolding pick
best-picked t true x y = refl
best-picked t false x y = refl

-- a route of a tier is better than one of none
better-some : (afi : ℕ) (tier : Tier) (r : Route) (best : Found) → better afi (tier_number tier) r best ≡ against afi (tier_number tier) r best
unfolding better pick
better-some afi Exact r best = refl
better-some afi AnyGroup r best = refl
better-some afi AnySource r best = refl
better-some afi Any r best = refl

better-none : (afi : ℕ) (r : Route) (best : Found) → better afi 0 r best ≡ best
unfolding better pick
better-none afi r best = refl

pick-same : (b : Bool) (n : ℕ) → pick b n n ≡ n
unfolding pick
pick-same true n = refl
pick-same false n = refl

-- the route in the place that starts at an octet of the table
route_from : List ℕ → ℕ → Route
route_from t at = route_in (part t at 128)

module _ (afi : ℕ) (sought : Sought) (tiers : Tiers) (source : 0 < length sought.source) (group : 0 < length sought.group) (t : List ℕ) where
  -- what is asked
  abbrev q : Query
  q = open_query sought tiers

  tier-here : (at : ℕ) → Taken afi t at → pick (names_tunnel (route_from t at)) (tier_or_0 (tier_at sought tiers (nlri_at t at))) 0 ≡ tier_of afi q (route_from t at)
  unfolding nlri_at route_from
  tier-here at taken = let a = route-accepted afi t at taken in tier-stands afi (route_in (part t at 128)) a.fields a.read sought tiers source group

  distinguisher-here : (at : ℕ) → Taken afi t at → (standing (nlri_at t at)).distinguisher ≡ distinguisher_of afi (route_from t at)
  unfolding nlri_at route_from
  distinguisher-here at taken = let a = route-accepted afi t at taken in sym (distinguisher-stands afi (route_in (part t at 128)) a.fields a.read)

  ahead-here : (tier : Tier) (at : ℕ) (best : Best) → Taken afi t at → Taken afi t best.start
      → ahead_at t tier at best ≡ ahead afi (tier_number tier) (route_from t at) (tier_number best.tier) (route_from t best.start)
  unfolding ahead_at ahead
  ahead-here tier at best new old =
      ap₂ (λ (x y : List ℕ). either (ltb (tier_number tier) (tier_number best.tier)) (both (eqb (tier_number tier) (tier_number best.tier)) (before x y))) (distinguisher-here at new) (distinguisher-here best.start old)

  -- one step, where the route has a tier
  against-here : (tier : Tier) (at : ℕ) (best : Option Best) → Taken afi t at → Kept (Taken afi t) best
      → best_in t (ahead_of t tier at best) ≡ against afi (tier_number tier) (route_from t at) (best_in t best)
  unfolding ahead_of against best_in route_from
  against-here tier at None new old = refl
  against-here tier at (Some best) new old =
      best-picked t _ _ _ ∙ ap (λ (b : Bool). pick b (found (tier_number tier) (route_from t at)) (found (tier_number best.tier) (route_from t best.start))) (ahead-here tier at best new old)

  -- and by whether it names a tunnel
  named_here : (tier : Tier) (at : ℕ) (best : Option Best) (named : Bool) → Taken afi t at → Kept (Taken afi t) best
      → best_in t (pick named (ahead_of t tier at best) best) ≡ better afi (pick named (tier_number tier) 0) (route_from t at) (best_in t best)
  unfolding pick
  named_here tier at best true new old = against-here tier at best new old ∙ sym (better-some afi tier (route_from t at) (best_in t best))
  named_here tier at best false new old = sym (better-none afi (route_from t at) (best_in t best))

  by-tier : (tier : Option Tier) (at : ℕ) (best : Option Best) → Taken afi t at → Kept (Taken afi t) best
      → best_in t (better_by t tier at best) ≡ better afi (pick (names_tunnel (route_from t at)) (tier_or_0 tier) 0) (route_from t at) (best_in t best)
  unfolding better_by route_from
  by-tier None at best new old = sym (better-none afi (route_from t at) (best_in t best)) ∙ ap (λ (n : ℕ). better afi n (route_from t at) (best_in t best)) (sym (pick-same (names_tunnel (route_from t at)) 0))
  by-tier (Some tier) at best new old = named_here tier at best (names_tunnel (route_from t at)) new old

  better-here : (at : ℕ) (best : Option Best) → Taken afi t at → Kept (Taken afi t) best
      → best_in t (better_at sought tiers t best at) ≡ better afi (tier_of afi q (route_from t at)) (route_from t at) (best_in t best)
  better-here at best new old = by-tier (tier_at sought tiers (nlri_at t at)) at best new old ∙ ap (λ (n : ℕ). better afi n (route_from t at) (best_in t best)) (tier-here at new)

  -- so many places from `at` on
  scan-here : (count at : ℕ) (best : Option Best) → ((k : ℕ) → k < count → Taken afi t (at + 128 * k)) → Kept (Taken afi t) best
      → (best_in t (scan_at sought tiers t count at best) ≡ scanned afi q (best_in t best) (routes_from count (drop at t)))
      × Kept (Taken afi t) (scan_at sought tiers t count at best)
  unfolding scan_at scanned routes_from route_from part
  scan-here zero at best all old = (refl, old)
  scan-here (suc count) at best all old =
      let new : Taken afi t at = place_here (Taken afi t) (suc count) at all (omega arith) in
      let next : Option Best = better_at sought tiers t best at in
      let rest = scan-here count (at + 128) next (λ k h. places-next (Taken afi t) (suc count) at all (omega arith) k (omega arith)) (better-kept (Taken afi t) t (tier_at sought tiers (nlri_at t at)) at best old new) in
      (rest.0 ∙ ap₂ (λ (f : Found) (s : List ℕ). scanned afi q f (routes_from count s)) (better-here at best new old) (sym (drop-drop 128 at t)), rest.1)

kept-map : (P Q : ℕ → Type 0) (best : Option Best) → ((start : ℕ) → P start → Q start) → Kept P best → Kept Q best
kept-map P Q None f h = tt
kept-map P Q (Some best) f h = f best.start h

-- what a scan of places finds is the match over their routes, of which no two have one NLRI; where it finds a route, its place is taken
module _ (afi : ℕ) (sought : Sought) (tiers : Tiers) (sourced : 0 < length sought.source) (grouped : 0 < length sought.group) (places : List ℕ) (count : ℕ)
    (taken : (k : ℕ) → k < count → Taken afi places (128 * k)) (best : Option Best) (scans : best ≡ scan_at sought tiers places count 0 None) where
  whole : (best_in places (scan_at sought tiers places count 0 None) ≡ scanned afi (open_query sought tiers) (best_in places None) (routes_from count places))
      × Kept (Taken afi places) (scan_at sought tiers places count 0 None)
  whole = scan-here afi sought tiers sourced grouped places count 0 None (λ k h. subst (Taken afi places) (sym (zero-add (128 * k))) (taken k h)) tt

  pub scan-matches : Distinct (routes_from count places) → best_in places best ≡ match_in afi (open_query sought tiers) (routes_from count places)
  unfolding best_in
  scan-matches distinct =
      ap (best_in places) scans ∙ whole.0 ∙ ap (λ (f : Found). scanned afi (open_query sought tiers) f (routes_from count places)) refl
      ∙ one-pass afi (open_query sought tiers) (routes_from count places) distinct

  pub scan-taken : Kept (Taken afi places) best
  scan-taken = subst (Kept (Taken afi places)) (sym scans) whole.1

  pub scan-answerable : (output : List ℕ) → 124 ≤ length output → Answerable places best output
  scan-answerable output room = kept-map (Taken afi places) _ best (λ start at. (at.within, taken-writable afi places start at output room)) scan-taken

-- the places of a sound table
module _ (t : List ℕ) (is : sound_of t ≡ true) (count : ℕ) (counted : count ≡ count_in t) (places : List ℕ) (behind : places ≡ drop 8 t) where
  all-taken : (k : ℕ) → k < count → Taken (afi_in t) places (128 * k)
  all-taken = rw (counted, behind) (table-places-taken t is)

  pub scan-ready : (k : ℕ) → k < count → Readable places (128 * k)
  scan-ready k h = taken-readable (afi_in t) places (128 * k) (all-taken k h)

  module _ (sought : Sought) (tiers : Tiers) (sourced : 0 < length sought.source) (grouped : 0 < length sought.group) (best : Option Best) (scans : best ≡ scan_at sought tiers places count 0 None) where
    pub search-answerable : (output : List ℕ) → 124 ≤ length output → Answerable places best output
    search-answerable = scan-answerable (afi_in t) sought tiers sourced grouped places count all-taken best scans

    -- what the search answers, and leaves in the output
    pub search-answers : (answer : Matched) (output left : List ℕ) → Leaves (matched_by (given (best_in places best)) output) answer left
        → Leaves (matched_by (given (match_in (afi_in t) (open_query sought tiers) (routes_of t))) output) answer left
    unfolding routes_of
    search-answers answer output left a =
        rw (← (scan-matches (afi_in t) sought tiers sourced grouped places count all-taken best scans distinct ∙ ap (match_in (afi_in t) (open_query sought tiers)) routes)) a
      where
        routes : routes_from count places ≡ routes_of t
        routes = rw (counted, behind) refl

        distinct : Distinct (routes_from count places)
        distinct = rw routes (distinct-increasing (sound-holdable t is).increasing)
