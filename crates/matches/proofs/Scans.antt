-- The scan over a table's places: its functions' branches and its loop.
use Prim.Native.Nat.{ℕ, zero, suc, ◌+◌, ◌*◌, ◌-◌, ◌≤◌, ◌<◌}
use mathlib.Core.Path.{◌≡◌, refl, sym, ◌∙◌, ap, ap₂, subst}
use mathlib.Core.Bool.{Bool, true, false, not}
use mathlib.Core.List.{List}
use native.Mathlib.Omega.{arith}
use lib.Dec.{eqb}
use lib.ListN.{length, get_or}
use Rattle.octets.specs.Choice.{pick}
use Rattle.octets.specs.Octets.{part}
use Rattle.octets.specs.Order.{before}
use Rattle.octets.proofs.Choice.{pick_true, pick-false}
use Rattle.tunnel.specs.Attribute.{fields_in}
use Rattle.nlri.specs.Standing.{standing}
use Rattle.routes.specs.Route.{attribute_of}
use Rattle.routes.specs.Place.{route_in}
use Rattle.octets.specs.Outcome.{given, on_outcome}
use Rattle.routes.specs.Matching.{names_tunnel}
use Rattle.routes.proofs.Definitions.Matching.Conditions.{tunnel-of}
use Rattle.routes.specs.declared.MatchedRoute.{MatchedRoute}
use Rattle.routes.specs.Answers.{found_answer, found_output, matched_by, matched_told}
use Rattle.octets.specs.Outputs.{Leaves}
use Rattle.matches.specs.declared.scan.Best.{Best}
use Rattle.matches.specs.declared.tier.Tiers.{Tiers}
use Rattle.std.proofs.Common.{Option, None, Some, Ok}
use Rattle.routes.specs.declared.Tier.{Tier}
use Rattle.routes.specs.Answers.{tier_number}
use Rattle.matches.specs.Scanning.{Sought, tier_at, ahead_at, ahead_of, better_by, better_at, scan_at, best_in, Kept, Answerable}
use Rattle.places.specs.Readable.{nlri_at, Readable}
use Rattle.places.specs.Writing.{RouteFits, written_route}
use Rattle.places.specs.declared.output.RouteSizes.{RouteSizes}
use Rattle.places.proofs.RouteWrites.{attribute-least}

-- the attribute of a place's route: its tunnel type stands within it, and says whether the route names a tunnel
module _ (t place attribute : List ℕ) (at : ℕ) (r : Readable t at) (cut : place ≡ part t at 128) (is : attribute ≡ attribute_of (route_in place)) where
  in_place : attribute ≡ attribute_of (route_in (part t at 128))
  in_place = is ∙ ap (λ (s : List ℕ). attribute_of (route_in s)) cut

  pub type-within : 1 < length attribute
  type-within = let least = attribute-least _ _ r.read in omega (arith, ap length in_place)

  pub names-by-type : not (eqb (get_or attribute 1 0) 0) ≡ names_tunnel (route_in (part t at 128))
  unfolding fields_in
  names-by-type = ap (λ (s : List ℕ). not (eqb (get_or s 1 0) 0)) in_place ∙ sym (tunnel-of (route_in (part t at 128)) _ r.read)

-- route distinguishers of two places, compared
pub lower-is : (t : List ℕ) (at other : ℕ) (flag : Bool) (n m x y : List ℕ) → n ≡ nlri_at t at → m ≡ nlri_at t other → x ≡ (standing n).distinguisher → y ≡ (standing m).distinguisher
    → flag ≡ before x y → flag ≡ before (standing (nlri_at t at)).distinguisher (standing (nlri_at t other)).distinguisher
lower-is t at other flag n m x y p q d e f =
    f ∙ ap₂ before (d ∙ ap (λ (s : List ℕ). (standing s).distinguisher) p) (e ∙ ap (λ (s : List ℕ). (standing s).distinguisher) q)

picked-kept : (P : ℕ → Type 0) (b : Bool) (x y : Option Best) → Kept P x → Kept P y → Kept P (pick b x y)
unfolding pick
picked-kept P true x y old new = old
picked-kept P false x y old new = new

ahead-kept : (P : ℕ → Type 0) (t : List ℕ) (tier : Tier) (at : ℕ) (best : Option Best) → Kept P best → P at → Kept P (ahead_of t tier at best)
unfolding ahead_of
ahead-kept P t tier at None old new = new
ahead-kept P t tier at (Some best) old new = picked-kept P (ahead_at t tier at best) _ _ new old

-- what is the best after a step was the best before, or stands at the step's place
pub better-kept : (P : ℕ → Type 0) (t : List ℕ) (tier : Option Tier) (at : ℕ) (best : Option Best) → Kept P best → P at → Kept P (better_by t tier at best)
unfolding better_by
better-kept P t None at best old new = old
better-kept P t (Some tier) at best old new = picked-kept P (names_tunnel (route_in (part t at 128))) _ _ (ahead-kept P t tier at best old new) old

module _ (sought : Sought) (tiers : Tiers) (t : List ℕ) where
  -- the branches of one step
  module _ (best : Option Best) (at : ℕ) (nlri : List ℕ) (tier : Option Tier) (stands : nlri ≡ nlri_at t at) (is : tier ≡ tier_at sought tiers nlri) where
    here : better_by t tier at best ≡ better_at sought tiers t best at
    here = ap (λ (o : Option Tier). better_by t o at best) (is ∙ ap (tier_at sought tiers) stands)

    pub no-tier : tier ≡ None → best ≡ better_at sought tiers t best at
    unfolding better_by
    no-tier none = sym (ap (λ (o : Option Tier). better_by t o at best) none) ∙ here

    -- where the route has a tier
    module _ (its : Tier) (some : tier ≡ Some its) (named : Bool) (names : named ≡ names_tunnel (route_in (part t at 128))) where
      told : pick named (ahead_of t its at best) best ≡ better_at sought tiers t best at
      unfolding better_by
      told = ap (λ (b : Bool). pick b (ahead_of t its at best) best) names ∙ sym (ap (λ (o : Option Tier). better_by t o at best) some) ∙ here

      pub no-tunnel : named ≡ false → best ≡ better_at sought tiers t best at
      no-tunnel over = sym (pick-false _ _ _ over) ∙ told

      pub goes-first : named ≡ true → best ≡ None → Some (record { tier = its; start = at }) ≡ better_at sought tiers t best at
      unfolding ahead_of
      goes-first on none = sym (pick_true _ _ _ on ∙ ap (ahead_of t its at) none) ∙ told

      module _ (other : Best) (there : best ≡ Some other) (flag : Bool) (tells : flag ≡ ahead_at t its at other) where
        pub goes-ahead : named ≡ true → flag ≡ true → Some (record { tier = its; start = at }) ≡ better_at sought tiers t best at
        unfolding ahead_of
        goes-ahead on holds = sym (pick_true _ _ _ on ∙ ap (ahead_of t its at) there ∙ pick_true _ _ _ (sym tells ∙ holds)) ∙ told

        pub stays-behind : named ≡ true → flag ≡ false → Some other ≡ better_at sought tiers t best at
        unfolding ahead_of
        stays-behind on fails = sym (pick_true _ _ _ on ∙ ap (ahead_of t its at) there ∙ pick-false _ _ _ (sym tells ∙ fails)) ∙ told

  -- so many places less to go
  scan_step : (left at : ℕ) (best : Option Best) → 0 < left → scan_at sought tiers t left at best ≡ scan_at sought tiers t (left - 1) (at + 128) (better_at sought tiers t best at)
  unfolding scan_at
  scan_step zero at best h = absurd (omega arith)
  scan_step (suc left) at best h = ap (λ (k : ℕ). scan_at sought tiers t k (at + 128) (better_at sought tiers t best at)) (sym (less left))
    where
      less : (n : ℕ) → suc n - 1 ≡ n
      less n = omega arith

-- places still to come
pub place_here : (P : ℕ → Type 0) (left at : ℕ) → ((k : ℕ) → k < left → P (at + 128 * k)) → 0 < left → P at
place_here P left at all some = let e : at + 128 * 0 ≡ at = omega arith in subst P e (all 0 some)

pub places-next : (P : ℕ → Type 0) (left at : ℕ) → ((k : ℕ) → k < left → P (at + 128 * k)) → 0 < left → (k : ℕ) → k < left - 1 → P (at + 128 + 128 * k)
places-next P left at all some k h = let e : at + 128 * (k + 1) ≡ at + 128 + 128 * k = omega arith in subst P e (all (k + 1) (omega arith))

-- the loop: what the scan comes to is what the rest of it comes to from the best so far on
pub record Going (sought : Sought) (tiers : Tiers) (t : List ℕ) (count : ℕ) (best : Option Best) (index : ℕ) : Type 0 where
  pub same : scan_at sought tiers t count 0 None ≡ scan_at sought tiers t (count - index) (128 * index) best
  pub kept : Kept (Readable t) best

module _ (sought : Sought) (tiers : Tiers) (t : List ℕ) (count : ℕ) where
  pub going-first : Going sought tiers t count None 0
  going-first = record { same = let whole : count ≡ count - 0 = omega arith in ap (λ (k : ℕ). scan_at sought tiers t k 0 None) whole; kept = tt }

  module _ (best : Option Best) (index : ℕ) (going : Going sought tiers t count best index) where
    pub going_next : index < count → Readable t (128 * index) → (next : Option Best) → next ≡ better_at sought tiers t best (128 * index) → Going sought tiers t count next (index + 1)
    going_next some readable next e =
        let at : 128 * index + 128 ≡ 128 * (index + 1) = omega arith in
        let left : count - index - 1 ≡ count - (index + 1) = omega arith in
        rw e (record {
          same = going.same ∙ scan_step sought tiers t (count - index) (128 * index) best (omega arith) ∙ ap₂ (λ (k x : ℕ). scan_at sought tiers t k x (better_at sought tiers t best (128 * index))) left at;
          kept = better-kept (Readable t) t (tier_at sought tiers (nlri_at t (128 * index))) (128 * index) best going.kept readable;
        })

    pub going-last : count ≤ index → best ≡ scan_at sought tiers t count 0 None
    unfolding scan_at
    going-last none =
        let left : count - index ≡ 0 = omega arith in
        sym (going.same ∙ ap (λ (k : ℕ). scan_at sought tiers t k (128 * index) best) left)

-- what is answered and left in the output, where there is no route and where there is one
pub best-none-left : (t output : List ℕ) (best : Option Best) (route : Option MatchedRoute) → best ≡ None → route ≡ None → Leaves (matched_by (given (best_in t best)) output) (matched_told (Ok route)) output
unfolding matched_by on_outcome found_answer found_output best_in
best-none-left t output best route e n = rw (e, n) (refl, refl)

module _ (t output : List ℕ) (whole : Option Best) (best : Best) (some : whole ≡ Some best) where
  pub best-answerable : Answerable t whole output → (best.start + 128 ≤ length t) × RouteFits (part t best.start 128) output
  best-answerable all = subst (λ (o : Option Best). Answerable t o output) some all

  pub best-left : (place left : List ℕ) (sizes : RouteSizes) → place ≡ part t best.start 128 → Leaves (written_route (route_in place) output) sizes left
      → Leaves (matched_by (given (best_in t whole)) output) (record { number = 0; tier = tier_number best.tier; nlri_size = sizes.nlri; attribute_size = sizes.attribute }) left
  unfolding matched_by on_outcome found_answer found_output written_route best_in
  best-left place left sizes e l =
      rw (some, ← e) (ap (λ (s : RouteSizes). record { number = 0; tier = tier_number best.tier; nlri_size = s.nlri; attribute_size = s.attribute }) l.0, l.1)
