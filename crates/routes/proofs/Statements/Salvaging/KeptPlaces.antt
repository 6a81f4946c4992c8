-- Good places, places of zeros and places that are kept, octet by octet, are those that salvage tests (specs/Rules/SalvageRule.antt).
use Prim.Native.Nat.{ℕ, ◌<◌}
use mathlib.Core.Path.{◌≡◌, sym, ap, ◌∙◌}
use mathlib.Core.Bool.{true}
use mathlib.Core.Logic.{◌↔◌}
use mathlib.Core.List.{List}
use native.Mathlib.Omega.{arith}
use Rattle.octets.specs.Order.{all_zero}
use Rattle.octets.specs.Lists.{Among}
use Rattle.octets.proofs.Choice.{tested}
use Rattle.octets.proofs.Lists.{part-octet, part_filled}
use Rattle.octets.proofs.Zeros.{zero-at, zero-each}
use Rattle.routes.specs.Route.{Route, nlri_of, absent, lookup, holds}
use Rattle.routes.specs.Place.{route_in, place_sound}
use Rattle.routes.specs.Salvage.{place_at, good_of, kept_routes}
use Rattle.routes.specs.Rules.SoundRule.{nlri_in_place, route_in_place}
use Rattle.routes.specs.Rules.SalvageRule.{place_start, ZeroPlace, GoodPlace, KeptPlace}
use Rattle.routes.proofs.Definitions.Lookups.{lookup-member, held-holds, absent-holds, lookup_rule}
use Rattle.routes.proofs.Definitions.Salvages.{good-member, member-good, first-held, held_first, kept-lookup}
use Rattle.routes.proofs.Statements.SoundRule.{route-at, place-held, place-sound}

-- one place
module _ (m : List ℕ) (n : ℕ) where
  -- zeros
  pub zero-tested : ZeroPlace m n → all_zero (place_at m n) ≡ true
  unfolding place_at
  zero-tested h = zero-each (place_at m n) (λ i. part_filled m (place_start n) 128 0 (λ j least less. h j less) i (omega arith))

  pub tested-zero : all_zero (place_at m n) ≡ true → ZeroPlace m n
  unfolding place_at
  tested-zero h i less = sym (part-octet m (place_start n) 128 i less) ∙ zero-at (place_at m n) h i

  module _ (afi : ℕ) where
    -- good
    pub good-tested : GoodPlace afi m n → place_sound afi (place_at m n) ≡ true
    unfolding place_at
    good-tested g = place-sound m (place_start n) afi g

    pub tested-good : place_sound afi (place_at m n) ≡ true → GoodPlace afi m n
    unfolding place_at
    tested-good h = place-held m (place_start n) afi h

    -- the route of a good place, and its NLRI
    pub good-route : GoodPlace afi m n → route_in (place_at m n) ≡ route_in_place m (place_start n)
    unfolding place_at
    good-route g = route-at m (place_start n) g.fits

    pub good-nlri : GoodPlace afi m n → nlri_of (route_in (place_at m n)) ≡ nlri_in_place m (place_start n)
    unfolding nlri_of
    good-nlri g = ap nlri_of (good-route g)

module _ (afi : ℕ) (m : List ℕ) where
  -- the good places before a place hold none of its NLRI exactly where no good place before it has it
  pub kept-place : (n : ℕ) → place_sound afi (place_at m n) ≡ true → lookup (nlri_of (route_in (place_at m n))) (good_of afi m n) ≡ absent → KeptPlace afi m n
  kept-place n t a =
      let good = tested-good m n afi t in
      record {
        good = good;
        first = λ k less g e.
            (lookup_rule.missing (nlri_of (route_in (place_at m n))) (good_of afi m n)).0 a (route_in (place_at m k)) (member-good afi m n k less (good-tested m k afi g))
            (good-nlri m k afi g ∙ e ∙ sym (good-nlri m n afi good));
      }

  pub place_kept : (n : ℕ) → KeptPlace afi m n → lookup (nlri_of (route_in (place_at m n))) (good_of afi m n) ≡ absent
  place_kept n p =
      (lookup_rule.missing (nlri_of (route_in (place_at m n))) (good_of afi m n)).1
      (λ r a e.
      let g = good-member afi m n r a in
      let h = tested-good m g.number afi g.sound in
      p.first g.number g.within h (sym (good-nlri m g.number afi h) ∙ ap nlri_of (sym g.is) ∙ e ∙ good-nlri m n afi p.good))

  -- what a good place before has is held
  pub earlier-held : (n k : ℕ) (nlri : List ℕ) → k < n → GoodPlace afi m k → nlri_in_place m (place_start k) ≡ nlri → holds nlri (good_of afi m n) ≡ true
  earlier-held n k nlri less g e =
      tested (holds nlri (good_of afi m n)) (λ t. t)
      (λ f.
      absurd ((lookup_rule.missing nlri (good_of afi m n)).0 (absent-holds nlri (good_of afi m n) f) (route_in (place_at m k)) (member-good afi m n k less (good-tested m k afi g))
      (good-nlri m k afi g ∙ e)))

  -- the place that is kept of an NLRI that the good places before hold
  pub held_kept : (n : ℕ) (nlri : List ℕ) → holds nlri (good_of afi m n) ≡ true → (k : ℕ) × (k < n) × KeptPlace afi m k × (nlri_in_place m (place_start k) ≡ nlri)
  held_kept n nlri h =
      let p = held-holds nlri (good_of afi m n) h in
      let a = lookup-member (good_of afi m n) p.1 in
      let f = held_first afi m n p.0 (ap (λ (x : List ℕ). lookup x (good_of afi m n)) a.1 ∙ p.1) in
      let k = kept-place f.0 f.2 (ap (λ (r : Route). lookup (nlri_of r) (good_of afi m f.0)) f.3 ∙ f.4) in
      (f.0, f.1, k, sym (good-nlri m f.0 afi k.good) ∙ ap nlri_of f.3 ∙ a.1)

  -- the routes that are kept are those of the places that are
  pub kept-among : (n : ℕ) (r : Route) → Among r (kept_routes afi m n) ↔ ((k : ℕ) × (k < n) × KeptPlace afi m k × (r ≡ route_in_place m (place_start k)))
  kept-among n r = (
    λ a.
        let f = held_first afi m n r ((kept-lookup afi m n r).0 a) in
        let k = kept-place f.0 f.2 (ap (λ (q : Route). lookup (nlri_of q) (good_of afi m f.0)) f.3 ∙ f.4) in
        (f.0, f.1, k, sym f.3 ∙ good-route m f.0 afi k.good),
    λ p.
        let e : route_in (place_at m p.0) ≡ r = good-route m p.0 afi p.2.good ∙ sym p.3 in
        (kept-lookup afi m n r).1 (first-held afi m n p.0 r p.1 (good-tested m p.0 afi p.2.good) e (ap (λ (q : Route). lookup (nlri_of q) (good_of afi m p.0)) (sym e) ∙ place_kept p.0 p.2)),
  )
