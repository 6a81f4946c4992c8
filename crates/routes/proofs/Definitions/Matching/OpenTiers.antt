-- What the tiers of a source and a group want, by which of them are open.
use Prim.Native.Nat.{ℕ}
use mathlib.Core.Path.{◌≡◌, refl, sym, subst}
use mathlib.Core.Bool.{Bool, true}
use mathlib.Core.List.{List, []}
use mathlib.Core.Logic.{◌↔◌}
use lib.Dec.{eqb}
use borrow.Author.Tests.{eqb-true}
use Rattle.octets.specs.Choice.{pick}
use Rattle.octets.proofs.Choice.{opposite, pick-case}
use Rattle.nlri.specs.Fields.{Fields}
use Rattle.routes.specs.Query.{Wanted, no_route, wanted_if, meets, tiers_of}
use Rattle.routes.proofs.Definitions.Matching.Conditions.{meets-exactly}
use Rattle.routes.proofs.Definitions.Matching.First.{wanted_at}

module _ (source group : List ℕ) (exact any_group any_source any : Bool) (f : Fields) where
  -- fields of a tier that is open
  pub data Opened : (tier : ℕ) → Type 0 where
    opened1 : exact ≡ true → f.source ≡ source → f.group ≡ group → Opened 1
    opened2 : any_group ≡ true → f.source ≡ source → f.group ≡ [] → Opened 2
    opened3 : any_source ≡ true → f.source ≡ [] → f.group ≡ group → Opened 3
    opened4 : any ≡ true → f.source ≡ [] → f.group ≡ [] → Opened 4

  -- of a tier, or of a later one
  or_later : (tier n : ℕ) (on : Bool) (s g : List ℕ) (later : Wanted) → (on ≡ true → f.source ≡ s → f.group ≡ g → Opened n) → (meets later f ≡ true → Opened tier)
      → meets (pick (eqb tier n) (wanted_if on s g) later) f ≡ true → Opened tier
  unfolding meets
  or_later tier n on s g later here after =
      pick-case Meant _ _ _
      (λ t. pick-case Meant _ _ _ (λ o h. let e = (meets-exactly s g f).0 h in subst Opened (sym (eqb-true tier n t)) (here o e.0 e.1)) (λ _ h. absurd (opposite h refl)))
      (λ _. after)
    where
      Meant : Wanted → Type 0
      Meant w = meets w f ≡ true → Opened tier

  met : {tier : ℕ} → Opened tier → meets (wanted_at 1 tier (tiers_of source group exact any_group any_source any)) f ≡ true
  unfolding wanted_at tiers_of pick
  met (opened1 on s g) = rw on ((meets-exactly _ _ f).1 (s, g))
  met (opened2 on s g) = rw on ((meets-exactly _ _ f).1 (s, g))
  met (opened3 on s g) = rw on ((meets-exactly _ _ f).1 (s, g))
  met (opened4 on s g) = rw on ((meets-exactly _ _ f).1 (s, g))

  pub tiers-exactly : (tier : ℕ) → (meets (wanted_at 1 tier (tiers_of source group exact any_group any_source any)) f ≡ true) ↔ Opened tier
  unfolding wanted_at tiers_of meets
  tiers-exactly tier = (
    or_later tier 1 exact source group _ opened1
        (or_later tier 2 any_group source [] _ opened2
        (or_later tier 3 any_source [] group _ opened3
        (or_later tier 4 any [] [] no_route opened4 (λ h. absurd (opposite h refl))))),
    met,
  )
