-- Routes that a table can hold, with one more and with one less.
use Prim.Native.Nat.{ℕ, ◌≤◌, ◌<◌}
use mathlib.Core.Path.{◌≡◌, ap}
use mathlib.Core.Bool.{true}
use mathlib.Core.Logic.{◌⊎◌, ⊎_elim}
use mathlib.Core.List.{List}
use native.Mathlib.Omega.{arith}
use lib.ListN.{length}
use Rattle.octets.proofs.Choice.{opposite, tested}
use Rattle.octets.proofs.Orders.{before-none}
use Rattle.routes.specs.Route.{Route, nlri_of, holds, inserted, removed}
use Rattle.routes.specs.Place.{acceptable}
use Rattle.routes.specs.Rules.Images.{Holdable}
use Rattle.routes.proofs.Definitions.Bounds.{sizes-of}
use Rattle.routes.proofs.Definitions.Lookups.{absent-holds, removed-absent}
use Rattle.routes.proofs.Definitions.Increases.{increasing-inserted, increasing-removed, acceptable-inserted, acceptable-removed, length-inserted-new, length-inserted-held, length-removed-held}

module _ (afi places : ℕ) (rs : List Route) (h : Holdable afi places rs) where
  inserted-within : (r : Route) → (holds (nlri_of r) rs ≡ true) ⊎ (length rs < places) → length (inserted r rs) ≤ places
  inserted-within r room =
      tested (holds (nlri_of r) rs)
      (λ held. omega (arith, length-inserted-held r h.increasing held, h.within))
      (λ new. ⊎_elim (λ held. absurd (opposite held new)) (λ free. omega (arith, length-inserted-new r rs (absent-holds (nlri_of r) rs new))) room)

  removed-within : (nlri : List ℕ) → length (removed nlri rs) ≤ places
  removed-within nlri =
      tested (holds nlri rs)
      (λ held. omega (arith, length-removed-held nlri rs held, h.within))
      (λ new. omega (arith, ap length (removed-absent nlri rs (absent-holds nlri rs new)), h.within))

  -- where its NLRI is held, or a place is free
  pub holdable-inserted : (r : Route) → acceptable afi r ≡ true → (holds (nlri_of r) rs ≡ true) ⊎ (length rs < places) → Holdable afi places (inserted r rs)
  holdable-inserted r a room =
      record {
        family = h.family;
        most = h.most;
        within = inserted-within r room;
        acceptable = acceptable-inserted r a h.acceptable;
        increasing = increasing-inserted r (before-none (nlri_of r) (omega (arith, (sizes-of afi r a).least))) h.increasing;
      }

  pub holdable-removed : (nlri : List ℕ) → Holdable afi places (removed nlri rs)
  holdable-removed nlri =
      record {
        family = h.family;
        most = h.most;
        within = removed-within nlri;
        acceptable = acceptable-removed nlri h.acceptable;
        increasing = increasing-removed nlri h.increasing;
      }
