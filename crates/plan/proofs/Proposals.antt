-- Routes proposed as table places: what the judge accepts, of octets.
use Prim.Native.Nat.{ℕ, zero, suc, ◌+◌, ◌*◌, ◌/◌, ◌%◌}
use mathlib.Core.Path.{◌≡◌, refl, sym, ap, ap₂, ◌∙◌, subst}
use mathlib.Core.Bool.{true}
use mathlib.Core.List.{List, ◌∷◌}
use mathlib.Core.Logic.{◌↔◌}
use native.Mathlib.Omega.{arith}
use lib.ListN.{length, drop}
use lib.Seq.{drop-drop}
use borrow.Author.Tests.{eqb-true, eq-eqb}
use Rattle.octets.specs.Octets.{part}
use Rattle.octets.specs.Lists.{Among}
use Rattle.octets.proofs.Choice.{both-held, both_true}
use Rattle.lists.specs.LentLists.{Item}
use Rattle.routes.specs.Route.{Route}
use Rattle.routes.specs.Table.{routes_from}
use Rattle.routes.specs.Rules.ArgumentRules.{GoodFlow}
use Rattle.routes.proofs.Statements.SoundRule.{place-held, place-sound, route-at}
use Rattle.plan.specs.Flows.{Vrf, ListedFlow, asking, flows_in}
use Rattle.plan.specs.Judging.{accepts, sound_places, accepts_places}
use Rattle.plan.specs.Rules.JudgeRule.{Proposes, nothing_more, one_place, Accepted}
use Rattle.plan.proofs.Items.{Threes}
use Rattle.plan.proofs.Judges.{AcceptedRoutes, accepts-exactly}

module _ (afi : ℕ) (s : List ℕ) where
  pub sound-proposes : (count at : ℕ) → at + 128 * count ≡ length s → sound_places afi count (drop at s) ≡ true → Proposes afi s at (routes_from count (drop at s))
  unfolding sound_places routes_from part
  sound-proposes zero at l h = nothing_more {at = at} (omega arith)
  sound-proposes (suc count) at l h =
      let b = both-held _ _ h in
      let held = place-held s at afi b.0 in
      let rest = sound-proposes count (at + 128) (omega arith) (ap (sound_places afi count) (sym (drop-drop 128 at s)) ∙ b.1) in
      subst (Proposes afi s at) (ap₂ (λ (r : Route) (t : List ℕ). r ∷ routes_from count t) (sym (route-at s at held.fits)) (sym (drop-drop 128 at s))) (one_place held rest)

  -- what places that are proposed are
  record Whole (at : ℕ) (rs : List Route) : Type 0 where
    size : at + 128 * length rs ≡ length s
    sound : sound_places afi (length rs) (drop at s) ≡ true
    routes : routes_from (length rs) (drop at s) ≡ rs

  proposes-sound : {at : ℕ} {rs : List Route} → Proposes afi s at rs → Whole at rs
  unfolding sound_places routes_from part
  proposes-sound (nothing_more e) = record { size = omega arith; sound = refl; routes = refl }
  proposes-sound (one_place {at} {rs} held rest) =
      let w = proposes-sound rest in
      record {
        size = let l = w.size in omega arith;
        sound = both_true _ _ (place-sound s at afi held) (ap (sound_places afi (length rs)) (drop-drop 128 at s) ∙ w.sound);
        routes = ap₂ (λ (r : Route) (us : List Route). r ∷ us) (route-at s at held.fits) (ap (routes_from (length rs)) (drop-drop 128 at s) ∙ w.routes);
      }

-- octets are accepted exactly when they are whole places of routes that are
module _ (afi : ℕ) (vrf : Vrf) (items : List Item) (three : Threes items) (good : (f : ListedFlow) → Among f (flows_in items) → GoodFlow afi (asking vrf f)) (s : List ℕ) where
  pub accepted-places : (accepts_places afi vrf (flows_in items) s ≡ true) ↔ Accepted afi vrf items s
  unfolding accepts_places
  accepted-places = (
    λ h.
        let a = both-held _ _ h in
        let b = both-held _ _ a.1 in
        let none : length s % 128 ≡ 0 = eqb-true _ _ a.0 in
        let count : ℕ = length s / 128 in
        let r = (accepts-exactly afi vrf items (routes_from count s) three good).0 b.1 in
        record { routes = routes_from count s; proposed = sound-proposes afi s count 0 (omega arith) b.0; own = r.own; once = r.once; served = r.served },
    λ x.
        let w = proposes-sound afi s x.proposed in
        let l = w.size in
        let n : length s / 128 ≡ length x.routes = omega arith in
        let accepted : AcceptedRoutes afi vrf items x.routes = record { own = x.own; once = x.once; served = x.served } in
        both_true _ _ (eq-eqb (length s % 128) 0 (omega arith))
        (both_true _ _ (ap (λ (k : ℕ). sound_places afi k s) n ∙ w.sound)
        (ap (λ (k : ℕ). accepts afi vrf (flows_in items) (routes_from k s)) n ∙ ap (accepts afi vrf (flows_in items)) w.routes ∙ (accepts-exactly afi vrf items x.routes three good).1 accepted)),
  )
