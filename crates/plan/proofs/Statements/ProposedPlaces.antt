-- Routes that are proposed, as places: sound, and not marked.
use Prim.Native.Nat.{ℕ, zero, suc, ◌+◌, ◌*◌, ◌≤◌, ◌<◌}
use mathlib.Core.Path.{◌≡◌, refl, ap, ◌∙◌}
use mathlib.Core.Bool.{true, false}
use mathlib.Core.List.{List, [], ◌∷◌, ◌++◌}
use mathlib.Core.Logic.{⊎_elim}
use native.Mathlib.Omega.{arith}
use lib.ListN.{length, get_or}
use lib.Dec.{eqb}
use borrow.Author.Tests.{eqb-false}
use Rattle.octets.specs.Lists.{Among, first, later}
use Rattle.octets.proofs.Choice.{both_true}
use Rattle.octets.proofs.Among.{among_none, among_cases}
use Rattle.routes.specs.Route.{Route, stale_of}
use Rattle.routes.specs.Place.{AllAcceptable, acceptable, place_sound}
use Rattle.routes.specs.Table.{places_of}
use Rattle.routes.specs.Rules.SoundRule.{route_in_place}
use Rattle.routes.proofs.Definitions.Places.{sound-place_of, first-place, other-places}
use Rattle.plan.specs.Flows.{Vrf, ListedFlow}
use Rattle.plan.specs.Judging.{sound_places}
use Rattle.plan.specs.Planning.{route_for, routes_for, proposal}
use Rattle.plan.specs.Rules.JudgeRule.{Proposes, nothing_more, one_place}

-- routes that are proposed, as places

pub routes-acceptable : (afi : ℕ) (vrf : Vrf) (rs : List Route) → ((r : Route) → Among r rs → acceptable afi r ≡ true) → AllAcceptable afi rs
routes-acceptable afi vrf [] h = AllAcceptable.none
routes-acceptable afi vrf (r ∷ rs) h = AllAcceptable.one (h r (first refl)) (routes-acceptable afi vrf rs (λ q m. h q (later m)))

pub places-sound : (afi : ℕ) (rs : List Route) (z : List ℕ) → AllAcceptable afi rs → sound_places afi (length rs) (places_of rs ++ z) ≡ true
unfolding sound_places
places-sound afi [] z AllAcceptable.none = refl
places-sound afi (r ∷ rs) z (AllAcceptable.one h a) =
    both_true _ _ (ap (place_sound afi) (first-place afi r rs z h) ∙ sound-place_of afi r h) (ap (sound_places afi (length rs)) (other-places afi r rs z h) ∙ places-sound afi rs z a)

routes-unmarked : (vrf : Vrf) (fs : List ListedFlow) (r : Route) → Among r (routes_for vrf fs) → stale_of r ≡ false
unfolding routes_for route_for stale_of
routes-unmarked vrf [] r m = absurd (among_none m)
routes-unmarked vrf (f ∷ fs) r m = ⊎_elim (λ e. ap stale_of e) (λ k. routes-unmarked vrf fs r k) (among_cases m)

pub proposal-unmarked : (vrf : Vrf) (fs : List ListedFlow) (r : Route) → Among r (proposal vrf fs) → stale_of r ≡ false
unfolding proposal
proposal-unmarked vrf [] r m = absurd (among_none m)
proposal-unmarked vrf (f ∷ fs) r m = routes-unmarked vrf _ r m

-- no mark where no route is marked

unset : (n : ℕ) → n ≤ 1 → eqb n 1 ≡ false → n ≡ 0
unset zero h e = refl
unset (suc n) h e = absurd (eqb-false (suc n) 1 e (omega arith))

pub unmarked : (afi : ℕ) (s : List ℕ) {at : ℕ} {rs : List Route} → Proposes afi s at rs → ((r : Route) → Among r rs → stale_of r ≡ false) → (i : ℕ) → i < length rs → get_or s (at + 128 * i + 127) 0 ≡ 0
unfolding stale_of
unmarked afi s (nothing_more e) off i less = absurd (omega arith)
unmarked afi s (one_place {at} {rs} held rest) off zero less =
    let e : at + 128 * zero + 127 ≡ at + 127 = omega arith in
    ap (λ (k : ℕ). get_or s k 0) e ∙ unset (get_or s (at + 127) 0) held.marked (off (route_in_place s at) (first refl))
unmarked afi s (one_place {at} {rs} held rest) off (suc i) less =
    let e : at + 128 * suc i + 127 ≡ at + 128 + 128 * i + 127 = omega arith in
    ap (λ (k : ℕ). get_or s k 0) e ∙ unmarked afi s rest (λ r m. off r (later m)) i (omega arith)
