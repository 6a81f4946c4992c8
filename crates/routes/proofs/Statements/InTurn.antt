-- Going on by next (specs/Rules/NextRule.antt, `InTurnRule`).
use Prim.Native.Nat.{ℕ, zero, suc, ◌≤◌, ◌<◌}
use mathlib.Core.Path.{◌≡◌, refl, ◌∙◌, ap, subst}
use mathlib.Core.Bool.{true, false}
use mathlib.Core.List.{List, [], ◌∷◌}
use mathlib.Core.Logic.{◌↔◌, inl, ⊎_elim}
use native.Mathlib.Omega.{arith}
use borrow.Author.Tests.{eq-eqb, ne_eqb}
use lib.ListN.{length, take, replicate}
use Rattle.octets.specs.Numbers.{TABLE}
use Rattle.octets.specs.Order.{before}
use Rattle.octets.specs.Lists.{Among, first, later}
use Rattle.octets.proofs.Choice.{opposite, pick_true, pick-false, is_false, tested}
use Rattle.octets.proofs.Orders.{before-itself, before-then, before-once, before-neither}
use Rattle.octets.proofs.Among.{among_none, among_cases}
use Rattle.routes.specs.Route.{Route, nlri_of, Increasing, last, next}
use Rattle.routes.specs.Table.{routes_of, sound_of}
use Rattle.routes.specs.Matching.{Found, nothing, found}
use Rattle.routes.specs.Next.{next_in, next_of}
use Rattle.routes.specs.Rules.NextRule.{ComesNext, NoneNext, next_unsound, told_route, told_in_turn, Holds, InTurnRule}
use Rattle.routes.proofs.Definitions.Lookups.{one-member}
use Rattle.routes.proofs.Definitions.Increases.{distinct-increasing}
use Rattle.routes.proofs.Definitions.Nexts.{increasing-after, IsNext, next-is, next-unique}
use Rattle.routes.proofs.Statements.Images.{sound-holdable}
use Rattle.routes.proofs.Statements.NextRule.{told-route, comes-told, none_told_lem, next_rule}

-- one call of the loop: it ends there, where no route comes after or the table is not sound; or it gives the route that comes next
data Step (t : List ℕ) (ts : List (List ℕ)) (n output : List ℕ) : Type 0 where
  ended : told_in_turn (t ∷ ts) n output ≡ [] → (sound_of t ≡ true → NoneNext n (routes_of t)) → Step t ts n output
  given : (r : Route) → sound_of t ≡ true → ComesNext n (routes_of t) r → (left : List ℕ) → 124 ≤ length left → told_in_turn (t ∷ ts) n output ≡ r ∷ told_in_turn ts (nlri_of r) left
      → Step t ts n output

module _ (t : List ℕ) (ts : List (List ℕ)) (n output : List ℕ) (room : 124 ≤ length output) where
  ends : (next_of t n output).answer.nlri_size ≡ 0 → told_in_turn (t ∷ ts) n output ≡ []
  unfolding told_in_turn
  ends e = pick_true _ _ _ (eq-eqb _ _ e)

  goes_on : (r : Route) → sound_of t ≡ true → ComesNext n (routes_of t) r → Step t ts n output
  unfolding told_in_turn
  goes_on r s c =
      let tells = comes-told t n output s room r c in
      let other : (next_of t n output).answer.nlri_size ≡ 0 → ⊥ = λ e. let some = tells.some in omega arith in
      let is : told_route (next_of t n output) ≡ r = told-route (next_of t n output) output r tells in
      given r s c (next_of t n output).octets (let size = tells.told.size in omega arith)
      (pick-false _ _ _ (ne_eqb _ _ other) ∙ ap (λ (q : Route). q ∷ told_in_turn ts (nlri_of q) (next_of t n output).octets) is)

  step : Step t ts n output
  step = tested (sound_of t) (λ s. go s (next_in n (routes_of t)) (next-is n (sound-holdable t s).increasing)) unsound
    where
      go : sound_of t ≡ true → (f : Found) → IsNext n (routes_of t) f → Step t ts n output
      go s nothing none = ended (ends (none_told_lem t n output s room none)) (λ _. none)
      go s (found tier r) p = goes_on r s p.1

      unsound : sound_of t ≡ false → Step t ts n output
      unsound h =
          let refused : (next_of t n output).answer.number ≡ TABLE = (next_rule.refuses t n output TABLE (λ e. omega arith)).1 (next_unsound h) in
          ended (ends (next_rule.untold t n output (inl (λ e. omega arith))).sizes.0) (λ s. absurd (opposite s h))

increasing : (tables : List (List ℕ)) (n output : List ℕ) → 124 ≤ length output → Increasing n (told_in_turn tables n output)
unfolding told_in_turn
increasing [] n output room = last
increasing (t ∷ ts) n output room = go (step t ts n output room) (increasing ts)
  where
    go : Step t ts n output → ((m left : List ℕ) → 124 ≤ length left → Increasing m (told_in_turn ts m left)) → Increasing n (told_in_turn (t ∷ ts) n output)
    go (ended e none) rest = rw e last
    go (given r s c left enough e) rest = rw e (next c.after (rest (nlri_of r) left enough))

held : (tables : List (List ℕ)) (n output : List ℕ) (r : Route) → 124 ≤ length output → Among r (told_in_turn tables n output) → (t : List ℕ) × Among t tables × Holds r t
unfolding told_in_turn
held [] n output r room m = absurd (among_none m)
held (t ∷ ts) n output r room m = go (step t ts n output room) (λ k left enough. held ts k left r enough)
  where
    go : Step t ts n output → ((k left : List ℕ) → 124 ≤ length left → Among r (told_in_turn ts k left) → (u : List ℕ) × Among u ts × Holds r u) → (u : List ℕ) × Among u (t ∷ ts) × Holds r u
    go (ended e none) rest = absurd (among_none (subst (Among r) e m))
    go (given q s c left enough e) rest =
        ⊎_elim (λ is. (t, first refl, record { sound = s; member = rw is c.member }))
        (λ l. let h = rest (nlri_of q) left enough l in (h.0, later h.1, h.2))
        (among_cases (subst (Among r) e m))

-- a route that comes after some octets is the next one, or comes after it
next-or-later : (n : List ℕ) {p : List ℕ} {rs : List Route} → Increasing p rs → (q r : Route) → ComesNext n rs q → Among r rs → before n (nlri_of r) ≡ true → before (nlri_of q) (nlri_of r) ≡ false → r ≡ q
next-or-later n i q r c m a h = one-member r q (distinct-increasing i) m c.member (before-neither (nlri_of r) (nlri_of q) (is_false _ (λ b. c.between r m a b)) h)

kept : (tables : List (List ℕ)) (n output : List ℕ) (r : Route) → 124 ≤ length output → ((t : List ℕ) → Among t tables → Holds r t) → before n (nlri_of r) ≡ true
    → length (told_in_turn tables n output) < length tables → Among r (told_in_turn tables n output)
unfolding told_in_turn
kept [] n output r room all a short = absurd (omega arith)
kept (t ∷ ts) n output r room all a short = go (step t ts n output room) (λ k left enough. kept ts k left r enough (λ u m. all u (later m)))
  where
    here : Holds r t
    here = all t (first refl)

    go : Step t ts n output
        → ((k left : List ℕ) → 124 ≤ length left → before k (nlri_of r) ≡ true → length (told_in_turn ts k left) < length ts → Among r (told_in_turn ts k left))
        → Among r (told_in_turn (t ∷ ts) n output)
    go (ended e none) rest = absurd (none here.sound r here.member a)
    go (given q s c left enough e) rest =
        rw e (tested (before (nlri_of q) (nlri_of r))
        (λ b. later (rest (nlri_of q) left enough b (let size = ap length e in omega arith)))
        (λ b. first (next-or-later n (sound-holdable t s).increasing q r c here.member a b)))

-- routes in increasing order that are those of some routes that come after octets
abbrev Rest : (rs : List Route) (n : List ℕ) → List Route → Type 0
Rest rs n us = (r : Route) → Among r us ↔ (Among r rs × (before n (nlri_of r) ≡ true))

rest-next : {rs us : List Route} {n : List ℕ} (q : Route) → Rest rs n (q ∷ us) → Increasing n (q ∷ us) → ComesNext n rs q
rest-next q rest (next b i) =
    record {
      member = ((rest q).0 (first refl)).0;
      after = b;
      between = λ u m a c. ⊎_elim (λ e. opposite (rw e at c) (before-itself (nlri_of q))) (λ l. opposite c (before-once (nlri_of q) (nlri_of u) (increasing-after i l))) (among_cases ((rest u).1 (m, a)));
    }

rest-later : {rs us : List Route} {n : List ℕ} (q : Route) → Rest rs n (q ∷ us) → Increasing n (q ∷ us) → Rest rs (nlri_of q) us
rest-later {n = n} q rest (next b i) r = (
  λ m. (((rest r).0 (later m)).0, increasing-after i m),
  λ p. ⊎_elim (λ e. absurd (opposite (rw e at p.1) (before-itself (nlri_of q)))) (λ l. l) (among_cases ((rest r).1 (p.0, before-then n (nlri_of q) (nlri_of r) b p.1))),
)

from : (calls : ℕ) (t : List ℕ) → sound_of t ≡ true → (n output : List ℕ) → 124 ≤ length output → (us : List Route) → Increasing n us → Rest (routes_of t) n us
    → told_in_turn (replicate calls t) n output ≡ take calls us
unfolding told_in_turn
from zero t s n output room us i rest = refl
from (suc calls) t s n output room us i rest = go us i rest (step t (replicate calls t) n output room) (from calls t s)
  where
    go : (us : List Route) → Increasing n us → Rest (routes_of t) n us → Step t (replicate calls t) n output
        → ((k left : List ℕ) → 124 ≤ length left → (vs : List Route) → Increasing k vs → Rest (routes_of t) k vs → told_in_turn (replicate calls t) k left ≡ take calls vs)
        → told_in_turn (t ∷ replicate calls t) n output ≡ take (suc calls) us
    go [] i rest (ended e none) on = e
    go [] i rest (given r s c left enough e) on = absurd (among_none ((rest r).1 (c.member, c.after)))
    go (q ∷ vs) (next b i) rest (ended e none) on = absurd (none s q ((rest q).0 (first refl)).0 b)
    go (q ∷ vs) (next b i) rest (given r s c left enough e) on =
        let is : r ≡ q = next-unique n (sound-holdable t s).increasing r q c (rest-next q rest (next b i)) in
        e ∙ ap (λ (x : Route). x ∷ told_in_turn (replicate calls t) (nlri_of x) left) is ∙ ap (λ (l : List Route). q ∷ l) (on (nlri_of q) left enough vs i (rest-later q rest (next b i)))

whole : (calls : ℕ) (t output : List ℕ) → sound_of t ≡ true → 124 ≤ length output → told_in_turn (replicate calls t) [] output ≡ take calls (routes_of t)
whole calls t output s room =
    let i = (sound-holdable t s).increasing in
    from calls t s [] output room (routes_of t) i (λ r. (λ m. (m, increasing-after i m), λ p. p.0))

pub in_turn_rule : InTurnRule
in_turn_rule = record { whole = whole; increasing = increasing; held = held; kept = kept }
