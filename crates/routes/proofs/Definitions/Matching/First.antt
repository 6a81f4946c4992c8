-- Which route `match_in` is: of the first tier that has a candidate, and in it of the lowest route distinguisher. Among routes with no NLRI
-- twice there is one such answer.
use Prim.Native.Nat.{ℕ, suc, ◌≤◌, ◌<◌}
use mathlib.Core.Path.{◌≡◌, refl, sym, ap, subst, ◌∙◌}
use mathlib.Core.Bool.{true}
use mathlib.Core.List.{List, [], ◌∷◌, ◌++◌}
use mathlib.Core.Logic.{◌⊎◌, inl, inr, ⊎_elim}
use native.Mathlib.Omega.{arith}
use lib.Dec.{eqb}
use borrow.Author.Tests.{eq-eqb, ne_eqb}
use Rattle.octets.specs.Choice.{pick}
use Rattle.octets.proofs.Choice.{opposite, pick_true, pick-false, pick-case, is_false}
use Rattle.octets.proofs.Orders.{before-neither}
use Rattle.octets.specs.Lists.{Among, PutIn, front, behind}
use Rattle.routes.specs.Route.{Route, attribute_of, Distinct}
use Rattle.routes.specs.Query.{Wanted, no_route, meets, Query}
use Rattle.routes.specs.Matching.{eligible, Found, nothing, found, or_else, lowest_in, first_of, match_in}
use Rattle.routes.specs.Rules.MatchRule.{NamesTunnel}
use Rattle.routes.proofs.Definitions.Lookups.{one-member}
use Rattle.routes.proofs.Definitions.Matching.Lowest.{None, Least, Lowest, lowest-is, lowest-without}
use Rattle.routes.proofs.Definitions.Matching.Conditions.{qualified, same-nlri}

module _ (afi : ℕ) (router : List ℕ) where
  -- the answer of these tiers, numbered from `tier` on
  pub data First (rs : List Route) : (tier : ℕ) → List Wanted → Found → Type 0 where
    nowhere : {tier : ℕ} → First rs tier [] nothing
    here : {tier : ℕ} {w : Wanted} {ws : List Wanted} {r : Route} → Least afi router w rs r → First rs tier (w ∷ ws) (found tier r)
    past : {tier : ℕ} {w : Wanted} {ws : List Wanted} {best : Found} → None afi router w rs → First rs (suc tier) ws best → First rs tier (w ∷ ws) best

  first_step : (rs : List Route) (tier : ℕ) (w : Wanted) (ws : List Wanted) (best rest : Found) → Lowest afi router tier w rs best → First rs (suc tier) ws rest → First rs tier (w ∷ ws) (or_else best rest)
  unfolding or_else
  first_step rs tier w ws nothing rest l f = past l f
  first_step rs tier w ws (found t r) rest l f = subst (λ n. First rs tier (w ∷ ws) (found n r)) (sym l.0) (here l.1)

  first-from : (rs : List Route) (tier : ℕ) (ws : List Wanted) → First rs tier ws (first_of afi router tier ws rs)
  unfolding first_of
  first-from rs tier [] = nowhere
  first-from rs tier (w ∷ ws) = first_step rs tier w ws _ _ (lowest-is afi router tier w rs) (first-from rs (suc tier) ws)

  -- candidates among some routes are among others
  abbrev pub Carried : (rs us : List Route) → Type 0
  Carried rs us = (w : Wanted) (r : Route) → eligible afi router w r ≡ true → Among r rs → Among r us

  module _ {rs us : List Route} (d : Distinct rs) (out : Carried rs us) (back : Carried us rs) where
    least-unique : {w : Wanted} {r u : Route} → Least afi router w rs r → Least afi router w us u → r ≡ u
    least-unique {w} {r} {u} l k =
        let there : Among u rs = back w u k.good k.member in
        let rd = before-neither _ _ (k.least r (out w r l.good l.member) l.good) (l.least u there k.good) in
        one-member r u d l.member there (same-nlri afi router w r u l.good k.good rd)

    pub first-unique : {tier : ℕ} {ws : List Wanted} {a b : Found} → First rs tier ws a → First us tier ws b → a ≡ b
    first-unique nowhere nowhere = refl
    first-unique (here {tier = tier} l) (here k) = ap (found tier) (least-unique l k)
    first-unique (here {w = w} {r = r} l) (past n g) = absurd (opposite l.good (n r (out w r l.good l.member)))
    first-unique (past n f) (here {w = w} {r = u} k) = absurd (opposite k.good (n u (back w u k.good k.member)))
    first-unique (past n f) (past m g) = first-unique f g

-- the answer, tier by tier

-- what is wanted of routes of a tier, by tiers that are numbered from `low` on
unfoldable pub wanted_at : (low tier : ℕ) → List Wanted → Wanted
wanted_at low tier [] = no_route
wanted_at low tier (w ∷ ws) = pick (eqb tier low) w (wanted_at (suc low) tier ws)

wanted-below : (low tier : ℕ) (ws : List Wanted) → tier < low → wanted_at low tier ws ≡ no_route
unfolding wanted_at
wanted-below low tier [] h = refl
wanted-below low tier (w ∷ ws) h = let other : tier ≡ low → ⊥ = λ e. omega arith in pick-false _ _ _ (ne_eqb tier low other) ∙ wanted-below (suc low) tier ws (omega arith)

none-wanted : (afi : ℕ) (router : List ℕ) (rs : List Route) {w : Wanted} → w ≡ no_route → None afi router w rs
unfolding meets
none-wanted afi router rs e u m = rw e (is_false _ (λ h. opposite (qualified afi router no_route u h).met refl))

module _ {afi : ℕ} {router : List ℕ} {rs : List Route} where
  pub first_range : {low : ℕ} {ws : List Wanted} {t : ℕ} {r : Route} → First afi router rs low ws (found t r) → low ≤ t
  first_range (here l) = omega arith
  first_range (past n f) = let l = first_range f in omega arith

  pub first-none : {low : ℕ} {ws : List Wanted} → First afi router rs low ws nothing → (tier : ℕ) → None afi router (wanted_at low tier ws) rs
  unfolding wanted_at
  first-none nowhere tier = none-wanted afi router rs refl
  first-none (past n f) tier = pick-case (λ w. None afi router w rs) _ _ _ (λ t. n) (λ e. first-none f tier)

  pub first-least : {low : ℕ} {ws : List Wanted} {t : ℕ} {r : Route} → First afi router rs low ws (found t r) → Least afi router (wanted_at low t ws) rs r
  unfolding wanted_at
  first-least {r = r} (here {tier = low} l) = subst (λ w. Least afi router w rs r) (sym (pick_true _ _ _ (eq-eqb low low refl))) l
  first-least {t = t} {r = r} (past {tier = low} n f) =
      let h = first_range f in
      let other : t ≡ low → ⊥ = λ e. omega arith in
      subst (λ w. Least afi router w rs r) (sym (pick-false _ _ _ (ne_eqb t low other))) (first-least f)

  pub first_below : {low : ℕ} {ws : List Wanted} {t : ℕ} {r : Route} → First afi router rs low ws (found t r) → (tier : ℕ) → tier < t → None afi router (wanted_at low tier ws) rs
  unfolding wanted_at
  first_below (here {tier = low} {w = w} {ws = ws} l) tier h = none-wanted afi router rs (wanted-below low tier (w ∷ ws) h)
  first_below (past n f) tier h = pick-case (λ w. None afi router w rs) _ _ _ (λ t. n) (λ e. first_below f tier h)

pub first-is : (afi : ℕ) (q : Query) (rs : List Route) → First afi q.router rs 1 q.tiers (match_in afi q rs)
unfolding match_in
first-is afi q rs = first-from afi q.router rs 1 q.tiers

-- of fewer routes, which still have what is taken, the same is taken
module _ (afi : ℕ) (router : List ℕ) {rs us : List Route} (fewer : (r : Route) → Among r us → Among r rs) where
  first-fewer : {tier : ℕ} {ws : List Wanted} {best : Found} → First afi router rs tier ws best → ((t : ℕ) (r : Route) → best ≡ found t r → Among r us) → First afi router us tier ws best
  first-fewer nowhere kept = nowhere
  first-fewer (here {tier = tier} {r = r} l) kept = here (record { member = kept tier r refl; good = l.good; least = λ u m. l.least u (fewer u m) })
  first-fewer (past n f) kept = past (λ u m. n u (fewer u m)) (first-fewer f kept)

pub match-fewer : (afi : ℕ) (q : Query) (rs us : List Route) → Distinct us → ((r : Route) → Among r us → Among r rs) → ((t : ℕ) (r : Route) → match_in afi q rs ≡ found t r → Among r us)
    → match_in afi q rs ≡ match_in afi q us
match-fewer afi q rs us d fewer kept = first-unique afi q.router {rs = us} d (λ w r h m. m) (λ w r h m. m) (first-fewer afi q.router fewer (first-is afi q rs) kept) (first-is afi q us)

-- a route put in anywhere is taken; or what is taken is the same without it
module _ (afi : ℕ) (router : List ℕ) {r : Route} {rs us : List Route} (p : PutIn r us rs) where
  abbrev Passed : Found → Found → Type 0
  Passed all less = ((t : ℕ) × (all ≡ found t r)) ⊎ (all ≡ less)

  first-without : (tier : ℕ) (ws : List Wanted) → Passed (first_of afi router tier ws rs) (first_of afi router tier ws us)
  unfolding first_of or_else
  first-without tier [] = inr refl
  first-without tier (w ∷ ws) = ⊎_elim (λ is. inl (tier, rw is)) (λ same. rw same (go (lowest_in afi router tier w us) (first-without (suc tier) ws))) (lowest-without afi router tier w p)
    where
      go : {all less : Found} (best : Found) → Passed all less → Passed (or_else best all) (or_else best less)
      go nothing passed = passed
      go (found t u) passed = inr refl

pub match-without : (afi : ℕ) (q : Query) {r : Route} {rs us : List Route} → PutIn r us rs → ((t : ℕ) × (match_in afi q rs ≡ found t r)) ⊎ (match_in afi q rs ≡ match_in afi q us)
unfolding match_in
match-without afi q p = first-without afi q.router p 1 q.tiers

-- a route put in behind some
pub put-behind : (r : Route) (earlier later : List Route) → PutIn r (earlier ++ later) (earlier ++ (r ∷ later))
put-behind r [] later = front
put-behind r (q ∷ earlier) later = behind (put-behind r earlier later)

-- a route that is taken names a tunnel
pub match-tunnel : (afi : ℕ) (q : Query) (rs : List Route) (tier : ℕ) (r : Route) → match_in afi q rs ≡ found tier r → NamesTunnel (attribute_of r)
match-tunnel afi q rs tier r e = (qualified afi q.router _ r (first-least (subst (First afi q.router rs 1 q.tiers) e (first-is afi q rs))).good).tunnel
