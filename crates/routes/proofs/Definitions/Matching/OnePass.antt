-- One pass that keeps the best route so far comes to the route that the rule says.
use Prim.Native.Nat.{ℕ, suc, ◌≤◌}
use mathlib.Core.Path.{◌≡◌, refl, sym, subst}
use mathlib.Core.Bool.{true, false}
use mathlib.Core.List.{List, [], ◌∷◌, ◌++◌, append_assoc, append-nil}
use mathlib.Core.Logic.{◌⊎◌, inl, inr, ⊎_elim}
use native.Mathlib.Omega.{arith}
use borrow.Author.Tests.{eq-eqb, ne_eqb, lt-ltb, le-ltb}
use Rattle.octets.specs.Order.{before}
use Rattle.octets.specs.Lists.{first}
use Rattle.octets.proofs.Choice.{opposite, pick_true, pick-false, pick-case, tested, either_left, either_second, either-false, both_left, both_true, both_right}
use Rattle.octets.proofs.Orders.{before-itself, before-once, before-not}
use Rattle.octets.proofs.Among.{among_none, among-left, among-right, among-each-last}
use Rattle.routes.specs.Route.{Route, Distinct}
use Rattle.routes.specs.Query.{Wanted, Query}
use Rattle.routes.specs.Matching.{eligible, distinguisher_of, Found, nothing, found, match_in}
use Rattle.routes.specs.OnePass.{tier_of, tier_from, ahead, against, better, scanned}
use Rattle.routes.proofs.Definitions.Matching.Lowest.{Least}
use Rattle.routes.proofs.Definitions.Matching.First.{First, nowhere, here, past, first_range, first-is, first-unique}

better-nowhere : (afi : ℕ) (r : Route) → better afi 0 r nothing ≡ nothing
unfolding better
better-nowhere afi r = pick_true _ _ _ (eq-eqb 0 0 refl)

-- a route of a tier that is ahead of the best so far is the best, one that is not leaves it
module _ (afi : ℕ) (tier : ℕ) (r : Route) (some : (tier ≡ 0 → ⊥)) where
  better-first : better afi tier r nothing ≡ found tier r
  unfolding better against
  better-first = pick-false _ _ _ (ne_eqb tier 0 some)

  better-ahead : (t : ℕ) (u : Route) → ahead afi tier r t u ≡ true → better afi tier r (found t u) ≡ found tier r
  unfolding better against
  better-ahead t u h = rw (pick_true _ (found tier r) (found t u) h) (pick-false _ _ _ (ne_eqb tier 0 some))

  better-behind : (t : ℕ) (u : Route) → ahead afi tier r t u ≡ false → better afi tier r (found t u) ≡ found t u
  unfolding better against
  better-behind t u h = rw (pick-false _ (found tier r) (found t u) h) (pick-false _ _ _ (ne_eqb tier 0 some))

module _ (afi : ℕ) (router : List ℕ) (r : Route) (seen : List Route) where
  -- the routes seen, with this one
  abbrev more : List Route
  more = seen ++ (r ∷ [])

  -- a route's tier is not below the first of the tiers
  tier-range : (tier : ℕ) (ws : List Wanted) → (tier_from afi router tier ws r ≡ 0) ⊎ (tier ≤ tier_from afi router tier ws r)
  unfolding tier_from
  tier-range tier [] = inl refl
  tier-range tier (w ∷ ws) =
      pick-case (λ n. (n ≡ 0) ⊎ (tier ≤ n)) _ _ _ (λ t. inr (omega arith)) (λ f. ⊎_elim (λ e. inl e) (λ l. inr (omega arith)) (tier-range (suc tier) ws))

  -- the best so far is of a lower tier, or of a higher one
  better-kept : (n tier : ℕ) (u : Route) → (n ≡ 0) ⊎ (suc tier ≤ n) → better afi n r (found tier u) ≡ found tier u
  unfolding better ahead
  better-kept n tier u (inl e) = pick_true _ _ _ (eq-eqb n 0 e)
  better-kept n tier u (inr h) =
      let other : (n ≡ tier) → ⊥ = λ e. omega arith in
      better-behind afi n r (λ e. omega arith) tier u (either-false _ _ (le-ltb n tier (omega arith)) (both_left _ _ (ne_eqb n tier other)))

  better-lower : (tier : ℕ) (ws : List Wanted) (best : Found) → (tier ≡ 0 → ⊥) → First afi router seen (suc tier) ws best → better afi tier r best ≡ found tier r
  unfolding ahead
  better-lower tier ws nothing some f = better-first afi tier r some
  better-lower tier ws (found t u) some f = let l = first_range f in better-ahead afi tier r some t u (either_left _ _ (lt-ltb tier t (omega arith)))

  module _ (w : Wanted) (u : Route) (l : Least afi router w seen u) where
    -- the best so far stays, or the route takes its place
    least_kept : (eligible afi router w r ≡ true → before (distinguisher_of afi r) (distinguisher_of afi u) ≡ false) → Least afi router w more u
    least_kept h = record { member = among-left _ l.member; good = l.good; least = among-each-last _ seen l.least h }

    least-taken : eligible afi router w r ≡ true → before (distinguisher_of afi r) (distinguisher_of afi u) ≡ true → Least afi router w more r
    least-taken good b =
        record { member = among-right seen (first refl); good = good; least = among-each-last _ seen (λ v m h. before-not _ _ _ (l.least v m h) (before-once _ _ b)) (λ _. before-itself _) }

  better-goes : {tier : ℕ} {ws : List Wanted} {best : Found} → First afi router seen tier ws best → (tier ≡ 0 → ⊥) → First afi router more tier ws (better afi (tier_from afi router tier ws r) r best)
  unfolding tier_from ahead
  better-goes nowhere some = subst (First afi router more _ []) (sym (better-nowhere afi r)) nowhere
  better-goes (here {tier = tier} {w = w} {ws = ws} {r = u} l) some =
      pick-case (λ n. First afi router more tier (w ∷ ws) (better afi n r (found tier u))) _ _ _
      (λ good.
      tested (before (distinguisher_of afi r) (distinguisher_of afi u))
      (λ b. subst (First afi router more tier (w ∷ ws)) (sym (better-ahead afi tier r some tier u (either_second _ _ (both_true _ _ (eq-eqb tier tier refl) b)))) (here (least-taken w u l good b)))
      (λ b. subst (First afi router more tier (w ∷ ws)) (sym (better-behind afi tier r some tier u (either-false _ _ (le-ltb tier tier (omega arith)) (both_right _ _ (eq-eqb tier tier refl) b)))) (here (least_kept w u l (λ _. b)))))
      (λ bad. subst (First afi router more tier (w ∷ ws)) (sym (better-kept _ tier u (tier-range (suc tier) ws))) (here (least_kept w u l (λ good. absurd (opposite good bad)))))
  better-goes (past {tier = tier} {w = w} {ws = ws} {best = best} n f) some =
      pick-case (λ m. First afi router more tier (w ∷ ws) (better afi m r best)) _ _ _
      (λ good. subst (First afi router more tier (w ∷ ws)) (sym (better-lower tier ws best some f))
      (here (record { member = among-right seen (first refl); good = good; least = among-each-last _ seen (λ u m h. absurd (opposite h (n u m))) (λ _. before-itself _) })))
      (λ bad. past (among-each-last _ seen n bad) (better-goes f (λ e. omega arith)))

scanned-goes : (afi : ℕ) (q : Query) (best : Found) (seen rs : List Route) → First afi q.router seen 1 q.tiers best → First afi q.router (seen ++ rs) 1 q.tiers (scanned afi q best rs)
unfolding scanned
scanned-goes afi q best seen [] f = rw append-nil f
scanned-goes afi q best seen (r ∷ rs) f =
    rw (append_assoc seen (r ∷ []) rs) at (scanned-goes afi q (better afi (tier_of afi q r) r best) (seen ++ (r ∷ [])) rs (better-goes afi q.router r seen f (λ e. omega arith)))

first-none : (afi : ℕ) (router : List ℕ) (tier : ℕ) (ws : List Wanted) → First afi router [] tier ws nothing
first-none afi router tier [] = nowhere
first-none afi router tier (w ∷ ws) = past (λ u m. absurd (among_none m)) (first-none afi router (suc tier) ws)

-- with no NLRI twice, the pass from nothing is the match
pub one-pass : (afi : ℕ) (q : Query) (rs : List Route) → Distinct rs → scanned afi q nothing rs ≡ match_in afi q rs
one-pass afi q rs d =
    sym (first-unique afi q.router d (λ w r good m. m) (λ w r good m. m) (first-is afi q rs) (scanned-goes afi q nothing [] rs (first-none afi q.router 1 q.tiers)))
