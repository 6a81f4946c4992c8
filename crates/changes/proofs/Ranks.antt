-- Where an NLRI stands, or belongs, among routes: what is at the front of the routes from its rank on.
use Prim.Native.Nat.{ℕ, zero, suc, ◌≤◌, ◌<◌}
use mathlib.Core.Path.{◌≡◌, refl, sym, ap, ◌∙◌}
use mathlib.Core.Bool.{true, false}
use mathlib.Core.List.{List, [], ◌∷◌, ◌++◌}
use native.Mathlib.Omega.{arith}
use lib.ListN.{length, take, drop}
use Rattle.octets.specs.Order.{same, before}
use Rattle.octets.proofs.Choice.{opposite, pick_true, pick-false, tested}
use Rattle.octets.proofs.Orders.{same-swapped, before-other, before-then, before-differs, before-once}
use Rattle.routes.specs.Route.{Route, nlri_of, holds, inserted, removed, Increasing, last, next}
use Rattle.routes.proofs.Definitions.Lookups.{lookup_first, lookup-later, holds-held, holds-absent, holds-alike, lookup-none}
use Rattle.routes.proofs.Definitions.Increases.{lookup-early}
use Rattle.changes.specs.Changing.{rank, first_is}

pub rank-more : (n : List ℕ) (q : Route) (rs : List Route) → before (nlri_of q) n ≡ true → rank n (q ∷ rs) ≡ suc (rank n rs)
unfolding rank
rank-more n q rs h = pick_true _ _ _ h

pub rank-none : (n : List ℕ) (q : Route) (rs : List Route) → before (nlri_of q) n ≡ false → rank n (q ∷ rs) ≡ 0
unfolding rank
rank-none n q rs h = pick-false _ _ _ h

-- a route whose NLRI does not come before this one stands at its rank or behind it
pub rank-upto : (n : List ℕ) (rs : List Route) (i : ℕ) (q : Route) (later : List Route) → drop i rs ≡ q ∷ later → before (nlri_of q) n ≡ false → rank n rs ≤ i
unfolding rank
rank-upto n [] i q later e h = omega arith
rank-upto n (r ∷ rs) zero q later e h = let same : r ≡ q = cc in rw (rank-none n r rs (ap (λ (x : Route). before (nlri_of x) n) same ∙ h)) (omega arith)
rank-upto n (r ∷ rs) (suc i) q later e h =
    tested (before (nlri_of r) n)
    (λ b. rw (rank-more n r rs b) (omega (arith, rank-upto n rs i q later e h)))
    (λ b. rw (rank-none n r rs b) (omega arith))

-- in increasing routes one whose NLRI comes before this one stands before its rank
pub rank-past : (n : List ℕ) {p : List ℕ} {rs : List Route} → Increasing p rs → (i : ℕ) (q : Route) (later : List Route) → drop i rs ≡ q ∷ later → before (nlri_of q) n ≡ true
    → (before p n ≡ true) × (i < rank n rs)
rank-past n last zero q later e h = let z : ◌≡◌ {A = ℕ} 0 1 = cc in absurd (omega arith)
rank-past n last (suc i) q later e h = let z : ◌≡◌ {A = ℕ} 0 1 = cc in absurd (omega arith)
rank-past n {p} (next {r} {rs} b increasing) zero q later e h =
    let same : r ≡ q = cc in
    let first : before (nlri_of r) n ≡ true = ap (λ (x : Route). before (nlri_of x) n) same ∙ h in
    (before-then p (nlri_of r) n b first, rw (rank-more n r rs first) (omega arith))
rank-past n {p} (next {r} {rs} b increasing) (suc i) q later e h =
    let rest = rank-past n increasing i q later e h in
    (before-then p (nlri_of r) n b rest.0, rw (rank-more n r rs rest.0) (omega arith))

pub rank_most : (n : List ℕ) (rs : List Route) → rank n rs ≤ length rs
unfolding rank
rank_most n [] = omega arith
rank_most n (q ∷ rs) =
    tested (before (nlri_of q) n)
    (λ h. rw (pick_true _ _ _ h) (omega (arith, rank_most n rs)))
    (λ h. rw (pick-false _ _ _ h) (omega arith))

-- one that comes before another is neither the same nor after it
other : (n m : List ℕ) → before m n ≡ true → same n m ≡ false
other n m h = same-swapped n m ∙ before-differs m n h

-- in increasing routes an NLRI is held exactly where it belongs
pub held-at-rank : (n : List ℕ) {p : List ℕ} {rs : List Route} → Increasing p rs → holds n rs ≡ first_is n (drop (rank n rs) rs)
unfolding first_is rank
held-at-rank n last = holds-absent n [] (lookup-none n)
held-at-rank n (next {r} {rs} b i) =
    tested (before (nlri_of r) n)
    (λ h. rw (rank-more n r rs h) (holds-alike n (r ∷ rs) rs (lookup-later n r rs (other n (nlri_of r) h)) ∙ held-at-rank n i))
    (λ h.
    rw (rank-none n r rs h)
    (tested (same n (nlri_of r))
    (λ s. holds-held n (r ∷ rs) _ (lookup_first n r rs s) ∙ sym s)
    (λ s. holds-absent n (r ∷ rs) (lookup-later n r rs s ∙ lookup-early n i h) ∙ sym s)))

-- entering a route whose NLRI is held replaces the route there
pub inserted-held : (r : Route) (rs : List Route) → first_is (nlri_of r) (drop (rank (nlri_of r) rs) rs) ≡ true
    → inserted r rs ≡ take (rank (nlri_of r) rs) rs ++ (r ∷ drop (suc (rank (nlri_of r) rs)) rs)
unfolding first_is inserted rank
inserted-held r [] h = absurd (opposite {b = true} refl (sym h))
inserted-held r (q ∷ rs) h =
    tested (before (nlri_of q) (nlri_of r))
    (λ b.
    let here : first_is (nlri_of r) (drop (rank (nlri_of r) rs) rs) ≡ true = rw (rank-more (nlri_of r) q rs b) at h in
    rw (rank-more (nlri_of r) q rs b, pick-false _ _ _ (other (nlri_of r) (nlri_of q) b), pick-false _ _ _ (before-once (nlri_of q) (nlri_of r) b))
    (ap (λ (l : List Route). q ∷ l) (inserted-held r rs here)))
    (λ b.
    let here : same (nlri_of r) (nlri_of q) ≡ true = rw (rank-none (nlri_of r) q rs b) at h in
    rw (rank-none (nlri_of r) q rs b, pick_true _ _ _ here))

-- entering another route puts it where it belongs
pub inserted_new : (r : Route) (rs : List Route) → first_is (nlri_of r) (drop (rank (nlri_of r) rs) rs) ≡ false
    → inserted r rs ≡ take (rank (nlri_of r) rs) rs ++ (r ∷ drop (rank (nlri_of r) rs) rs)
unfolding first_is inserted rank
inserted_new r [] h = refl
inserted_new r (q ∷ rs) h =
    tested (before (nlri_of q) (nlri_of r))
    (λ b.
    let here : first_is (nlri_of r) (drop (rank (nlri_of r) rs) rs) ≡ false = rw (rank-more (nlri_of r) q rs b) at h in
    rw (rank-more (nlri_of r) q rs b, pick-false _ _ _ (other (nlri_of r) (nlri_of q) b), pick-false _ _ _ (before-once (nlri_of q) (nlri_of r) b))
    (ap (λ (l : List Route). q ∷ l) (inserted_new r rs here)))
    (λ b.
    let here : same (nlri_of r) (nlri_of q) ≡ false = rw (rank-none (nlri_of r) q rs b) at h in
    let after : before (nlri_of r) (nlri_of q) ≡ true = before-other (nlri_of q) (nlri_of r) (same-swapped (nlri_of q) (nlri_of r) ∙ here) b in
    rw (rank-none (nlri_of r) q rs b, pick-false _ _ _ here, pick_true _ _ _ after))

-- taking an NLRI out takes the route there out
pub removed-held : (n : List ℕ) (rs : List Route) → first_is n (drop (rank n rs) rs) ≡ true → removed n rs ≡ take (rank n rs) rs ++ drop (suc (rank n rs)) rs
unfolding first_is removed rank
removed-held n [] h = absurd (opposite {b = true} refl (sym h))
removed-held n (q ∷ rs) h =
    tested (before (nlri_of q) n)
    (λ b.
    let here : first_is n (drop (rank n rs) rs) ≡ true = rw (rank-more n q rs b) at h in
    rw (rank-more n q rs b, pick-false _ _ _ (other n (nlri_of q) b))
    (ap (λ (l : List Route). q ∷ l) (removed-held n rs here)))
    (λ b.
    let here : same n (nlri_of q) ≡ true = rw (rank-none n q rs b) at h in
    rw (rank-none n q rs b, pick_true _ _ _ here))

-- what is first from an index on stands at the index
pub first-within : (n : List ℕ) (rs : List Route) (i : ℕ) → first_is n (drop i rs) ≡ true → i < length rs
unfolding first_is
first-within n [] zero h = absurd (opposite {b = true} refl (sym h))
first-within n [] (suc i) h = absurd (opposite {b = true} refl (sym h))
first-within n (q ∷ rs) zero h = omega arith
first-within n (q ∷ rs) (suc i) h = omega (arith, first-within n rs i h)
