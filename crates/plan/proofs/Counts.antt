-- Counting: the commonest attribute, the different flows, and how many routes the planner proposes.
use Prim.Native.Nat.{ℕ, zero, suc, ◌+◌, ◌≤◌}
use mathlib.Core.Path.{◌≡◌, refl, sym, ap, ◌∙◌, subst}
use mathlib.Core.Bool.{true, false}
use mathlib.Core.List.{List, [], ◌∷◌}
use mathlib.Core.Logic.{◌≢◌, ⊎_elim}
use native.Mathlib.Omega.{arith}
use lib.ListN.{length}
use borrow.Author.Tests.{ltb-true, ltb-false}
use Rattle.octets.specs.Choice.{pick}
use Rattle.octets.specs.Order.{same}
use Rattle.octets.specs.Lists.{Among, first, later}
use Rattle.octets.proofs.Choice.{tested, opposite, both-held, both_true, either_true, either-false-left, either-false-right, pick-case}
use Rattle.octets.proofs.Orders.{same-equal, same-of-equal}
use Rattle.octets.proofs.Among.{among_none, among_cases}
use Rattle.plan.specs.Flows.{Vrf, ListedFlow, same_flow, is_listed, different}
use Rattle.plan.specs.Commonest.{wanting, others, is_wanted, leading, commonest}
use Rattle.plan.specs.Planning.{routes_for, planned, proposal}

-- flows that want an attribute, and the others
pub split : (a : List ℕ) (fs : List ListedFlow) → wanting a fs + length (others a fs) ≡ length fs
unfolding wanting others pick
split a [] = refl
split a (f ∷ fs) =
    let h = split a fs in
    tested (same f.wanted a) (λ t. rw t (omega arith)) (λ n. rw n (omega arith))

-- an attribute that is wanted is wanted by one of them
pub wanted_by : (a : List ℕ) (fs : List ListedFlow) → 1 ≤ wanting a fs → (f : ListedFlow) × Among f fs × (f.wanted ≡ a)
unfolding wanting pick
wanted_by a [] h = absurd (omega arith)
wanted_by a (f ∷ fs) h =
    tested (same f.wanted a)
    (λ t. (f, first refl, same-equal _ _ t))
    (λ n. let r = wanted_by a fs (rw n at h) in (r.0, later r.1, r.2))

-- what one of them wants is wanted
pub wants-some : (fs : List ListedFlow) (f : ListedFlow) → Among f fs → 1 ≤ wanting f.wanted fs
unfolding wanting pick
wants-some [] f m = elim m [ ]
wants-some (g ∷ fs) f (first e) = rw (same-of-equal g.wanted f.wanted (ap (λ (x : ListedFlow). x.wanted) (sym e))) (omega arith)
wants-some (g ∷ fs) f (later m) =
    let h = wants-some fs f m in
    tested (same g.wanted f.wanted) (λ t. rw t (omega arith)) (λ n. rw n h)

-- different flows

pub record SameFlow (f g : ListedFlow) : Type 0 where
  pub source : f.source ≡ g.source
  pub group : f.group ≡ g.group

pub same_flow_lem : (f g : ListedFlow) → same_flow f g ≡ true → SameFlow f g
unfolding same_flow
same_flow_lem f g h = let b = both-held _ _ h in record { source = same-equal _ _ b.0; group = same-equal _ _ b.1 }

pub flow-same : (f g : ListedFlow) → SameFlow f g → same_flow f g ≡ true
unfolding same_flow
flow-same f g h = both_true _ _ (same-of-equal _ _ h.source) (same-of-equal _ _ h.group)

pub same_of : {f g : ListedFlow} → f ≡ g → SameFlow f g
same_of e = record { source = ap (λ (x : ListedFlow). x.source) e; group = ap (λ (x : ListedFlow). x.group) e }

pub same-chain : {f g h : ListedFlow} → SameFlow f g → SameFlow g h → SameFlow f h
same-chain p q = record { source = p.source ∙ q.source; group = p.group ∙ q.group }

pub same_back : {f g : ListedFlow} → SameFlow f g → SameFlow g f
same_back p = record { source = sym p.source; group = sym p.group }

-- a flow is is_listed: one of them is the same
pub listed-one : (f : ListedFlow) (fs : List ListedFlow) → is_listed f fs ≡ true → (g : ListedFlow) × Among g fs × SameFlow f g
unfolding is_listed
listed-one f [] h = absurd (opposite {b = true} refl (sym h))
listed-one f (g ∷ fs) h =
    ⊎_elim (λ t. (g, first refl, same_flow_lem f g t)) (λ t. let r = listed-one f fs t in (r.0, later r.1, r.2)) (either_true _ _ h)

pub unlisted : (f : ListedFlow) (fs : List ListedFlow) → is_listed f fs ≡ false → (g : ListedFlow) → Among g fs → SameFlow f g → ⊥
unfolding is_listed
unlisted f [] n g m s = elim m [ ]
unlisted f (h ∷ fs) n g (first e) s = opposite (flow-same f g s) (rw (← e) at (either-false-left _ _ n))
unlisted f (h ∷ fs) n g (later m) s = unlisted f fs (either-false-right _ _ n) g m s

-- the different flows are among the flows
pub different-among : (fs : List ListedFlow) (f : ListedFlow) → Among f (different fs) → Among f fs
unfolding different pick
different-among [] f m = elim m [ ]
different-among (g ∷ fs) f m =
    tested (is_listed g fs)
    (λ t. later (different-among fs f (rw t at m)))
    (λ n. go (different-among fs f) (rw n at m))
  where
    go : (Among f (different fs) → Among f fs) → Among f (g ∷ different fs) → Among f (g ∷ fs)
    go h (first e) = first e
    go h (later k) = later (h k)

-- each flow is the same as one of the different flows
pub among-different : (fs : List ListedFlow) (f : ListedFlow) → Among f fs → (g : ListedFlow) × Among g (different fs) × SameFlow f g
unfolding different pick
among-different [] f m = absurd (among_none m)
among-different (g ∷ fs) f m =
    tested (is_listed g fs)
    (λ t.
    rw t (⊎_elim (λ e.
    let l = listed-one g fs t in
    let r = among-different fs l.0 l.1 in
    (r.0, r.1, same-chain (same_of e) (same-chain l.2 r.2)))
    (λ k. among-different fs f k)
    (among_cases m)))
    (λ n.
    rw n (⊎_elim {C = (h : ListedFlow) × Among h (g ∷ different fs) × SameFlow f h}
    (λ e. (g, first refl, same_of e))
    (λ k. let r = among-different fs f k in (r.0, later r.1, r.2))
    (among_cases m)))

-- no two of them are one flow
pub data Apart : List ListedFlow → Type 0 where
  none : Apart []
  one : {f : ListedFlow} {fs : List ListedFlow} → ((g : ListedFlow) → Among g fs → SameFlow f g → ⊥) → Apart fs → Apart (f ∷ fs)

pub different-apart : (fs : List ListedFlow) → Apart (different fs)
unfolding different pick
different-apart [] = none
different-apart (f ∷ fs) =
    let h = different-apart fs in
    tested (is_listed f fs) (λ t. rw t h) (λ n. rw n (one (λ g m s. unlisted f fs n g (different-among fs g m) s) h))

pub others-among : (a : List ℕ) (fs : List ListedFlow) (f : ListedFlow) → Among f (others a fs) → Among f fs × (f.wanted ≡ a → ⊥)
unfolding others pick
others-among a [] f m = elim m [ ]
others-among a (g ∷ fs) f m =
    tested (same g.wanted a)
    (λ t. let r = others-among a fs f (rw t at m) in (later r.0, r.1))
    (λ n. go n (others-among a fs f) (rw n at m))
  where
    go : same g.wanted a ≡ false → (Among f (others a fs) → Among f fs × (f.wanted ≡ a → ⊥)) → Among f (g ∷ others a fs) → Among f (g ∷ fs) × (f.wanted ≡ a → ⊥)
    go n h (first e) = (first e, λ w. opposite (same-of-equal g.wanted a (ap (λ (x : ListedFlow). x.wanted) (sym e) ∙ w)) n)
    go n h (later k) = (later (h k).0, (h k).1)

pub among-others : (a : List ℕ) (fs : List ListedFlow) (f : ListedFlow) → Among f fs → same f.wanted a ≡ false → Among f (others a fs)
unfolding others pick
among-others a [] f m n = elim m [ ]
among-others a (g ∷ fs) f (first e) n = rw (rw e at n) (first e)
among-others a (g ∷ fs) f (later m) n =
    let h = among-others a fs f m n in
    tested (same g.wanted a) (λ t. rw t h) (λ k. rw k (later h))

pub others_apart : (a : List ℕ) {fs : List ListedFlow} → Apart fs → Apart (others a fs)
unfolding others pick
others_apart a none = none
others_apart a (one {f} {fs} h p) =
    let k = others_apart a p in
    tested (same f.wanted a) (λ t. rw t k) (λ n. rw n (one (λ g m s. h g (others-among a fs g m).0 s) k))

-- flows of which no two are one, each of them one of others, are no more than these

record Without (f : ListedFlow) (es : List ListedFlow) : Type 0 where
  rest : List ListedFlow
  size : length es ≡ suc (length rest)
  kept : (g h : ListedFlow) → Among h es → SameFlow g h → (SameFlow f g → ⊥) → (k : ListedFlow) × Among k rest × SameFlow g k

without : (f : ListedFlow) (es : List ListedFlow) (h : ListedFlow) → Among h es → SameFlow f h → Without f es
without f [] h m s = elim m [ ]
without f (k ∷ es) h (first e) s =
    record {
      rest = es;
      size = refl;
      kept = λ g x m t n.
          ⊎_elim {C = (y : ListedFlow) × Among y es × SameFlow g y}
          (λ d. absurd (n (same-chain s (same-chain (same_of (e ∙ sym d)) (same_back t))))) (λ y. (x, y, t)) (among_cases m);
    }
without f (k ∷ es) h (later m) s =
    let w = without f es h m s in
    record {
      rest = k ∷ w.rest;
      size = ap suc w.size;
      kept = λ g x m t n.
          ⊎_elim {C = (y : ListedFlow) × Among y (k ∷ w.rest) × SameFlow g y}
          (λ d. (k, first refl, same-chain t (same_of d)))
          (λ y. let r = w.kept g x y t n in (r.0, later r.1, r.2))
          (among_cases m);
    }

pub fewer : {fs : List ListedFlow} (es : List ListedFlow) → Apart fs → ((f : ListedFlow) → Among f fs → (g : ListedFlow) × Among g es × SameFlow f g) → length fs ≤ length es
fewer es none h = omega arith
fewer es (one {f} {fs} n a) h =
    let x = h f (first refl) in
    let w = without f es x.0 x.1 x.2 in
    let r = fewer w.rest a (λ g m. let y = h g (later m) in w.kept g y.0 y.1 y.2 (n g m)) in
    omega (arith, w.size)

pub different-length : (fs : List ListedFlow) → length (different fs) ≤ length fs
unfolding different pick
different-length [] = omega arith
different-length (f ∷ fs) = let h = different-length fs in tested (is_listed f fs) (λ t. rw t (omega arith)) (λ n. rw n (omega arith))

-- the one chosen is wanted at least as often as each
pub wanted-one : (a : List ℕ) (fs : List ListedFlow) → is_wanted a fs ≡ true → (f : ListedFlow) × Among f fs × (f.wanted ≡ a)
unfolding is_wanted
wanted-one a [] h = absurd (opposite {b = true} refl (sym h))
wanted-one a (f ∷ fs) h =
    ⊎_elim (λ t. (f, first refl, same-equal _ _ t)) (λ t. let r = wanted-one a fs t in (r.0, later r.1, r.2)) (either_true _ _ h)

pub leads : (all fs : List ListedFlow) (best : List ℕ) (n : ℕ) → n ≤ wanting best all → n ≤ wanting (leading all best n fs) all
unfolding leading
leads all [] best n h = h
leads all (g ∷ fs) best n h =
    pick-case (λ x. n ≤ wanting x all) _ _ _ (λ t. leads all fs best n h)
    (λ f. pick-case (λ x. n ≤ wanting x all) _ _ _
    (λ t. let l = ltb-true n (wanting g.wanted all) t in let k = leads all fs g.wanted (wanting g.wanted all) (omega arith) in omega arith)
    (λ k. leads all fs best n h))

pub most : (all fs : List ListedFlow) (best : List ℕ) (n : ℕ) → n ≤ wanting best all → (f : ListedFlow) → Among f fs → wanting f.wanted all ≤ wanting (leading all best n fs) all
unfolding leading
most all [] best n h f m = absurd (among_none m)
most all (g ∷ fs) best n h f m =
    pick-case (λ x. wanting f.wanted all ≤ wanting x all) _ _ _
    (λ t.
    ⊎_elim
    (λ e. let w = wanted-one g.wanted fs t in
    subst (λ (x : List ℕ). wanting x all ≤ wanting (leading all best n fs) all) (w.2 ∙ ap (λ (x : ListedFlow). x.wanted) (sym e)) (most all fs best n h w.0 w.1))
    (λ k. most all fs best n h f k)
    (among_cases m))
    (λ u. pick-case (λ x. wanting f.wanted all ≤ wanting x all) _ _ _
    (λ t. ⊎_elim (λ e. rw e (leads all fs g.wanted (wanting g.wanted all) (omega arith))) (λ k. most all fs g.wanted (wanting g.wanted all) (omega arith) f k) (among_cases m))
    (λ k. ⊎_elim (λ e. let l = ltb-false n (wanting g.wanted all) k in let d = leads all fs best n h in rw e (omega arith)) (λ x. most all fs best n h f x) (among_cases m)))

pub commonest-most : (a : List ℕ) (fs : List ListedFlow) → wanting a (different fs) ≤ wanting (commonest fs) (different fs)
unfolding commonest different wanting
commonest-most a [] = omega arith
commonest-most a (k ∷ ks) = go (wanting a (different (k ∷ ks))) refl
  where
    go : (n : ℕ) → wanting a (different (k ∷ ks)) ≡ n → n ≤ wanting (leading (different (k ∷ ks)) k.wanted 0 (k ∷ ks)) (different (k ∷ ks))
    go zero e = omega arith
    go (suc n) e =
        let w = wanted_by a (different (k ∷ ks)) (omega arith) in
        let m = most (different (k ∷ ks)) (k ∷ ks) k.wanted 0 (omega arith) w.0 (different-among (k ∷ ks) w.0 w.1) in
        omega (arith, rw w.2 at m)

-- other flows than those that want the commonest are the fewest
pub fewest : (a : List ℕ) (fs : List ListedFlow) → length (others (commonest fs) (different fs)) ≤ length (others a (different fs))
fewest a fs = omega (arith, split a (different fs), split (commonest fs) (different fs), commonest-most a fs)

pub routes-length : (vrf : Vrf) (fs : List ListedFlow) → length (routes_for vrf fs) ≡ length fs
unfolding routes_for
routes-length vrf [] = refl
routes-length vrf (f ∷ fs) = ap suc (routes-length vrf fs)

pub plan-bound : (vrf : Vrf) (fs : List ListedFlow) (a : List ℕ) → length (proposal vrf fs) ≤ 1 + length (others a (different fs))
unfolding proposal planned
plan-bound vrf [] a = omega arith
plan-bound vrf (f ∷ fs) a = rw (routes-length vrf _) (omega (arith, fewest a (f ∷ fs)))

pub plan-none : (vrf : Vrf) → proposal vrf [] ≡ []
unfolding proposal
plan-none vrf = refl

-- some flow is among the different flows
pub different-some : (f : ListedFlow) (fs : List ListedFlow) → (g : ListedFlow) × Among g (different (f ∷ fs))
different-some f fs = let r = among-different (f ∷ fs) f (first refl) in (r.0, r.1)

-- the commonest attribute is wanted
pub commonest-wanted : (f : ListedFlow) (fs : List ListedFlow) → (g : ListedFlow) × Among g (different (f ∷ fs)) × (g.wanted ≡ commonest (f ∷ fs))
commonest-wanted f fs =
    let s = different-some f fs in
    wanted_by (commonest (f ∷ fs)) (different (f ∷ fs))
    (omega (arith, wants-some (different (f ∷ fs)) s.0 s.1, commonest-most s.0.wanted (f ∷ fs)))

pub plan-fits : (vrf : Vrf) (fs : List ListedFlow) → length (proposal vrf fs) ≤ length fs
unfolding proposal
plan-fits vrf [] = omega arith
plan-fits vrf (f ∷ fs) =
    let c = commonest-wanted f fs in
    let w : 1 ≤ wanting (commonest (f ∷ fs)) (different (f ∷ fs)) = rw c.2 at (wants-some (different (f ∷ fs)) c.0 c.1) in
    omega (arith, plan-bound vrf (f ∷ fs) (commonest (f ∷ fs)), split (commonest (f ∷ fs)) (different (f ∷ fs)), different-length (f ∷ fs))

pub plan-least : (vrf : Vrf) (fs es : List ListedFlow) (a : List ℕ)
    → ((f : ListedFlow) → Among f fs → f.wanted ≢ a → (g : ListedFlow) × Among g es × (g.source ≡ f.source) × (g.group ≡ f.group)) → length (proposal vrf fs) ≤ 1 + length es
plan-least vrf fs es a h =
    let n =
    fewer es (others_apart a (different-apart fs)) (λ f m.
    let o = others-among a (different fs) f m in
    let r = h f (different-among fs f o.0) o.1 in
    (r.0, r.1, record { source = sym r.2; group = sym r.3 })) in
    omega (arith, plan-bound vrf fs a)
