-- Laws of what routes hold: `lookup` and `holds` after `inserted`, `entered`, `removed` and `arranged`.
use Prim.Native.Nat.{ℕ}
use mathlib.Core.Path.{◌≡◌, refl, sym, ap, ◌∙◌}
use mathlib.Core.Bool.{true, false}
use mathlib.Core.List.{List, [], ◌∷◌}
use mathlib.Core.Logic.{◌↔◌, ◌⊎◌, inl, inr, ⊎_elim}
use native.Mathlib.Omega.{arith}
use Rattle.octets.specs.Choice.{pick}
use Rattle.octets.specs.Order.{same, before}
use Rattle.octets.specs.Lists.{Among, first, later}
use Rattle.octets.proofs.Choice.{opposite, pick_true, pick-false, pick-case, pick-cong, tested}
use Rattle.octets.proofs.Orders.{same-itself, same-equal, same-of-equal, same-swapped, unequal-other, before-other}
use Rattle.routes.specs.Route.{Route, nlri_of, Held, absent, held, lookup, is_held, holds, inserted, arranged, removed, Distinct, none, one}
use Rattle.routes.specs.Book.{entered}
use Rattle.routes.specs.Rules.CallRules.{LookupRule, HeldNow}

pub held_same : {r q : Route} {h : Held} → h ≡ held r → h ≡ held q → r ≡ q
held_same p q = cc

pub held-absent : {r : Route} {h : Held} → h ≡ held r → h ≡ absent → ⊥
held-absent p q = let z : ◌≡◌ {A = ℕ} 0 1 = cc in omega arith

-- lookups, step by step

pub lookup-none : (nlri : List ℕ) → lookup nlri [] ≡ absent
unfolding lookup
lookup-none nlri = refl

pub lookup_first : (nlri : List ℕ) (r : Route) (rs : List Route) → same nlri (nlri_of r) ≡ true → lookup nlri (r ∷ rs) ≡ held r
unfolding lookup
lookup_first nlri r rs t = pick_true _ _ _ t

pub lookup-later : (nlri : List ℕ) (r : Route) (rs : List Route) → same nlri (nlri_of r) ≡ false → lookup nlri (r ∷ rs) ≡ lookup nlri rs
unfolding lookup
lookup-later nlri r rs f = pick-false _ _ _ f

pub lookup-own : (r : Route) (rs : List Route) → lookup (nlri_of r) (r ∷ rs) ≡ held r
lookup-own r rs = lookup_first (nlri_of r) r rs (same-itself (nlri_of r))

pub lookup-behind : (nlri : List ℕ) (r : Route) (rs us : List Route) → lookup nlri rs ≡ lookup nlri us → lookup nlri (r ∷ rs) ≡ lookup nlri (r ∷ us)
unfolding lookup
lookup-behind nlri r rs us h = ap (λ (x : Held). pick (same nlri (nlri_of r)) (held r) x) h

-- a route hides one of the same NLRI behind it
lookup-hidden : (nlri : List ℕ) (r q : Route) (rs : List Route) → nlri_of r ≡ nlri_of q → lookup nlri (r ∷ rs) ≡ lookup nlri (r ∷ (q ∷ rs))
unfolding lookup
lookup-hidden nlri r q rs e = pick-cong _ _ _ _ _ (λ t. refl) (λ f. sym (lookup-later nlri q rs (rw (← e) f)))

-- routes of two NLRIs change places
lookup-changed : (nlri : List ℕ) (q r : Route) (rs : List Route) → same (nlri_of r) (nlri_of q) ≡ false → lookup nlri (q ∷ (r ∷ rs)) ≡ lookup nlri (r ∷ (q ∷ rs))
lookup-changed nlri q r rs d =
    tested (same nlri (nlri_of r))
    (λ t. lookup-later nlri q (r ∷ rs) (rw (same-equal nlri (nlri_of r) t) d) ∙ lookup_first nlri r rs t ∙ sym (lookup_first nlri r (q ∷ rs) t))
    (λ f. lookup-behind nlri q (r ∷ rs) rs (lookup-later nlri r rs f) ∙ sym (lookup-later nlri r (q ∷ rs) f))

-- what is held

pub holds-held : (nlri : List ℕ) (rs : List Route) (r : Route) → lookup nlri rs ≡ held r → holds nlri rs ≡ true
unfolding holds is_held
holds-held nlri rs r h = rw h

pub holds-absent : (nlri : List ℕ) (rs : List Route) → lookup nlri rs ≡ absent → holds nlri rs ≡ false
unfolding holds is_held
holds-absent nlri rs h = rw h

pub holds-alike : (nlri : List ℕ) (rs us : List Route) → lookup nlri rs ≡ lookup nlri us → holds nlri rs ≡ holds nlri us
unfolding holds
holds-alike nlri rs us h = rw h

-- a route is held, or none
pub held-or-absent : (nlri : List ℕ) (rs : List Route) → ((r : Route) × (lookup nlri rs ≡ held r)) ⊎ (lookup nlri rs ≡ absent)
held-or-absent nlri rs = go (lookup nlri rs)
  where
    go : (h : Held) → ((r : Route) × (h ≡ held r)) ⊎ (h ≡ absent)
    go absent = inr refl
    go (held r) = inl (r, refl)

pub absent-holds : (nlri : List ℕ) (rs : List Route) → holds nlri rs ≡ false → lookup nlri rs ≡ absent
absent-holds nlri rs h = ⊎_elim (λ p. absurd (opposite (holds-held nlri rs p.0 p.1) h)) (λ e. e) (held-or-absent nlri rs)

pub held-holds : (nlri : List ℕ) (rs : List Route) → holds nlri rs ≡ true → (r : Route) × (lookup nlri rs ≡ held r)
held-holds nlri rs h = ⊎_elim (λ p. p) (λ e. absurd (opposite h (holds-absent nlri rs e))) (held-or-absent nlri rs)

-- by the first route
pub lookup-cases : {P : Type 0} (nlri : List ℕ) (q : Route) (rs : List Route)
    → (nlri ≡ nlri_of q → lookup nlri (q ∷ rs) ≡ held q → P) → (same nlri (nlri_of q) ≡ false → lookup nlri (q ∷ rs) ≡ lookup nlri rs → P) → P
lookup-cases nlri q rs x y = tested (same nlri (nlri_of q)) (λ t. x (same-equal nlri (nlri_of q) t) (lookup_first nlri q rs t)) (λ f. y f (lookup-later nlri q rs f))

-- inserted and entered: the lookups are those with the route in front

-- by where the route goes
pub inserted-case : (P : List Route → Type 0) (r q : Route) (rs : List Route)
    → (nlri_of r ≡ nlri_of q → P (r ∷ rs)) → (before (nlri_of r) (nlri_of q) ≡ true → P (r ∷ (q ∷ rs)))
    → (same (nlri_of r) (nlri_of q) ≡ false → before (nlri_of q) (nlri_of r) ≡ true → P (q ∷ inserted r rs)) → P (inserted r (q ∷ rs))
unfolding inserted
inserted-case P r q rs x y z =
    pick-case P _ _ _ (λ t. x (same-equal (nlri_of r) (nlri_of q) t)) (λ d. pick-case P _ _ _ (λ t. y t) (λ f. z d (before-other (nlri_of r) (nlri_of q) d f)))

pub lookup-inserted : (nlri : List ℕ) (r : Route) (rs : List Route) → lookup nlri (inserted r rs) ≡ lookup nlri (r ∷ rs)
unfolding inserted
lookup-inserted nlri r [] = refl
lookup-inserted nlri r (q ∷ rs) =
    inserted-case (λ l. lookup nlri l ≡ lookup nlri (r ∷ (q ∷ rs))) r q rs (lookup-hidden nlri r q rs) (λ b. refl)
    (λ d b. lookup-behind nlri q (inserted r rs) (r ∷ rs) (lookup-inserted nlri r rs) ∙ lookup-changed nlri q r rs d)

pub lookup-entered : (nlri : List ℕ) (r : Route) (rs : List Route) → lookup nlri (entered r rs) ≡ lookup nlri (r ∷ rs)
unfolding entered
lookup-entered nlri r [] = refl
lookup-entered nlri r (q ∷ rs) =
    pick-case (λ l. lookup nlri l ≡ lookup nlri (r ∷ (q ∷ rs))) _ _ _ (λ t. lookup-hidden nlri r q rs (same-equal _ _ t))
    (λ d. lookup-behind nlri q (entered r rs) (r ∷ rs) (lookup-entered nlri r rs) ∙ lookup-changed nlri q r rs d)

-- what such routes hold: of its NLRI this route, of every other what was held
pub held-now : (r : Route) (rs us : List Route) → ((nlri : List ℕ) → lookup nlri us ≡ lookup nlri (r ∷ rs)) → HeldNow (nlri_of r) (held r) rs us
held-now r rs us h = record { own = h (nlri_of r) ∙ lookup-own r rs; others = λ other d. h other ∙ lookup-later other r rs (unequal-other other (nlri_of r) d) }

-- arranging keeps the lookups
pub lookup-arranged : (nlri : List ℕ) (rs : List Route) → lookup nlri (arranged rs) ≡ lookup nlri rs
unfolding arranged
lookup-arranged nlri [] = refl
lookup-arranged nlri (r ∷ rs) = lookup-inserted nlri r (arranged rs) ∙ lookup-behind nlri r (arranged rs) rs (lookup-arranged nlri rs)

-- removed

lookup-removed-other : (nlri other : List ℕ) (rs : List Route) → same nlri other ≡ false → lookup nlri (removed other rs) ≡ lookup nlri rs
unfolding removed
lookup-removed-other nlri other [] d = refl
lookup-removed-other nlri other (q ∷ rs) d =
    pick-case (λ l. lookup nlri l ≡ lookup nlri (q ∷ rs)) _ _ _ (λ t. sym (lookup-later nlri q rs (rw (← same-equal other (nlri_of q) t) d)))
    (λ f. lookup-behind nlri q (removed other rs) rs (lookup-removed-other nlri other rs d))

lookup-removed-same : (nlri : List ℕ) {rs : List Route} → Distinct rs → lookup nlri (removed nlri rs) ≡ absent
unfolding removed
lookup-removed-same nlri none = lookup-none nlri
lookup-removed-same nlri (one {r} {rs} h d) =
    pick-case (λ l. lookup nlri l ≡ absent) _ _ _ (λ t. rw (same-equal nlri (nlri_of r) t) h) (λ f. lookup-later nlri r (removed nlri rs) f ∙ lookup-removed-same nlri d)

pub lookup-removed : (nlri named : List ℕ) {rs : List Route} → Distinct rs → lookup nlri (removed named rs) ≡ pick (same nlri named) absent (lookup nlri rs)
lookup-removed nlri named {rs} d =
    pick-case (λ h. lookup nlri (removed named rs) ≡ h) _ _ _ (λ t. rw (same-equal nlri named t) (lookup-removed-same named d)) (lookup-removed-other nlri named rs)

pub removed-now : (nlri : List ℕ) {rs : List Route} → Distinct rs → HeldNow nlri absent rs (removed nlri rs)
removed-now nlri {rs} d = record { own = lookup-removed-same nlri d; others = λ other n. lookup-removed-other other nlri rs (unequal-other other nlri n) }

-- an NLRI that is not held is not removed
pub removed-absent : (nlri : List ℕ) (rs : List Route) → lookup nlri rs ≡ absent → removed nlri rs ≡ rs
unfolding removed
removed-absent nlri [] h = refl
removed-absent nlri (q ∷ rs) h =
    lookup-cases nlri q rs (λ t e. absurd (held-absent e h)) (λ f e. pick-false _ _ _ f ∙ ap (λ (l : List Route). q ∷ l) (removed-absent nlri rs (sym e ∙ h)))

-- distinct NLRIs

absent-removed : (nlri other : List ℕ) (rs : List Route) → lookup nlri rs ≡ absent → lookup nlri (removed other rs) ≡ absent
unfolding removed
absent-removed nlri other [] h = h
absent-removed nlri other (q ∷ rs) h =
    lookup-cases nlri q rs (λ t e. absurd (held-absent e h))
    (λ d e. pick-case (λ l. lookup nlri l ≡ absent) _ _ _ (λ t. sym e ∙ h) (λ f. lookup-later nlri q (removed other rs) d ∙ absent-removed nlri other rs (sym e ∙ h)))

pub distinct-removed : (nlri : List ℕ) {rs : List Route} → Distinct rs → Distinct (removed nlri rs)
unfolding removed
distinct-removed nlri none = none
distinct-removed nlri (one {r} {rs} h d) = pick-case Distinct _ _ _ (λ t. d) (λ f. one (absent-removed (nlri_of r) nlri rs h) (distinct-removed nlri d))

pub distinct-entered : (r : Route) {rs : List Route} → Distinct rs → Distinct (entered r rs)
unfolding entered
distinct-entered r none = one (lookup-none (nlri_of r)) none
distinct-entered r (one {r = q} {rs = rs} h d) =
    pick-case Distinct _ _ _ (λ t. one {r = r} {rs = rs} (rw (same-equal (nlri_of r) (nlri_of q) t) h) d)
    (λ f. one (lookup-entered (nlri_of q) r rs ∙ lookup-later (nlri_of q) r rs (same-swapped (nlri_of q) (nlri_of r) ∙ f) ∙ h) (distinct-entered r d))

-- members and lookups

pub lookup-member : {nlri : List ℕ} {r : Route} (rs : List Route) → lookup nlri rs ≡ held r → Among r rs × (nlri_of r ≡ nlri)
lookup-member {nlri} [] h = absurd (held-absent h (lookup-none nlri))
lookup-member {nlri} {r} (q ∷ rs) h =
    lookup-cases nlri q rs (λ t e. let is : r ≡ q = held_same h e in (first is, rw (is, t))) (λ f e. let m = lookup-member rs (sym e ∙ h) in (later m.0, m.1))

member-held : {r : Route} {rs : List Route} → Among r rs → lookup (nlri_of r) rs ≡ absent → ⊥
member-held {r} (first {y = q} {ys = rs} e) h = held-absent (lookup_first (nlri_of r) q rs (same-of-equal _ _ (ap nlri_of e))) h
member-held {r} (later {y = q} {ys = rs} m) h = lookup-cases (nlri_of r) q rs (λ t e. held-absent e h) (λ f e. member-held m (sym e ∙ h))

pub lookup-of-member : {r : Route} {rs : List Route} → Distinct rs → Among r rs → lookup (nlri_of r) rs ≡ held r
lookup-of-member {r} none m = elim m [ ]
lookup-of-member {r} (one {r = q} {rs = rs} h d) (first e) = rw e (lookup-own q rs)
lookup-of-member {r} (one {r = q} {rs = rs} h d) (later m) = lookup-cases (nlri_of r) q rs (λ t e. absurd (member-held m (rw t h))) (λ f e. e ∙ lookup-of-member d m)

-- with no NLRI twice, members of one NLRI are one
pub one-member : {rs : List Route} (r u : Route) → Distinct rs → Among r rs → Among u rs → nlri_of r ≡ nlri_of u → r ≡ u
one-member {rs} r u d m n e = held_same (lookup-of-member d m) (ap (λ (x : List ℕ). lookup x rs) e ∙ lookup-of-member d n)

-- what is held of an NLRI, by the routes that are there
pub lookup_rule : LookupRule
lookup_rule =
    record {
      missing = λ nlri rs. (
        λ e r m is. member-held m (ap (λ (x : List ℕ). lookup x rs) is ∙ e),
        λ none. ⊎_elim (λ p. let m = lookup-member rs p.1 in absurd (none p.0 m.0 m.1)) (λ e. e) (held-or-absent nlri rs),
      );
      found = λ nlri r rs d. (lookup-member rs, λ m. rw (← m.1) (lookup-of-member d m.0));
    }

pub lookup-members : {rs us : List Route} → Distinct rs → Distinct us → ((r : Route) → Among r rs ↔ Among r us) → (nlri : List ℕ) → lookup nlri rs ≡ lookup nlri us
lookup-members {rs} {us} d e m nlri =
    ⊎_elim (λ p. let n = lookup-member rs p.1 in p.1 ∙ sym ((lookup_rule.found nlri p.0 us e).1 ((m p.0).0 n.0, n.1)))
    (λ a. a ∙ sym ((lookup_rule.missing nlri us).1 (λ r n. (lookup_rule.missing nlri rs).0 a r ((m r).1 n))))
    (held-or-absent nlri rs)
