-- Laws of routes in increasing NLRIs: such routes are given by their lookups.
use Prim.Native.Nat.{ℕ, suc}
use mathlib.Core.Path.{◌≡◌, refl, sym, ap, ap₂, ◌∙◌}
use mathlib.Core.Bool.{true, false}
use mathlib.Core.List.{List, [], ◌∷◌}
use mathlib.Core.Logic.{◌↔◌}
use lib.ListN.{length}
use Rattle.octets.specs.Order.{before}
use Rattle.octets.specs.Lists.{Among, first, later}
use Rattle.octets.proofs.Choice.{opposite, pick-case, is_false}
use Rattle.octets.proofs.Orders.{same-of-equal, before-itself, before-then, before-neither}
use Rattle.routes.specs.Route.{Route, nlri_of, absent, lookup, holds, inserted, arranged, removed, Distinct, none, one, Increasing, last, next}
use Rattle.routes.specs.Place.{acceptable, AllAcceptable}
use Rattle.routes.specs.Book.{entered}
use Rattle.routes.proofs.Definitions.Lookups.{held_same, held-absent, lookup-none, lookup_first, lookup-later, lookup-own, holds-absent, holds-alike, lookup-cases, inserted-case, lookup-members}

-- increasing NLRIs

pub increasing-from : (p q : List ℕ) {rs : List Route} → before p q ≡ true → Increasing q rs → Increasing p rs
increasing-from p q b last = last
increasing-from p q b (next {r} h i) = next (before-then p q (nlri_of r) b h) i

-- what does not come after the previous NLRI is not held
pub lookup-early : (nlri : List ℕ) {p : List ℕ} {rs : List Route} → Increasing p rs → before p nlri ≡ false → lookup nlri rs ≡ absent
lookup-early nlri last h = lookup-none nlri
lookup-early nlri {p} (next {r} {rs} b i) h =
    lookup-cases nlri r rs (λ t e. absurd (opposite {b = before p nlri} (rw t b) h))
    (λ f e. e ∙ lookup-early nlri i (is_false _ (λ t. opposite {b = before p nlri} (before-then p (nlri_of r) nlri b t) h)))

pub distinct-increasing : {p : List ℕ} {rs : List Route} → Increasing p rs → Distinct rs
distinct-increasing last = none
distinct-increasing (next {r} {rs} b i) = one (lookup-early (nlri_of r) i (before-itself (nlri_of r))) (distinct-increasing i)

pub increasing-inserted : (r : Route) {p : List ℕ} {rs : List Route} → before p (nlri_of r) ≡ true → Increasing p rs → Increasing p (inserted r rs)
unfolding inserted
increasing-inserted r h last = next h last
increasing-inserted r {p} h (next {r = q} {rs = rs} b i) =
    inserted-case (Increasing p) r q rs (λ t. next {rs = rs} h (rw t i)) (λ t. next h (next t i)) (λ d t. next b (increasing-inserted r t i))

pub increasing-removed : (nlri : List ℕ) {p : List ℕ} {rs : List Route} → Increasing p rs → Increasing p (removed nlri rs)
unfolding removed
increasing-removed nlri last = last
increasing-removed nlri {p} (next {r = q} {rs = rs} b i) = pick-case (Increasing p) _ _ _ (λ t. increasing-from p (nlri_of q) b i) (λ f. next b (increasing-removed nlri i))

-- every NLRI comes after a previous one
pub increasing-arranged : (p : List ℕ) (rs : List Route) → ((r : Route) → Among r rs → before p (nlri_of r) ≡ true) → Increasing p (arranged rs)
unfolding arranged
increasing-arranged p [] h = last
increasing-arranged p (r ∷ rs) h = increasing-inserted r (h r (first refl)) (increasing-arranged p rs (λ q m. h q (later m)))

-- increasing routes with equal lookups, or equal members, are equal

heads : {p : List ℕ} (r : Route) {u : Route} (rs : List Route) {us : List Route} → Increasing p (u ∷ us) → lookup (nlri_of r) (r ∷ rs) ≡ lookup (nlri_of r) (u ∷ us) → before (nlri_of r) (nlri_of u) ≡ false
heads r rs (next c j) h = is_false _ (λ t. held-absent (sym h ∙ lookup-own r rs) (lookup-early (nlri_of r) (next t j) (before-itself (nlri_of r))))

pub increasing-equal : {p : List ℕ} {rs us : List Route} → Increasing p rs → Increasing p us → ((nlri : List ℕ) → lookup nlri rs ≡ lookup nlri us) → rs ≡ us
increasing-equal last last h = refl
increasing-equal last (next {r} {rs} b i) h = absurd (held-absent (lookup-own r rs) (sym (h (nlri_of r)) ∙ lookup-none (nlri_of r)))
increasing-equal (next {r} {rs} b i) last h = absurd (held-absent (lookup-own r rs) (h (nlri_of r) ∙ lookup-none (nlri_of r)))
increasing-equal (next {r} {rs} b i) (next {r = u} {rs = us} c j) h =
    let n : nlri_of r ≡ nlri_of u = before-neither (nlri_of r) (nlri_of u) (heads r rs (next c j) (h (nlri_of r))) (heads u us (next b i) (sym (h (nlri_of u)))) in
    ap₂ (λ (x : Route) (l : List Route). x ∷ l) (held_same (sym (h (nlri_of r)) ∙ lookup-own r rs) (lookup_first (nlri_of r) u us (same-of-equal _ _ n))) (increasing-equal i (rw n j) (tails n))
  where
    tails : nlri_of r ≡ nlri_of u → (nlri : List ℕ) → lookup nlri rs ≡ lookup nlri us
    tails n nlri =
        lookup-cases nlri r rs
        (λ t e. lookup-early nlri i (rw t (before-itself (nlri_of r))) ∙ sym (lookup-early nlri j (rw (t, n) (before-itself (nlri_of u)))))
        (λ f e. sym e ∙ h nlri ∙ lookup-later nlri u us (rw (← n) f))

pub increasing-members : {p : List ℕ} {rs us : List Route} → Increasing p rs → Increasing p us → ((r : Route) → Among r rs ↔ Among r us) → rs ≡ us
increasing-members i j m = increasing-equal i j (lookup-members (distinct-increasing i) (distinct-increasing j) m)

-- how many

pub length-inserted-new : (r : Route) (rs : List Route) → lookup (nlri_of r) rs ≡ absent → length (inserted r rs) ≡ suc (length rs)
unfolding inserted
length-inserted-new r [] h = refl
length-inserted-new r (q ∷ rs) h =
    inserted-case (λ l. length l ≡ suc (suc (length rs))) r q rs (λ t. absurd (held-absent (lookup_first (nlri_of r) q rs (same-of-equal _ _ t)) h)) (λ b. refl)
    (λ d b. ap suc (length-inserted-new r rs (sym (lookup-later (nlri_of r) q rs d) ∙ h)))

pub length-inserted-held : (r : Route) {p : List ℕ} {rs : List Route} → Increasing p rs → holds (nlri_of r) rs ≡ true → length (inserted r rs) ≡ length rs
length-inserted-held r last h = absurd (opposite h (holds-absent (nlri_of r) [] (lookup-none (nlri_of r))))
length-inserted-held r {p} (next {r = q} {rs = rs} b i) h =
    inserted-case (λ l. length l ≡ suc (length rs)) r q rs (λ t. refl)
    (λ t. absurd (opposite h (holds-absent (nlri_of r) (q ∷ rs) (lookup-early (nlri_of r) (next t i) (before-itself (nlri_of r))))))
    (λ d t. ap suc (length-inserted-held r i (sym (holds-alike (nlri_of r) (q ∷ rs) rs (lookup-later (nlri_of r) q rs d)) ∙ h)))

pub length-removed-held : (nlri : List ℕ) (rs : List Route) → holds nlri rs ≡ true → suc (length (removed nlri rs)) ≡ length rs
unfolding removed
length-removed-held nlri [] h = absurd (opposite h (holds-absent nlri [] (lookup-none nlri)))
length-removed-held nlri (q ∷ rs) h =
    pick-case (λ (l : List Route). suc (length l) ≡ suc (length rs)) _ _ _ (λ t. refl)
    (λ f. ap suc (length-removed-held nlri rs (sym (holds-alike nlri (q ∷ rs) rs (lookup-later nlri q rs f)) ∙ h)))

-- acceptable routes

module _ {afi : ℕ} where
  pub acceptable-member : {r : Route} {rs : List Route} → AllAcceptable afi rs → Among r rs → acceptable afi r ≡ true
  acceptable-member AllAcceptable.none m = elim m [ ]
  acceptable-member (AllAcceptable.one h a) (first e) = rw e h
  acceptable-member (AllAcceptable.one h a) (later m) = acceptable-member a m

  pub acceptable-inserted : (r : Route) {rs : List Route} → acceptable afi r ≡ true → AllAcceptable afi rs → AllAcceptable afi (inserted r rs)
  unfolding inserted
  acceptable-inserted r h AllAcceptable.none = AllAcceptable.one h AllAcceptable.none
  acceptable-inserted r h (AllAcceptable.one {r = q} {rs = rs} k a) =
      inserted-case (AllAcceptable afi) r q rs (λ t. AllAcceptable.one h a) (λ t. AllAcceptable.one h (AllAcceptable.one k a)) (λ d t. AllAcceptable.one k (acceptable-inserted r h a))

  pub acceptable-removed : (nlri : List ℕ) {rs : List Route} → AllAcceptable afi rs → AllAcceptable afi (removed nlri rs)
  unfolding removed
  acceptable-removed nlri AllAcceptable.none = AllAcceptable.none
  acceptable-removed nlri (AllAcceptable.one k a) = pick-case (AllAcceptable afi) _ _ _ (λ t. a) (λ f. AllAcceptable.one k (acceptable-removed nlri a))

  pub acceptable-entered : (r : Route) {rs : List Route} → acceptable afi r ≡ true → AllAcceptable afi rs → AllAcceptable afi (entered r rs)
  unfolding entered
  acceptable-entered r h AllAcceptable.none = AllAcceptable.one h AllAcceptable.none
  acceptable-entered r h (AllAcceptable.one k a) = pick-case (AllAcceptable afi) _ _ _ (λ t. AllAcceptable.one h a) (λ f. AllAcceptable.one k (acceptable-entered r h a))

  pub acceptable-arranged : {rs : List Route} → AllAcceptable afi rs → AllAcceptable afi (arranged rs)
  unfolding arranged
  acceptable-arranged AllAcceptable.none = AllAcceptable.none
  acceptable-arranged (AllAcceptable.one {r} h a) = acceptable-inserted r h (acceptable-arranged a)
