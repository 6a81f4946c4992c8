-- Laws of `is_among` and `once_each`; routes with no NLRI twice are no more than the distinct NLRIs that name them.
use Prim.Native.Nat.{ℕ, suc, ◌≤◌}
use mathlib.Core.Path.{◌≡◌, refl, ap, ◌∙◌}
use mathlib.Core.Bool.{true, false}
use mathlib.Core.List.{List, [], ◌∷◌}
use mathlib.Core.Logic.{⊎_elim}
use lib.ListN.{length}
use Rattle.octets.specs.Lists.{Among, first, later, Once, none, one}
use Rattle.octets.proofs.Choice.{opposite, either_true, either_left, either_second, pick-case}
use Rattle.octets.proofs.Orders.{same-equal, same-of-equal}
use Rattle.octets.proofs.Among.{among_cases, among-behind, once-fewer}
use Rattle.routes.specs.Route.{Route, nlri_of, holds, Distinct}
use Rattle.routes.specs.Book.{is_among, once_each}
use Rattle.routes.proofs.Definitions.Lookups.{holds-held, holds-absent, holds-alike, lookup-cases}

pub is-among-true : {x : List ℕ} (xs : List (List ℕ)) → is_among x xs ≡ true → Among x xs
unfolding is_among
is-among-true [] h = absurd (opposite {b = false} h refl)
is-among-true {x} (y ∷ ys) h = ⊎_elim (λ t. first (same-equal x y t)) (λ t. later (is-among-true ys t)) (either_true _ _ h)

pub among-is-among : {x : List ℕ} {xs : List (List ℕ)} → Among x xs → is_among x xs ≡ true
unfolding is_among
among-is-among {x} (first {y} e) = either_left _ _ (same-of-equal x y e)
among-is-among (later m) = either_second _ _ (among-is-among m)

pub once-each-among : {x : List ℕ} (xs : List (List ℕ)) → Among x (once_each xs) → Among x xs
unfolding once_each
once-each-among [] m = m
once-each-among {x} (y ∷ ys) m =
    pick-case (λ (l : List (List ℕ)). Among x l → Among x (y ∷ ys)) (is_among y ys) _ _ (λ t n. later (once-each-among ys n)) (λ f. among-behind (once-each-among ys)) m

pub among-once-each : {x : List ℕ} (xs : List (List ℕ)) → Among x xs → Among x (once_each xs)
unfolding once_each
among-once-each [] m = m
among-once-each {x} (y ∷ ys) m =
    pick-case (λ (l : List (List ℕ)). Among x l) (is_among y ys) _ _
    (λ t. among-once-each ys (⊎_elim (λ e. rw e (is-among-true ys t)) (λ a. a) (among_cases m)))
    (λ f. among-behind (among-once-each ys) m)

pub once-once-each : (xs : List (List ℕ)) → Once (once_each xs)
unfolding once_each
once-once-each [] = Once.none
once-once-each (y ∷ ys) = pick-case Once (is_among y ys) _ _ (λ t. once-once-each ys) (λ f. Once.one (λ m. opposite (among-is-among (once-each-among ys m)) f) (once-once-each ys))

-- elements of one list are elements of another: it has no more distinct ones
pub once-each-fewer : (xs ys : List (List ℕ)) → ((x : List ℕ) → Among x xs → Among x ys) → length (once_each xs) ≤ length (once_each ys)
once-each-fewer xs ys h = once-fewer (once_each ys) (once-once-each xs) (λ x m. among-once-each ys (h x (once-each-among xs m)))

-- the NLRIs of routes

names_of : List Route → List (List ℕ)
names_of [] = []
names_of (r ∷ rs) = nlri_of r ∷ names_of rs

names-held : {nlri : List ℕ} (rs : List Route) → Among nlri (names_of rs) → holds nlri rs ≡ true
unfolding names_of
names-held {nlri} [] m = elim m [ ]
names-held {nlri} (r ∷ rs) m =
    lookup-cases nlri r rs (λ t e. holds-held nlri (r ∷ rs) r e)
    (λ f e. holds-alike nlri (r ∷ rs) rs e ∙ names-held rs (⊎_elim (λ is. absurd (opposite (same-of-equal nlri (nlri_of r) is) f)) (λ a. a) (among_cases m)))

names-once : {rs : List Route} → Distinct rs → Once (names_of rs)
unfolding names_of
names-once Distinct.none = none
names-once (Distinct.one {r = r} {rs = rs} h d) = one (λ m. opposite (names-held rs m) (holds-absent (nlri_of r) rs h)) (names-once d)

length-names : (rs : List Route) → length (names_of rs) ≡ length rs
unfolding names_of
length-names [] = refl
length-names (r ∷ rs) = ap suc (length-names rs)

-- distinct NLRIs that are all named in a list are no more than its distinct elements
pub routes-fewer : {rs : List Route} (names : List (List ℕ)) → Distinct rs → ((nlri : List ℕ) → holds nlri rs ≡ true → Among nlri names) → length rs ≤ length (once_each names)
routes-fewer {rs} names d h = rw length-names at (once-fewer (once_each names) (names-once d) (λ nlri m. among-once-each names (h nlri (names-held rs m))))
