-- Which route `next_in` is: among increasing routes the one that comes next.
use Prim.Native.Nat.{ℕ}
use mathlib.Core.Path.{◌≡◌, refl, sym, subst}
use mathlib.Core.Bool.{true, false}
use mathlib.Core.List.{List, ◌∷◌}
use mathlib.Core.Logic.{⊎_elim}
use Rattle.octets.specs.Order.{before}
use Rattle.octets.specs.Lists.{Among, first, later}
use Rattle.octets.proofs.Choice.{opposite, pick_true, pick-false, is_false, tested}
use Rattle.octets.proofs.Orders.{before-itself, before-then, before-once, before-neither}
use Rattle.octets.proofs.Among.{among_none, among_cases}
use Rattle.routes.specs.Route.{Route, nlri_of, Increasing, last, next}
use Rattle.routes.specs.Matching.{Found, nothing, found}
use Rattle.routes.specs.Next.{next_in}
use Rattle.routes.specs.Rules.NextRule.{ComesNext, NoneNext}
use Rattle.routes.proofs.Definitions.Lookups.{one-member}
use Rattle.routes.proofs.Definitions.Increases.{distinct-increasing}

pub next_here : (n : List ℕ) (r : Route) (rs : List Route) → before n (nlri_of r) ≡ true → next_in n (r ∷ rs) ≡ found 0 r
unfolding next_in
next_here n r rs h = pick_true _ _ _ h

pub next-later : (n : List ℕ) (r : Route) (rs : List Route) → before n (nlri_of r) ≡ false → next_in n (r ∷ rs) ≡ next_in n rs
unfolding next_in
next-later n r rs h = pick-false _ _ _ h

-- increasing routes all come after the previous NLRI
pub increasing-after : {p : List ℕ} {rs : List Route} {u : Route} → Increasing p rs → Among u rs → before p (nlri_of u) ≡ true
increasing-after last m = elim m [ ]
increasing-after (next b i) (first e) = rw e b
increasing-after {p} {u = u} (next {r = r} b i) (later m) = before-then p (nlri_of r) (nlri_of u) b (increasing-after i m)

-- what is found: a route that comes next, or nothing where none comes after
abbrev pub IsNext : (nlri : List ℕ) → List Route → Found → Type 0
IsNext n rs nothing = NoneNext n rs
IsNext n rs (found tier r) = (tier ≡ 0) × ComesNext n rs r

-- one route more in front, which does not come after
behind : (n : List ℕ) (r : Route) (rs : List Route) → before n (nlri_of r) ≡ false → (f : Found) → IsNext n rs f → IsNext n (r ∷ rs) f
behind n r rs h nothing none = λ u m a. ⊎_elim (λ e. opposite (rw e at a) h) (λ l. none u l a) (among_cases m)
behind n r rs h (found tier q) p = (
  p.0,
  record {
    member = later p.1.member;
    after = p.1.after;
    between = λ u m a b. ⊎_elim (λ e. opposite (rw e at a) h) (λ l. p.1.between u l a b) (among_cases m);
  },
)

pub next-is : (n : List ℕ) {p : List ℕ} {rs : List Route} → Increasing p rs → IsNext n rs (next_in n rs)
unfolding next_in
next-is n last = λ u m a. among_none m
next-is n (next {r = r} {rs = rs} b i) =
    tested (before n (nlri_of r))
    (λ h.
    subst (IsNext n (r ∷ rs)) (sym (next_here n r rs h)) (
      refl,
      record {
        member = first refl;
        after = h;
        between = λ u m a c. ⊎_elim (λ e. opposite (rw e at c) (before-itself (nlri_of r))) (λ l. opposite c (before-once (nlri_of r) (nlri_of u) (increasing-after i l))) (among_cases m);
      },
    ))
    (λ h. subst (IsNext n (r ∷ rs)) (sym (next-later n r rs h)) (behind n r rs h (next_in n rs) (next-is n i)))

-- one route at the most comes next
pub next-unique : (n : List ℕ) {p : List ℕ} {rs : List Route} → Increasing p rs → (r u : Route) → ComesNext n rs r → ComesNext n rs u → r ≡ u
next-unique n i r u a b =
    one-member r u (distinct-increasing i) a.member b.member
    (before-neither (nlri_of r) (nlri_of u) (is_false _ (λ c. b.between r a.member a.after c)) (is_false _ (λ c. a.between u b.member b.after c)))

pub comes-found : (n : List ℕ) {p : List ℕ} {rs : List Route} → Increasing p rs → (r : Route) → ComesNext n rs r → next_in n rs ≡ found 0 r
comes-found n {rs = rs} i r c = go (next_in n rs) (next-is n i)
  where
    go : (f : Found) → IsNext n rs f → f ≡ found 0 r
    go nothing none = absurd (none r c.member c.after)
    go (found tier q) p = let is : q ≡ r = next-unique n i q r p.1 c in rw (p.0, is)

pub none_found : (n : List ℕ) {p : List ℕ} {rs : List Route} → Increasing p rs → NoneNext n rs → next_in n rs ≡ nothing
none_found n {rs = rs} i none = go (next_in n rs) (next-is n i)
  where
    go : (f : Found) → IsNext n rs f → f ≡ nothing
    go nothing h = refl
    go (found tier q) p = absurd (none q p.1.member p.1.after)
