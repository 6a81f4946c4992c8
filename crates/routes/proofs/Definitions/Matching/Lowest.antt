-- Which route `lowest_in` is: a candidate of the tier, with no candidate of a lower route distinguisher.
use Prim.Native.Nat.{ℕ}
use mathlib.Core.Path.{◌≡◌, refl, sym, ◌∙◌, ap, subst}
use mathlib.Core.Bool.{true, false}
use mathlib.Core.List.{List, [], ◌∷◌}
use mathlib.Core.Logic.{◌⊎◌, inl, inr, ⊎_elim}
use Rattle.octets.specs.Order.{before}
use Rattle.octets.specs.Lists.{Among, first, later, PutIn, front, behind, one}
use Rattle.octets.specs.Choice.{pick}
use Rattle.octets.proofs.Choice.{opposite, tested, pick-case, pick_true, pick-false}
use Rattle.octets.proofs.Orders.{before-itself, before-once, before-not}
use Rattle.octets.proofs.Among.{among_none, among-each, rearranged-itself, rearranged-among}
use Rattle.routes.specs.Route.{Route}
use Rattle.routes.specs.Query.{Wanted}
use Rattle.routes.specs.Matching.{eligible, distinguisher_of, Found, nothing, found, lower, lowest_in}

module _ (afi : ℕ) (router : List ℕ) (w : Wanted) where
  -- no route is a candidate of the tier
  abbrev pub None : List Route → Type 0
  None rs = (u : Route) → Among u rs → eligible afi router w u ≡ false

  -- a route is one, and none has a lower route distinguisher
  pub record Least (rs : List Route) (r : Route) : Type 0 where
    pub member : Among r rs
    pub good : eligible afi router w r ≡ true
    pub least : (u : Route) → Among u rs → eligible afi router w u ≡ true → before (distinguisher_of afi u) (distinguisher_of afi r) ≡ false

module _ (afi : ℕ) (router : List ℕ) (tier : ℕ) (w : Wanted) where
  abbrev pub Lowest : List Route → Found → Type 0
  Lowest rs nothing = None afi router w rs
  Lowest rs (found t r) = (t ≡ tier) × Least afi router w rs r

  passed_over : (r : Route) (rs : List Route) (best : Found) → eligible afi router w r ≡ false → Lowest rs best → Lowest (r ∷ rs) best
  passed_over r rs nothing bad l = among-each _ bad l
  passed_over r rs (found t u) bad l =
      (l.0, record { member = later l.1.member; good = l.1.good; least = among-each _ (λ yes. absurd (opposite yes bad)) l.1.least })

  compared : (r : Route) (rs : List Route) (best : Found) → eligible afi router w r ≡ true → Lowest rs best → Lowest (r ∷ rs) (lower afi tier r best)
  unfolding lower
  compared r rs nothing good l =
      (refl, record { member = first refl; good = good; least = among-each _ (λ _. before-itself _) (λ u m h. absurd (opposite h (l u m))) })
  compared r rs (found t u) good l =
      pick-case (Lowest (r ∷ rs)) _ _ _
      (λ b. (l.0, record { member = later l.1.member; good = l.1.good; least = among-each _ (λ _. before-once _ _ b) l.1.least }))
      (λ b. (refl, record { member = first refl; good = good; least = among-each _ (λ _. before-itself _) (λ v m h. before-not _ _ _ (l.1.least v m h) b) }))

  pub lowest-is : (rs : List Route) → Lowest rs (lowest_in afi router tier w rs)
  unfolding lowest_in
  lowest-is [] = λ u m. absurd (among_none m)
  lowest-is (r ∷ rs) = pick-case (Lowest (r ∷ rs)) _ _ _ (λ good. compared r rs _ good (lowest-is rs)) (λ bad. passed_over r rs (lowest_in afi router tier w rs) bad (lowest-is rs))

  -- where a route is the lowest of some, and others are fewer, then with one more in front of both it still is, or they have the same lowest
  one_more : (q r : Route) (rs us : List Route) → ((u : Route) → Among u us → Among u rs) → lowest_in afi router tier w rs ≡ found tier r
      → (lowest_in afi router tier w (q ∷ rs) ≡ found tier r) ⊎ (lowest_in afi router tier w (q ∷ rs) ≡ lowest_in afi router tier w (q ∷ us))
  unfolding lowest_in lower
  one_more q r rs us fewer is =
      tested (eligible afi router w q)
      (λ good.
      let lowest = pick_true _ _ _ good ∙ ap (lower afi tier q) is in
      tested (before (distinguisher_of afi r) (distinguisher_of afi q)) (λ b. inl (lowest ∙ pick_true _ _ _ b))
      (λ b. inr (lowest ∙ pick-false _ _ _ b ∙ sym (pick_true _ _ _ good ∙ stays b (lowest_in afi router tier w us) (lowest-is us)))))
      (λ bad. inl (pick-false _ _ _ bad ∙ is))
    where
      stays : before (distinguisher_of afi r) (distinguisher_of afi q) ≡ false → (best : Found) → Lowest us best → lower afi tier q best ≡ found tier q
      stays b nothing l = refl
      stays b (found t u) l = pick-false _ _ _ (before-not _ _ _ ((subst (Lowest rs) is (lowest-is rs)).1.least u (fewer u l.1.member) l.1.good) b)

  -- a route put in anywhere is the lowest; or the lowest is the same without it
  pub lowest-without : {r : Route} {rs us : List Route} → PutIn r us rs
      → (lowest_in afi router tier w rs ≡ found tier r) ⊎ (lowest_in afi router tier w rs ≡ lowest_in afi router tier w us)
  unfolding lowest_in lower
  lowest-without {r} (front {ys = us}) = pick-case (λ best. (best ≡ found tier r) ⊎ (best ≡ lowest_in afi router tier w us)) _ _ _ (λ good. go (lowest_in afi router tier w us)) (λ bad. inr refl)
    where
      go : (best : Found) → (lower afi tier r best ≡ found tier r) ⊎ (lower afi tier r best ≡ best)
      go nothing = inl refl
      go (found t u) = pick-case (λ next. (next ≡ found tier r) ⊎ (next ≡ found t u)) _ _ _ (λ b. inr refl) (λ b. inl refl)
  lowest-without {r} (behind {y = q} {ys = us} {zs = rs} p) =
      ⊎_elim (one_more q r rs us (λ u m. rearranged-among (one p (rearranged-itself us)) (later m)))
      (λ same. inr (ap (λ best. pick (eligible afi router w q) (lower afi tier q best) best) same)) (lowest-without p)
