-- What a match takes of routes of which one is withdrawn or installed, or of which some go by a mark or a sweep: what it took, unless that is the one.
use Prim.Native.Nat.{ℕ}
use mathlib.Core.Path.{◌≡◌, refl, sym, ◌∙◌, ap, subst}
use mathlib.Core.Bool.{Bool, true, false, not}
use mathlib.Core.List.{List, [], ◌∷◌, ◌++◌, append_assoc}
use mathlib.Core.Logic.{◌⊎◌, inl, inr, ⊎_elim}
use Rattle.octets.specs.Choice.{both}
use Rattle.octets.specs.Outcome.{given}
use Rattle.octets.specs.Lists.{PutIn, front, behind, chosen}
use Rattle.octets.proofs.Choice.{opposite, tested, pick_true, pick-false, pick-case, both_true, both_left, both_right, both-held}
use borrow.Author.Tests.{not-false}
use Rattle.octets.proofs.Orders.{same-equal, same-of-equal, before-itself}
use Rattle.octets.proofs.Chosen.{chosen-first, chosen-later}
use Rattle.routes.specs.Route.{Route, entry, nlri_of, attribute_of, stale_of, inserted, removed, Increasing, last, next}
use Rattle.routes.specs.Query.{Query}
use Rattle.routes.specs.Matching.{of_router, Found, found, match_in}
use Rattle.routes.specs.Restart.{RestartCall, renewed}
use Rattle.routes.specs.Answers.{matched_by}
use Rattle.routes.specs.Call.{owner, originator_of}
use Rattle.routes.specs.Rules.MatchRule.{DifferInMarks, none, one}
use Rattle.routes.proofs.Definitions.Lookups.{inserted-case, removed-absent}
use Rattle.routes.proofs.Definitions.Increases.{lookup-early}
use Rattle.routes.proofs.Definitions.Ownership.{owned-by}
use Rattle.routes.proofs.Definitions.Restarts.{router-owned, renewed-case}
use Rattle.routes.proofs.Definitions.Matching.First.{match-without, put-behind}
use Rattle.routes.proofs.Definitions.Matching.MatchMarks.{matched-marks}

-- one of an NLRI is taken out: none was there, or the routes are the others with one of that NLRI put in
removed-put : (nlri : List ℕ) (rs : List Route) → (rs ≡ removed nlri rs) ⊎ ((r : Route) × (nlri_of r ≡ nlri) × PutIn r (removed nlri rs) rs)
unfolding removed
removed-put nlri [] = inl refl
removed-put nlri (q ∷ rs) =
    pick-case (λ l. ((q ∷ rs) ≡ l) ⊎ ((r : Route) × (nlri_of r ≡ nlri) × PutIn r l (q ∷ rs))) _ _ _
    (λ t. inr (q, sym (same-equal nlri (nlri_of q) t), front))
    (λ f. ⊎_elim (λ e. inl (ap (λ (l : List Route). q ∷ l) e)) (λ p. inr (p.0, p.1, behind p.2)) (removed-put nlri rs))

-- one is installed: the others of another NLRI, with this one put in
inserted-put : (r : Route) {p : List ℕ} {rs : List Route} → Increasing p rs → PutIn r (removed (nlri_of r) rs) (inserted r rs)
unfolding inserted removed
inserted-put r last = front
inserted-put r (next {r = q} {rs = rs} b i) =
    inserted-case (PutIn r (removed (nlri_of r) (q ∷ rs))) r q rs
    (λ t. subst (λ (l : List Route). PutIn r l (r ∷ rs)) (sym (pick_true _ _ _ (same-of-equal _ _ t))) front)
    (λ t. subst (λ (l : List Route). PutIn r l (r ∷ (q ∷ rs))) (sym (removed-absent (nlri_of r) (q ∷ rs) (lookup-early (nlri_of r) (next t i) (before-itself (nlri_of r))))) front)
    (λ d t. subst (λ (l : List Route). PutIn r l (q ∷ inserted r rs)) (sym (pick-false _ _ _ d)) (behind (inserted-put r i)))

module _ (afi : ℕ) (q : Query) where
  -- what is taken has another NLRI
  abbrev pub TakesOther : (nlri : List ℕ) → List Route → Type 0
  TakesOther nlri rs = (tier : ℕ) (r : Route) → match_in afi q rs ≡ found tier r → nlri_of r ≡ nlri → ⊥

  -- so one of that NLRI may go
  pub match-removed : (nlri : List ℕ) (rs : List Route) → TakesOther nlri rs → match_in afi q rs ≡ match_in afi q (removed nlri rs)
  match-removed nlri rs other =
      ⊎_elim (ap (match_in afi q)) (λ p. ⊎_elim (λ x. absurd (other x.0 p.0 x.1 p.1)) (λ same. same) (match-without afi q p.2)) (removed-put nlri rs)

  -- or come
  pub match-inserted : (r : Route) {p : List ℕ} {rs : List Route} → Increasing p rs → TakesOther (nlri_of r) rs → TakesOther (nlri_of r) (inserted r rs) → match_in afi q (inserted r rs) ≡ match_in afi q rs
  match-inserted r {rs = rs} i was is =
      ⊎_elim (λ x. absurd (is x.0 r x.1 refl)) (λ same. same) (match-without afi q (inserted-put r i)) ∙ sym (match-removed (nlri_of r) rs was)

  -- those that a test does not choose may go, where it chooses what is taken
  match-chosen : (test : Route → Bool) (earlier rs : List Route) → ((tier : ℕ) (r : Route) → match_in afi q (earlier ++ rs) ≡ found tier r → test r ≡ true)
      → match_in afi q (earlier ++ chosen test rs) ≡ match_in afi q (earlier ++ rs)
  unfolding chosen
  match-chosen test earlier [] h = refl
  match-chosen test earlier (r ∷ rs) h =
      tested (test r)
      (λ yes.
      let moved : (l : List Route) → (earlier ++ (r ∷ [])) ++ l ≡ earlier ++ (r ∷ l) = λ l. append_assoc earlier (r ∷ []) l in
      ap (λ (l : List Route). match_in afi q (earlier ++ l)) (chosen-first test r rs yes) ∙ sym (ap (match_in afi q) (moved (chosen test rs)))
      ∙ match-chosen test (earlier ++ (r ∷ [])) rs (λ tier u e. h tier u (sym (ap (match_in afi q) (moved rs)) ∙ e)) ∙ ap (match_in afi q) (moved rs))
      (λ no.
      let gone : match_in afi q (earlier ++ (r ∷ rs)) ≡ match_in afi q (earlier ++ rs) =
      ⊎_elim (λ x. absurd (opposite (h x.0 r x.1) no)) (λ same. same) (match-without afi q (put-behind r earlier rs)) in
      ap (λ (l : List Route). match_in afi q (earlier ++ l)) (chosen-later test r rs no) ∙ match-chosen test earlier rs (λ tier u e. h tier u (gone ∙ e)) ∙ sym gone)

-- a route stays at a mark or a sweep: it is another router's, or has no mark
unfoldable pub stays_at : (afi : ℕ) (router : List ℕ) → Route → Bool
stays_at afi router r = not (both (of_router afi router r) (stale_of r))

-- one that does not stay is the router's, and marked
pub stays-not : (afi : ℕ) (router : List ℕ) (r : Route) → stays_at afi router r ≡ false → (originator_of afi (nlri_of r) ≡ owner router) × (stale_of r ≡ true)
unfolding stays_at
stays-not afi router r f =
    let b = both-held _ _ (not-false _ f) in
    (owned-by router (originator_of afi (nlri_of r)) (sym (router-owned afi router r) ∙ b.0), b.1)

module _ (afi : ℕ) (which : RestartCall) (router : List ℕ) where
  -- those that stay, and what a mark or a sweep leaves, differ in marks alone
  differ-renewed : (rs : List Route) → DifferInMarks (chosen (stays_at afi router) rs) (renewed afi which router rs)
  unfolding chosen renewed stays_at nlri_of attribute_of
  differ-renewed [] = none
  differ-renewed (entry n a s ∷ rs) =
      let r : Route = entry n a s in
      let rest = differ-renewed rs in
      renewed-case afi which router (DifferInMarks (chosen (stays_at afi router) (r ∷ rs))) r rs
      (λ o s. rw (chosen-later (stays_at afi router) r rs (ap not (both_true _ _ o s))) rest)
      (λ o s. rw (chosen-first (stays_at afi router) r rs (ap not (both_right _ _ o s))) (one rest))
      (λ o. rw (chosen-first (stays_at afi router) r rs (ap not (both_left _ _ o))) (one rest))

  -- so what is answered stays, where what is taken stays
  pub matched-renewed : (q : Query) (rs : List Route) (output : List ℕ) → ((tier : ℕ) (r : Route) → match_in afi q rs ≡ found tier r → stays_at afi router r ≡ true)
      → matched_by (given (match_in afi q (renewed afi which router rs))) output ≡ matched_by (given (match_in afi q rs)) output
  matched-renewed q rs output stays =
      sym (matched-marks afi q output (differ-renewed rs)) ∙ ap (λ (f : Found). matched_by (given f) output) (match-chosen afi q (stays_at afi router) [] rs stays)
