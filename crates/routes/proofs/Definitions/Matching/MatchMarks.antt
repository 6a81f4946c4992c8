-- What a match takes and tells does not depend on marks (specs/Rules/MatchRule.antt, `marks`).
use Prim.Native.Nat.{ℕ, suc}
use mathlib.Core.Path.{◌≡◌, refl, sym, ◌∙◌, ap, ap₂}
use mathlib.Core.Bool.{Bool, true, false}
use mathlib.Core.List.{List, [], ◌∷◌}
use Rattle.octets.specs.Choice.{pick}
use Rattle.octets.specs.Outcome.{given, on_outcome}
use Rattle.octets.specs.Order.{before}
use Rattle.octets.proofs.Choice.{pick-cong}
use Rattle.routes.specs.Route.{Route, route, nlri_of, attribute_of, with_mark}
use Rattle.routes.specs.Query.{Wanted, Query}
use Rattle.routes.specs.Matching.{of_fields, names_tunnel, candidate, eligible, distinguisher_of, Found, nothing, found, lower, lowest_in, or_else, first_of, match_in}
use Rattle.routes.specs.Answers.{found_answer, found_output, matched_by}
use Rattle.routes.specs.Rules.MatchRule.{DifferInMarks, none, one}

-- a route without its mark
abbrev bare : Route → Route
bare r = with_mark false r

-- routes without their marks
unfoldable bared : List Route → List Route
bared [] = []
bared (r ∷ rs) = bare r ∷ bared rs

-- what is found, without its mark
unfoldable bare_found : Found → Found
bare_found nothing = nothing
bare_found (found tier r) = found tier (bare r)

-- one of two
pick-bare : (b : Bool) (f g : Found) → pick b (bare_found f) (bare_found g) ≡ bare_found (pick b f g)
unfolding pick
pick-bare true f g = refl
pick-bare false f g = refl

-- what a match answers is of the route without its mark
matched-bare : (f : Found) (output : List ℕ) → matched_by (given (bare_found f)) output ≡ matched_by (given f) output
unfolding bare_found matched_by on_outcome found_answer found_output nlri_of attribute_of
matched-bare nothing output = refl
matched-bare (found tier r) output = refl

-- the first found
else-bare : (f g : Found) → or_else (bare_found f) (bare_found g) ≡ bare_found (or_else f g)
unfolding or_else bare_found
else-bare nothing g = refl
else-bare (found tier r) g = refl

module _ (afi : ℕ) (router : List ℕ) where
  -- of two routes of a tier
  lower-bare : (tier : ℕ) (r : Route) (f : Found) → lower afi tier (bare r) (bare_found f) ≡ bare_found (lower afi tier r f)
  unfolding lower bare_found distinguisher_of nlri_of
  lower-bare tier r nothing = refl
  lower-bare tier r (found t q) = pick-bare (before (distinguisher_of afi q) (distinguisher_of afi r)) (found t q) (found tier r)

  -- whether a route is of a tier
  eligible-bare : (w : Wanted) (r : Route) → eligible afi router w (bare r) ≡ eligible afi router w r
  unfolding eligible candidate of_fields names_tunnel nlri_of attribute_of
  eligible-bare w r = refl

  -- the lowest of a tier
  lowest-bared : (tier : ℕ) (w : Wanted) (rs : List Route) → lowest_in afi router tier w (bared rs) ≡ bare_found (lowest_in afi router tier w rs)
  unfolding lowest_in bared bare_found
  lowest-bared tier w [] = refl
  lowest-bared tier w (r ∷ rs) =
      let rest = lowest-bared tier w rs in
      ap (λ (b : Bool). pick b (lower afi tier (bare r) (lowest_in afi router tier w (bared rs))) (lowest_in afi router tier w (bared rs))) (eligible-bare w r)
      ∙ pick-cong (eligible afi router w r) _ _ _ _ (λ t. ap (lower afi tier (bare r)) rest ∙ lower-bare tier r (lowest_in afi router tier w rs)) (λ f. rest)
      ∙ pick-bare (eligible afi router w r) (lower afi tier r (lowest_in afi router tier w rs)) (lowest_in afi router tier w rs)

  -- the first of the tiers
  first-bared : (tier : ℕ) (ws : List Wanted) (rs : List Route) → first_of afi router tier ws (bared rs) ≡ bare_found (first_of afi router tier ws rs)
  unfolding first_of bare_found
  first-bared tier [] rs = refl
  first-bared tier (w ∷ ws) rs =
      ap₂ or_else (lowest-bared tier w rs) (first-bared (suc tier) ws rs) ∙ else-bare (lowest_in afi router tier w rs) (first_of afi router (suc tier) ws rs)

-- what a match takes of routes without their marks
match-bared : (afi : ℕ) (q : Query) (rs : List Route) → match_in afi q (bared rs) ≡ bare_found (match_in afi q rs)
unfolding match_in
match-bared afi q rs = first-bared afi q.router 1 q.tiers rs

-- routes that differ in marks alone are the same without them
bared-same : {rs us : List Route} → DifferInMarks rs us → bared rs ≡ bared us
unfolding bared nlri_of attribute_of
bared-same none = refl
bared-same (one {nlri} {attribute} d) = ap (λ (l : List Route). route nlri attribute ∷ l) (bared-same d)

-- what a match over some routes answers
pub matched-marks : (afi : ℕ) (q : Query) {rs us : List Route} (output : List ℕ) → DifferInMarks rs us → matched_by (given (match_in afi q rs)) output ≡ matched_by (given (match_in afi q us)) output
matched-marks afi q {rs} {us} output d =
    sym (matched-bare (match_in afi q rs) output)
    ∙ ap (λ (f : Found). matched_by (given f) output) (sym (match-bared afi q rs) ∙ ap (match_in afi q) (bared-same d) ∙ match-bared afi q us)
    ∙ matched-bare (match_in afi q us) output
