-- A match over a sound table is the match over its routes (specs/Rules/SplitRule.antt, `match_over`), which depends on what it takes of them.
use Prim.Native.Nat.{ℕ}
use mathlib.Core.Path.{◌≡◌, refl, sym, ◌∙◌, ap}
use mathlib.Core.Bool.{true}
use mathlib.Core.List.{List}
use Rattle.octets.specs.Outcome.{Outcome, given, refused, on_outcome, and_then}
use Rattle.octets.proofs.Choice.{pick_true}
use Rattle.octets.proofs.Outcome.{and-goes-on}
use Rattle.routes.specs.Route.{Route}
use Rattle.routes.specs.Query.{Query}
use Rattle.routes.specs.Asked.{Asked, read_asked}
use Rattle.routes.specs.Table.{afi_in, routes_of, sound_of}
use Rattle.routes.specs.Matching.{Found, match_in}
use Rattle.routes.specs.Answers.{matched_by}
use Rattle.routes.specs.Calls.{match_outcome, match_of}
use Rattle.routes.specs.Rules.SplitRule.{match_over}

module _ (asked : Asked) (output : List ℕ) where
  -- a sound table
  pub over-table : (t : List ℕ) → sound_of t ≡ true → match_of t asked output ≡ match_over (afi_in t) (routes_of t) asked output
  unfolding match_of match_outcome match_over
  over-table t sound = ap (λ (o : Outcome Found). matched_by o output) (pick_true _ _ _ sound)

  -- good arguments
  pub over-query : (afi : ℕ) (rs : List Route) (q : Query) → read_asked afi asked output ≡ given q → match_over afi rs asked output ≡ matched_by (given (match_in afi q rs)) output
  unfolding match_over
  over-query afi rs q e = ap (λ (o : Outcome Found). matched_by o output) (sym (and-goes-on _ _ _ _ e refl))

  -- routes by which every query is answered the same
  pub over-same : (afi : ℕ) (rs us : List Route) → ((q : Query) → read_asked afi asked output ≡ given q → matched_by (given (match_in afi q rs)) output ≡ matched_by (given (match_in afi q us)) output)
      → match_over afi rs asked output ≡ match_over afi us asked output
  unfolding match_over and_then on_outcome
  over-same afi rs us same = go (read_asked afi asked output) refl
    where
      go : (o : Outcome Query) → read_asked afi asked output ≡ o → matched_by (and_then o (λ q. given (match_in afi q rs))) output ≡ matched_by (and_then o (λ q. given (match_in afi q us))) output
      go (given q) e = same q e
      go (refused n) e = refl

  -- sound tables of one family
  pub tables-same : (t u : List ℕ) → sound_of t ≡ true → sound_of u ≡ true → afi_in t ≡ afi_in u
      → ((q : Query) → read_asked (afi_in u) asked output ≡ given q → matched_by (given (match_in (afi_in u) q (routes_of t))) output ≡ matched_by (given (match_in (afi_in u) q (routes_of u))) output)
      → match_of t asked output ≡ match_of u asked output
  tables-same t u s v family same =
      over-table t s ∙ ap (λ (afi : ℕ). match_over afi (routes_of t) asked output) family ∙ over-same (afi_in u) (routes_of t) (routes_of u) same ∙ sym (over-table u v)
