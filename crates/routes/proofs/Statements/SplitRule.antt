-- Routes kept in several tables (specs/Rules/SplitRule.antt).
use Prim.Native.Nat.{ℕ}
use mathlib.Core.Path.{◌≡◌, refl, sym, ◌∙◌, ap, ap₂, subst}
use mathlib.Core.Bool.{true, false}
use mathlib.Core.List.{List, []}
use mathlib.Core.Logic.{◌⊎◌, inl, inr, ⊎_elim}
use native.Mathlib.Omega.{arith}
use lib.ListN.{length}
use lib.Dec.{eqb}
use borrow.Author.Tests.{eqb-true, eqb-false, eq-eqb, ne_eqb}
use Rattle.octets.specs.Numbers.{DONE}
use Rattle.octets.specs.Choice.{pick}
use Rattle.octets.specs.Outcome.{Outcome, given, refused, on_outcome, and_then}
use Rattle.octets.specs.Lists.{Among}
use Rattle.octets.proofs.Choice.{tested, picks, skips, pick-case}
use Rattle.nlri.specs.Fields.{Fields}
use Rattle.nlri.specs.Groups.{Multicast, ipv4, ipv6}
use Rattle.routes.specs.declared.Matched.{Matched}
use Rattle.routes.specs.Route.{Route, nlri_of, Distinct}
use Rattle.routes.specs.Query.{Query, Flow}
use Rattle.routes.specs.SharedTree.{SharedTree}
use Rattle.routes.specs.Asked.{Asked, of_flow, of_shared_tree, asked_router, read_asked}
use Rattle.routes.specs.Table.{afi_in, routes_of}
use Rattle.routes.specs.Matching.{Found, nothing, found, match_in}
use Rattle.octets.specs.Outputs.{Changed}
use Rattle.routes.specs.Answers.{found_answer, matched_by}
use Rattle.routes.specs.Calls.{match_of}
use Rattle.routes.specs.Rules.ArgumentRules.{FamilySized, SPmsiOf, GoodFlow}
use Rattle.routes.specs.Rules.MatchRule.{InTier, both_equal, source_equal, group_equal, both_wildcard, Eligible, MatchAnswer, one_told, none_told}
use Rattle.routes.specs.Rules.SharedTreeRule.{InSharedTier, shared_group, shared_wildcard}
use Rattle.routes.specs.Rules.DisturbanceRule.{Conditions}
use Rattle.routes.specs.Rules.SplitRule.{match_over, SomeOf, SplitRoutes, TableWithin, KeptByFields, SplitRule}
use Rattle.routes.proofs.Definitions.Increases.{distinct-increasing}
use Rattle.routes.proofs.Definitions.Matching.First.{match-fewer}
use Rattle.routes.proofs.Statements.Images.{sound-holdable}
use Rattle.routes.proofs.Statements.MatchRule.{Asks, asks-first, asks_nothing, served-flow}
use Rattle.routes.proofs.Statements.MatchOver.{over-table}
use Rattle.routes.proofs.Statements.AskedRules.{asks-asked, over-answers, some-tier, table-answers, table-untold}

-- the tier of an answer
tier-one : (output : List ℕ) (r : Route) (f : Found) → f ≡ found 1 r → eqb (matched_by (given f) output).answer.tier 1 ≡ true
unfolding matched_by on_outcome found_answer
tier-one output r f e = rw e (eq-eqb 1 1 refl)

tier-other : (output : List ℕ) (f : Found) → ((r : Route) → f ≡ found 1 r → ⊥) → eqb (matched_by (given f) output).answer.tier 1 ≡ false
unfolding matched_by on_outcome found_answer
tier-other output nothing other = ne_eqb 0 1 (λ e. omega arith)
tier-other output (found tier r) other = ne_eqb tier 1 (λ e. other r (ap (λ (n : ℕ). found n r) e))

found_nothing : {tier : ℕ} {r : Route} → nothing ≡ found tier r → ⊥
found_nothing p = let z : ◌≡◌ {A = ℕ} 0 1 = cc in omega arith

found-same : {t u : ℕ} {r v : Route} → found t r ≡ found u v → r ≡ v
found-same p = cc

-- two lists, which serve the match where its arguments are good
module _ (afi : ℕ) (all one two : List Route) (asked : Asked) (output : List ℕ) (d : Distinct one) (e : Distinct two) (one_of : SomeOf one all) (two_of : SomeOf two all)
    (served : (q : Query) → read_asked afi asked output ≡ given q → SplitRoutes afi asked all one two) where
  module _ (q : Query) (read : read_asked afi asked output ≡ given q) where
    asks : Asks afi (asked_router asked) (Conditions afi asked) q
    asks = asks-asked afi asked output q read

    split : SplitRoutes afi asked all one two
    split = served q read

    -- a route of tier 1 in the first is one in all
    first_found : (r : Route) → match_in afi q one ≡ found 1 r → Among r all × Eligible afi (asked_router asked) (Conditions afi asked) 1 r
    first_found r f = let x = asks-first asks one 1 r f in (one_of r x.0, x.1)

    -- what is taken of all is of tier 1, and taken of the first; or it is taken of the second, and the first has none of tier 1
    taken_of : (best : Found) → match_in afi q all ≡ best
        → ((r : Route) × (match_in afi q one ≡ found 1 r) × (match_in afi q all ≡ match_in afi q one)) ⊎ (((r : Route) → match_in afi q one ≡ found 1 r → ⊥) × (match_in afi q all ≡ match_in afi q two))
    taken_of nothing f = inr (
      λ r g. let x = first_found r g in (asks_nothing asks all).0 f 1 r x.0 x.1,
      match-fewer afi q all two e two_of (λ t u g. absurd (found_nothing (sym f ∙ g))),
    )
    taken_of (found tier r) f =
        let x = asks-first asks all tier r f in
        tested (eqb tier 1)
        (λ yes.
        let is : tier ≡ 1 = eqb-true _ _ yes in
        let y : Among r one = split.exact r x.0 (subst (λ (n : ℕ). Eligible afi (asked_router asked) (Conditions afi asked) n r) is x.1) in
        let same = match-fewer afi q all one d one_of (λ t u g. subst (λ (v : Route). Among v one) (found-same (sym f ∙ g)) y) in
        inl (r, sym same ∙ f ∙ ap (λ (n : ℕ). found n r) is, same))
        (λ no.
        let other : tier ≡ 1 → ⊥ = eqb-false _ _ no in
        let y : Among r two = split.others tier r other x.0 x.1 in
        let some = some-tier afi asked tier _ x.1.met in
        inr (
          λ u g. let z = first_found u g in x.2 1 u (omega arith) z.0 z.1,
          match-fewer afi q all two e two_of (λ t u g. subst (λ (v : Route). Among v two) (found-same (sym f ∙ g)) y),
        ))

    answer-of : matched_by (given (match_in afi q all)) output
        ≡ pick (eqb (matched_by (given (match_in afi q one)) output).answer.tier 1) (matched_by (given (match_in afi q one)) output) (matched_by (given (match_in afi q two)) output)
    answer-of =
        ⊎_elim (λ p. picks _ _ _ _ (tier-one output p.0 (match_in afi q one) p.1) (ap (λ (f : Found). matched_by (given f) output) p.2))
        (λ p. skips _ _ _ _ (tier-other output (match_in afi q one) p.0) (ap (λ (f : Found). matched_by (given f) output) p.1))
        (taken_of (match_in afi q all) refl)

  lists : match_over afi all asked output ≡ pick (eqb (match_over afi one asked output).answer.tier 1) (match_over afi one asked output) (match_over afi two asked output)
  unfolding match_over and_then on_outcome matched_by
  lists = go (read_asked afi asked output) refl
    where
      over : List Route → Outcome Query → Changed Matched
      over rs o = matched_by (and_then o (λ q. given (match_in afi q rs))) output

      go : (o : Outcome Query) → read_asked afi asked output ≡ o → over all o ≡ pick (eqb (over one o).answer.tier 1) (over one o) (over two o)
      go (given q) r = answer-of q r
      go (refused n) r = skips _ _ _ _ (ne_eqb 0 1 (λ z. omega arith)) refl

-- two tables
tables : (afi : ℕ) (all : List Route) (t u : List ℕ) (asked : Asked) (output : List ℕ) → TableWithin afi all t → TableWithin afi all u
    → ((q : Query) → read_asked afi asked output ≡ given q → SplitRoutes afi asked all (routes_of t) (routes_of u))
    → match_over afi all asked output ≡ pick (eqb (match_of t asked output).answer.tier 1) (match_of t asked output) (match_of u asked output)
tables afi all t u asked output a b served =
    lists afi all (routes_of t) (routes_of u) asked output (distinct t a) (distinct u b) a.within b.within served
    ∙ ap₂ (λ (x y : Changed Matched). pick (eqb x.answer.tier 1) x y) (over t a) (over u b)
  where
    distinct : (s : List ℕ) → TableWithin afi all s → Distinct (routes_of s)
    distinct s w = distinct-increasing (sound-holdable s w.sound).increasing

    over : (s : List ℕ) → TableWithin afi all s → match_over afi (routes_of s) asked output ≡ match_of s asked output
    over s w = ap (λ (n : ℕ). match_over n (routes_of s) asked output) (sym w.family) ∙ sym (over-table asked output s w.sound)

-- addresses that are there
sized-some : {afi : ℕ} {s : List ℕ} → FamilySized afi s → s ≡ [] → ⊥
sized-some x e = ⊎_elim (λ p. omega (arith, p.1, ap length e)) (λ p. omega (arith, p.1, ap length e)) x

multicast-some : {afi : ℕ} {g : List ℕ} → Multicast afi g → g ≡ [] → ⊥
multicast-some (ipv4 size low high) e = omega (arith, size, ap length e)
multicast-some (ipv6 size is) e = omega (arith, size, ap length e)

-- tables by fields
module _ (afi : ℕ) (all : List Route) (exact : (originator source group : List ℕ) → List ℕ) (wild : (originator : List ℕ) → List ℕ) (kept : KeptByFields afi all exact wild) where
  -- a router's, with a wildcard
  in-wild : (router : List ℕ) (r : Route) → Among r all → (own : SPmsiOf afi router (nlri_of r)) → (own.named.fields.source ≡ []) ⊎ (own.named.fields.group ≡ []) → Among r (routes_of (wild router))
  in-wild router r m own w = subst (λ (o : List ℕ). Among r (routes_of (wild o))) own.originator (kept.wild_route r m own.named w)

  flow-split : (flow : Flow) → GoodFlow afi flow → SplitRoutes afi (of_flow flow) all (routes_of (exact flow.router flow.source flow.group)) (routes_of (wild flow.router))
  unfolding asked_router
  flow-split flow good = record { exact = λ r m e. go1 r m e.candidate.own e.met refl; others = λ tier r other m e. go2 r m e.candidate.own e.met other }
    where
      go1 : {tier : ℕ} (r : Route) → Among r all → (own : SPmsiOf afi flow.router (nlri_of r)) → InTier afi flow tier own.named.fields → tier ≡ 1 → Among r (routes_of (exact flow.router flow.source flow.group))
      go1 r m own (both_equal s g) is =
          let f : Fields = own.named.fields in
          let here = kept.exact_route r m own.named (λ e. sized-some good.sourced (sym s ∙ e)) (λ e. multicast-some good.multicast (sym g ∙ e)) in
          subst (λ (x : List ℕ). Among r (routes_of (exact flow.router flow.source x))) g
          (subst (λ (x : List ℕ). Among r (routes_of (exact flow.router x f.group))) s (subst (λ (x : List ℕ). Among r (routes_of (exact x f.source f.group))) own.originator here))
      go1 r m own (source_equal s g c) is = absurd (omega (arith, is))
      go1 r m own (group_equal s g c) is = absurd (omega (arith, is))
      go1 r m own (both_wildcard s g) is = absurd (omega (arith, is))

      go2 : {tier : ℕ} (r : Route) → Among r all → (own : SPmsiOf afi flow.router (nlri_of r)) → InTier afi flow tier own.named.fields → (tier ≡ 1 → ⊥) → Among r (routes_of (wild flow.router))
      go2 r m own (both_equal s g) other = absurd (other refl)
      go2 r m own (source_equal s g c) other = in-wild flow.router r m own (inr g)
      go2 r m own (group_equal s g c) other = in-wild flow.router r m own (inl s)
      go2 r m own (both_wildcard s g) other = in-wild flow.router r m own (inl s)

  flows : (flow : Flow) (output : List ℕ)
      → match_over afi all (of_flow flow) output
      ≡ pick (eqb (match_of (exact flow.router flow.source flow.group) (of_flow flow) output).answer.tier 1) (match_of (exact flow.router flow.source flow.group) (of_flow flow) output)
      (match_of (wild flow.router) (of_flow flow) output)
  flows flow output =
      tables afi all (exact flow.router flow.source flow.group) (wild flow.router) (of_flow flow) output (kept.exact_table flow.router flow.source flow.group) (kept.wild_table flow.router)
      (λ q read. flow-split flow (((served-flow flow).takes afi output).0 (q, read)).0)

  -- a tree has no tier 1, so that one table serves as both
  tree-split : (tree : SharedTree) → SplitRoutes afi (of_shared_tree tree) all (routes_of (wild tree.router)) (routes_of (wild tree.router))
  unfolding asked_router
  tree-split tree = record { exact = λ r m e. go r m e.candidate.own e.met; others = λ tier r other m e. go r m e.candidate.own e.met }
    where
      go : {tier : ℕ} (r : Route) → Among r all → (own : SPmsiOf afi tree.router (nlri_of r)) → InSharedTier afi tree tier own.named.fields → Among r (routes_of (wild tree.router))
      go r m own (shared_group s g c h) = in-wild tree.router r m own (inl s)
      go r m own (shared_wildcard s g c h) = in-wild tree.router r m own (inl s)

  trees : (tree : SharedTree) (output : List ℕ) → match_over afi all (of_shared_tree tree) output ≡ match_of (wild tree.router) (of_shared_tree tree) output
  trees tree output =
      let w = kept.wild_table tree.router in
      tables afi all (wild tree.router) (wild tree.router) (of_shared_tree tree) output w w (λ q read. tree-split tree)
      ∙ pick-case (λ (c : Changed Matched). c ≡ match_of (wild tree.router) (of_shared_tree tree) output) _ _ _ (λ t. refl) (λ f. refl)

-- a match of tier 0 leaves its output
untouched : (asked : Asked) (t output : List ℕ) → (match_of t asked output).answer.tier ≡ 0 → (match_of t asked output).octets ≡ output
untouched asked t output zero =
    tested (eqb (match_of t asked output).answer.number DONE) (λ d. go (table-answers asked t output (eqb-true _ _ d))) (λ f. (table-untold asked t output (eqb-false _ _ f)).untouched)
  where
    go : MatchAnswer (afi_in t) (asked_router asked) (Conditions (afi_in t) asked) output (routes_of t) (match_of t asked output) → (match_of t asked output).octets ≡ output
    go (one_told tier r taken told) = absurd (omega (arith, zero, told.of_tier, some-tier (afi_in t) asked tier _ taken.eligible.met))
    go (none_told none done u) = u.untouched

pub split_rule : SplitRule
split_rule =
    record {
      table = λ t asked output sound. sym (over-table asked output t sound);
      answers = over-answers;
      lists = λ afi all one two asked output d e one_of two_of split. lists afi all one two asked output d e one_of two_of (λ q read. split);
      tables = λ afi all t u asked output a b split. tables afi all t u asked output a b (λ q read. split);
      flows = flows;
      trees = trees;
      in_turn = λ t u asked output zero. ap (match_of u asked) (untouched asked t output zero);
    }
