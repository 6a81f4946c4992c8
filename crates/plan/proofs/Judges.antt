-- What the judge accepts, of routes.
use Prim.Native.Nat.{ℕ}
use mathlib.Core.Path.{◌≡◌, refl, sym, ap, ◌∙◌, subst}
use mathlib.Core.Bool.{true}
use mathlib.Core.List.{List, [], ◌∷◌}
use mathlib.Core.Logic.{◌↔◌, ⊎_elim}
use Rattle.octets.specs.Outcome.{given}
use Rattle.octets.specs.Lists.{Among, first, later}
use Rattle.octets.proofs.Choice.{opposite, both-held, both_true, pick_true, pick-false, pick-case, pick-passed}
use Rattle.octets.proofs.Outcome.{on-given}
use Rattle.octets.proofs.Orders.{same-equal, same-of-equal}
use Rattle.lists.specs.LentLists.{Item}
use Rattle.routes.specs.Route.{Route, nlri_of, Held, held, absent, lookup, Distinct}
use Rattle.routes.specs.Query.{Query}
use Rattle.routes.specs.Arguments.{read_flow}
use Rattle.routes.specs.Matching.{Found, nothing, found, match_in}
use Rattle.routes.specs.Rules.ArgumentRules.{GoodFlow}
use Rattle.routes.proofs.Definitions.Matching.Conditions.{of-fields, fields-of}
use Rattle.routes.proofs.Definitions.Matching.Flows.{flow-given}
use Rattle.routes.proofs.Definitions.Lookups.{absent-holds, holds-absent, held-or-absent, lookup-member, held-absent}
use Rattle.routes.proofs.Statements.ArgumentRules.{nlri-accepts, argument_rule}
use Rattle.routes.proofs.Theorems.{match_rule}
use Rattle.plan.specs.Flows.{Vrf, ListedFlow, asking, flows_in}
use Rattle.plan.specs.Judging.{is_own, all_own, no_repeat, gives, matched, serves, all_served, accepts}
use Rattle.plan.specs.Rules.FlowsRule.{Listed}
use Rattle.plan.specs.Rules.JudgeRule.{Own, NoneRepeated, Served}
use Rattle.plan.proofs.Items.{Threes, each}

own : (afi : ℕ) (vrf : Vrf) (r : Route) → (is_own afi vrf r ≡ true) ↔ Own afi vrf r
unfolding is_own
own afi vrf r = (
  λ h.
      let f = of-fields afi r _ h in
      let c = both-held _ _ f.2 in
      let read = (argument_rule.accepted_nlri afi (nlri_of r) f.0).0 f.1 in
      record { originates = record { named = record { fields = f.0; read = read.0; kind = read.1 }; originator = same-equal _ _ c.0 }; distinguishes = same-equal _ _ c.1 },
  λ o.
      fields-of afi r _ o.originates.named.fields (nlri-accepts afi (nlri_of r) o.originates.named)
      ∙ both_true _ _ (same-of-equal _ _ o.originates.originator) (same-of-equal _ _ o.distinguishes),
)

all_own_lem : (afi : ℕ) (vrf : Vrf) (rs : List Route) → all_own afi vrf rs ≡ true → (r : Route) → Among r rs → Own afi vrf r
unfolding all_own
all_own_lem afi vrf [] h r m = elim m [ ]
all_own_lem afi vrf (q ∷ rs) h r (first e) = rw e ((own afi vrf q).0 (both-held _ _ h).0)
all_own_lem afi vrf (q ∷ rs) h r (later m) = all_own_lem afi vrf rs (both-held _ _ h).1 r m

own-all : (afi : ℕ) (vrf : Vrf) (rs : List Route) → ((r : Route) → Among r rs → Own afi vrf r) → all_own afi vrf rs ≡ true
unfolding all_own
own-all afi vrf [] h = refl
own-all afi vrf (r ∷ rs) h = both_true _ _ ((own afi vrf r).1 (h r (first refl))) (own-all afi vrf rs (λ q m. h q (later m)))

pub repeats-not : (rs : List Route) → no_repeat rs ≡ true → Distinct rs
unfolding no_repeat
repeats-not [] h = Distinct.none
repeats-not (r ∷ rs) h = let p = pick-passed _ _ h in Distinct.one (absent-holds _ _ p.0) (repeats-not rs p.1)

not-repeats : {rs : List Route} → Distinct rs → no_repeat rs ≡ true
unfolding no_repeat
not-repeats Distinct.none = refl
not-repeats (Distinct.one h d) = pick-false _ _ _ (holds-absent _ _ h) ∙ not-repeats d

-- an NLRI that is absent is that of no route
absent-other : (nlri : List ℕ) (rs : List Route) → lookup nlri rs ≡ absent → (q : Route) → Among q rs → nlri ≡ nlri_of q → ⊥
unfolding lookup
absent-other nlri [] h q m n = elim m [ ]
absent-other nlri (u ∷ rs) h q (first e) n = held-absent refl (sym (pick_true _ _ _ (same-of-equal _ _ (n ∙ ap nlri_of e))) ∙ h)
absent-other nlri (u ∷ rs) h q (later m) n = pick-case (λ (l : Held). l ≡ absent → ⊥) _ (held u) (lookup nlri rs) (λ t z. held-absent refl z) (λ f z. absent-other nlri rs z q m n) h

pub distinct_none : {rs : List Route} → Distinct rs → NoneRepeated rs
distinct_none Distinct.none = NoneRepeated.none
distinct_none (Distinct.one {r} {rs} h d) = NoneRepeated.one (λ q m e. absent-other (nlri_of r) rs h q m (sym e)) (distinct_none d)

pub none-distinct : {rs : List Route} → NoneRepeated rs → Distinct rs
none-distinct NoneRepeated.none = Distinct.none
none-distinct (NoneRepeated.one {r} {rs} h d) =
    Distinct.one (⊎_elim (λ l. let m = lookup-member rs l.1 in absurd (h l.0 m.0 m.1)) (λ e. e) (held-or-absent (nlri_of r) rs)) (none-distinct d)

module _ (afi : ℕ) (vrf : Vrf) (rs : List Route) (distinct : Distinct rs) where
  module _ (f : ListedFlow) (good : GoodFlow afi (asking vrf f)) where
    serves_by : (q : Query) → read_flow afi (asking vrf f) ≡ given q → serves afi vrf rs f ≡ gives f.wanted (match_in afi q rs)
    unfolding serves matched
    serves_by q e = ap (gives f.wanted) (sym (on-given _ _ _ _ _ e refl))

    gives-taken : (q : Query) → read_flow afi (asking vrf f) ≡ given q → (w : Found) → match_in afi q rs ≡ w → gives f.wanted w ≡ true → Served afi vrf rs f.source f.group f.wanted
    unfolding gives
    gives-taken q e nothing m h = absurd (opposite {b = true} refl (sym h))
    gives-taken q e (found tier r) m h =
        record { tier = tier; taken = r; takes = (match_rule.chosen afi (asking vrf f) q rs e distinct tier r).0 m; has = same-equal _ _ h }

    taken-gives : (q : Query) → read_flow afi (asking vrf f) ≡ given q → Served afi vrf rs f.source f.group f.wanted → gives f.wanted (match_in afi q rs) ≡ true
    unfolding gives
    taken-gives q e s = rw ((match_rule.chosen afi (asking vrf f) q rs e distinct s.tier s.taken).1 s.takes) (same-of-equal _ _ s.has)

    served : (serves afi vrf rs f ≡ true) ↔ Served afi vrf rs f.source f.group f.wanted
    served =
        let g = flow-given afi (asking vrf f) good in
        let by = serves_by g.0 g.1 in
        (λ h. gives-taken g.0 g.1 (match_in afi g.0 rs) refl (sym by ∙ h), λ s. by ∙ taken-gives g.0 g.1 s)

  abbrev ServedFlow : ListedFlow → Type 0
  ServedFlow f = Served afi vrf rs f.source f.group f.wanted

  all-served : (fs : List ListedFlow) → ((f : ListedFlow) → Among f fs → GoodFlow afi (asking vrf f)) → all_served afi vrf rs fs ≡ true → (f : ListedFlow) → Among f fs → ServedFlow f
  unfolding all_served
  all-served [] good h f m = elim m [ ]
  all-served (g ∷ fs) good h f (first e) = subst ServedFlow (sym e) ((served g (good g (first refl))).0 (both-held _ _ h).0)
  all-served (g ∷ fs) good h f (later m) = all-served fs (λ k n. good k (later n)) (both-held _ _ h).1 f m

  served-all : (fs : List ListedFlow) → ((f : ListedFlow) → Among f fs → GoodFlow afi (asking vrf f)) → ((f : ListedFlow) → Among f fs → ServedFlow f) → all_served afi vrf rs fs ≡ true
  unfolding all_served
  served-all [] good h = refl
  served-all (f ∷ fs) good h = both_true _ _ ((served f (good f (first refl))).1 (h f (first refl))) (served-all fs (λ k n. good k (later n)) (λ k n. h k (later n)))

-- what is accepted, of routes
pub record AcceptedRoutes (afi : ℕ) (vrf : Vrf) (items : List Item) (rs : List Route) : Type 0 where
  pub own : (r : Route) → Among r rs → Own afi vrf r
  pub once : NoneRepeated rs
  pub served : (source group wanted : List ℕ) → Listed source group wanted items → Served afi vrf rs source group wanted

pub accepts-exactly : (afi : ℕ) (vrf : Vrf) (items : List Item) (rs : List Route) → Threes items → ((f : ListedFlow) → Among f (flows_in items) → GoodFlow afi (asking vrf f))
    → (accepts afi vrf (flows_in items) rs ≡ true) ↔ AcceptedRoutes afi vrf items rs
unfolding accepts
accepts-exactly afi vrf items rs three good =
    let by = each three (λ f. Served afi vrf rs f.source f.group f.wanted) in (
      λ h.
          let a = both-held _ _ h in
          let b = both-held _ _ a.1 in
          let d = repeats-not rs b.0 in
          record { own = all_own_lem afi vrf rs a.0; once = distinct_none d; served = by.0 (all-served afi vrf rs d (flows_in items) good b.1) },
      λ x.
          let d = none-distinct x.once in
          both_true _ _ (own-all afi vrf rs x.own) (both_true _ _ (not-repeats d) (served-all afi vrf rs d (flows_in items) good (by.1 x.served))),
    )
