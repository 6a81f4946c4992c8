-- The route that a match takes of routes with no NLRI twice, in plain terms: for any query, and for a flow's.
use Prim.Native.Nat.{ℕ, ◌<◌}
use mathlib.Core.Path.{◌≡◌, refl, sym, ◌∙◌, ap₂, subst}
use mathlib.Core.Bool.{true}
use mathlib.Core.List.{List}
use mathlib.Core.Logic.{◌↔◌}
use native.Mathlib.Omega.{arith}
use lib.Dec.{eqb}
use borrow.Author.Tests.{eqb-true, eq-eqb}
use Rattle.octets.specs.Order.{before}
use Rattle.octets.specs.Lists.{Among}
use Rattle.octets.proofs.Choice.{opposite}
use Rattle.octets.proofs.Orders.{before-neither}
use Rattle.nlri.specs.Fields.{Fields}
use Rattle.nlri.specs.Groups.{ASM, SSM}
use Rattle.routes.specs.Route.{Route, nlri_of, Distinct}
use Rattle.routes.specs.Query.{Wanted, meets, Query, Flow, flow_query}
use Rattle.routes.specs.Matching.{eligible, distinguisher_of, Found, nothing, found, match_in}
use Rattle.routes.specs.Rules.MatchRule.{InTier, both_equal, source_equal, group_equal, both_wildcard, Eligible, Taken, NoneTaken}
use Rattle.routes.proofs.Definitions.Lookups.{one-member}
use Rattle.routes.proofs.Definitions.Matching.Conditions.{qualified, qualifies, distinguisher-is, same-nlri}
use Rattle.routes.proofs.Definitions.Matching.First.{First, wanted_at, first-none, first-least, first_below, first-is}
use Rattle.routes.proofs.Definitions.Matching.OpenTiers.{Opened, opened1, opened2, opened3, opened4, tiers-exactly}
use Rattle.routes.proofs.Definitions.Matching.Flows.{AskedFlow}
use Rattle.routes.proofs.Statements.ArgumentRules.{argument_rule, nlri-accepts}

-- one route is taken
pub taken-one : {afi : ℕ} {router : List ℕ} {In : (tier : ℕ) → Fields → Type 0} {rs : List Route} {tier other : ℕ} {r u : Route} → Taken afi router In rs tier r → Taken afi router In rs other u → (other ≡ tier) × (u ≡ r)
taken-one {afi} {router} {In} {rs} {tier} {other} {r} {u} t s =
    let low : tier < other → ⊥ = λ h. s.lowest tier r h t.member t.eligible in
    let high : other < tier → ⊥ = λ h. t.lowest other u h s.member s.eligible in
    let same : other ≡ tier = omega arith in
    let v : Taken afi router In rs tier u = subst (λ (n : ℕ). Taken afi router In rs n u) same s in
    (same, t.only u v.member v.eligible (before-neither _ _ (t.first u v.member v.eligible) (v.first r t.member t.eligible)))

-- it is taken of all routes that are the same, in any order
pub taken-among : {afi : ℕ} {router : List ℕ} {In : (tier : ℕ) → Fields → Type 0} {rs us : List Route} {tier : ℕ} {r : Route} → ((u : Route) → Among u us ↔ Among u rs) → Taken afi router In rs tier r → Taken afi router In us tier r
taken-among {r = r} are t =
    record {
      member = (are r).1 t.member;
      eligible = t.eligible;
      lowest = λ other u less m. t.lowest other u less ((are u).0 m);
      first = λ u m. t.first u ((are u).0 m);
      only = λ u m. t.only u ((are u).0 m);
    }

-- a query whose tiers want exactly what their conditions say
module _ (afi : ℕ) (q : Query) (In : (tier : ℕ) → Fields → Type 0) (exactly : (tier : ℕ) (f : Fields) → (meets (wanted_at 1 tier q.tiers) f ≡ true) ↔ In tier f) where
  abbrev wanted : ℕ → Wanted
  wanted tier = wanted_at 1 tier q.tiers

  is-eligible : (tier : ℕ) (r : Route) → eligible afi q.router (wanted tier) r ≡ true → Eligible afi q.router In tier r
  is-eligible tier r h =
      let x = qualified afi q.router (wanted tier) r h in
      let n = (argument_rule.accepted_nlri afi (nlri_of r) x.fields).0 x.read in
      record { candidate = record { own = record { named = record { fields = x.fields; read = n.0; kind = n.1 }; originator = x.own }; tunnel = x.tunnel }; met = (exactly tier x.fields).0 x.met }

  eligible-is : (tier : ℕ) (r : Route) → Eligible afi q.router In tier r → eligible afi q.router (wanted tier) r ≡ true
  eligible-is tier r e =
      let own = e.candidate.own in
      let f : Fields = own.named.fields in
      qualifies afi q.router (wanted tier) r
      (record { fields = f; read = nlri-accepts afi (nlri_of r) own.named; own = own.originator; tunnel = e.candidate.tunnel; met = (exactly tier f).1 e.met })

  rd : {tier : ℕ} (r : Route) (e : Eligible afi q.router In tier r) → distinguisher_of afi r ≡ e.candidate.own.named.fields.distinguisher
  rd r e = distinguisher-is afi r e.candidate.own.named.fields (nlri-accepts afi (nlri_of r) e.candidate.own.named)

  module _ (rs : List Route) where
    abbrev IsFirst : Found → Type 0
    IsFirst best = First afi q.router rs 1 q.tiers best

    none-taken : IsFirst nothing → NoneTaken afi q.router In rs
    none-taken f tier u m e = opposite (eligible-is tier u e) (first-none f tier u m)

    first_taken : Distinct rs → (tier : ℕ) (r : Route) → IsFirst (found tier r) → Taken afi q.router In rs tier r
    first_taken d tier r f =
        let l = first-least f in
        let own : Eligible afi q.router In tier r = is-eligible tier r l.good in
        record {
          member = l.member;
          eligible = own;
          lowest = λ other u less m e. opposite (eligible-is other u e) (first_below f other less u m);
          first = λ u m e. sym (ap₂ before (rd u e) (rd r own)) ∙ l.least u m (eligible-is tier u e);
          only = λ u m e same. one-member u r d m l.member (same-nlri afi q.router (wanted tier) u r (eligible-is tier u e) l.good (rd u e ∙ same ∙ sym (rd r own)));
        }

    -- what is known of it among any routes
    pub found_first : (tier : ℕ) (r : Route) → match_in afi q rs ≡ found tier r
        → Among r rs × Eligible afi q.router In tier r × ((other : ℕ) (u : Route) → other < tier → Among u rs → Eligible afi q.router In other u → ⊥)
    found_first tier r e =
        let f = subst IsFirst e (first-is afi q rs) in
        let l = first-least f in
        (l.member, is-eligible tier r l.good, λ other u less m o. opposite (eligible-is other u o) (first_below f other less u m))

    taken-found : Distinct rs → (tier : ℕ) (r : Route) (best : Found) → IsFirst best → Taken afi q.router In rs tier r → best ≡ found tier r
    taken-found d tier r nothing f t = absurd (none-taken f tier r t.member t.eligible)
    taken-found d tier r (found other u) f t = let one = taken-one t (first_taken d other u f) in ap₂ found one.0 one.1

    none_found : (best : Found) → IsFirst best → NoneTaken afi q.router In rs → best ≡ nothing
    none_found nothing f none = refl
    none_found (found tier r) f none = let l = first-least f in absurd (none tier r l.member (is-eligible tier r l.good))

    pub found-taken : Distinct rs → (tier : ℕ) (r : Route) → (match_in afi q rs ≡ found tier r) ↔ Taken afi q.router In rs tier r
    found-taken d tier r = (λ e. first_taken d tier r (subst IsFirst e (first-is afi q rs)), taken-found d tier r (match_in afi q rs) (first-is afi q rs))

    pub nothing-taken : (match_in afi q rs ≡ nothing) ↔ NoneTaken afi q.router In rs
    nothing-taken = (λ e. none-taken (subst IsFirst e (first-is afi q rs)), none_found (match_in afi q rs) (first-is afi q rs))

-- a flow's query wants what document 01's conditions say
module _ (afi : ℕ) (flow : Flow) (q : Query) (a : AskedFlow afi flow q) (f : Fields) where
  abbrev FlowOpened : ℕ → Type 0
  FlowOpened tier = Opened flow.source flow.group true (eqb a.class SSM) (eqb a.class ASM) true f tier

  in-tier : {tier : ℕ} → FlowOpened tier → InTier afi flow tier f
  in-tier (opened1 on s g) = both_equal s g
  in-tier (opened2 on s g) = source_equal s g (a.specific.0 (eqb-true _ _ on))
  in-tier (opened3 on s g) = group_equal s g (a.other.0 (eqb-true _ _ on))
  in-tier (opened4 on s g) = both_wildcard s g

  tier-opened : {tier : ℕ} → InTier afi flow tier f → FlowOpened tier
  tier-opened (both_equal s g) = opened1 refl s g
  tier-opened (source_equal s g ssm) = opened2 (eq-eqb _ _ (a.specific.1 ssm)) s g
  tier-opened (group_equal s g asm) = opened3 (eq-eqb _ _ (a.other.1 asm)) s g
  tier-opened (both_wildcard s g) = opened4 refl s g

  pub flow-exactly : (tier : ℕ) → (meets (wanted_at 1 tier q.tiers) f ≡ true) ↔ InTier afi flow tier f
  unfolding flow_query
  flow-exactly tier =
      let wants = tiers-exactly flow.source flow.group true (eqb a.class SSM) (eqb a.class ASM) true f tier in
      subst (λ (x : Query). (meets (wanted_at 1 tier x.tiers) f ≡ true) ↔ InTier afi flow tier f) (sym a.is) (λ h. in-tier (wants.0 h), λ i. wants.1 (tier-opened i))
