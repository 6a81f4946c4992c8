-- What the planner proposes is accepted.
use Prim.Native.Nat.{ℕ, ◌<◌}
use mathlib.Core.Path.{◌≡◌, refl, sym, ap, ◌∙◌, subst}
use mathlib.Core.Bool.{false}
use mathlib.Core.List.{List, [], ◌∷◌}
use mathlib.Core.Logic.{◌⊎◌, inl, inr, ⊎_elim}
use native.Mathlib.Omega.{arith}
use lib.ListN.{length}
use Rattle.octets.specs.Outcome.{given}
use Rattle.octets.specs.Octets.{AllOctets}
use Rattle.octets.specs.Order.{same, before}
use Rattle.octets.specs.Lists.{Among, first, later}
use Rattle.octets.proofs.Choice.{tested}
use Rattle.octets.proofs.Outcome.{given-same}
use Rattle.octets.proofs.Orders.{same-equal, before-itself}
use Rattle.octets.proofs.Among.{among_none, among_cases}
use Rattle.nlri.specs.Fields.{Fields}
use Rattle.nlri.specs.Reading.{read_nlri}
use Rattle.nlri.specs.Groups.{Multicast}
use Rattle.nlri.proofs.Theorems.{lengths}
use Rattle.nlri.proofs.Definitions.Lengths.{family-good}
use Rattle.routes.specs.Route.{Route, nlri_of, attribute_of, Distinct}
use Rattle.routes.specs.Rules.ArgumentRules.{RouterSized, FamilySized, Labelled, SPmsiOf}
use Rattle.routes.specs.Rules.MatchRule.{InTier, both_equal, source_equal, group_equal, both_wildcard, NamesTunnel, Candidate, Eligible}
use Rattle.routes.proofs.Definitions.Lookups.{held-or-absent, lookup-member}
use Rattle.groups.proofs.ClassRule.{multicast-family}
use Rattle.plan.specs.Flows.{Vrf, ListedFlow, asking, different}
use Rattle.plan.specs.Commonest.{others, commonest}
use Rattle.plan.specs.Planning.{fields_for, route_for, routes_for, wildcard_flow, planned, proposal}
use Rattle.plan.specs.Rules.JudgeRule.{Own, Served}
use Rattle.plan.proofs.Counts.{SameFlow, Apart, among-different, different-among, others-among, among-others, others_apart, different-apart, commonest-wanted}
use Rattle.plan.proofs.PlannedNlris.{Entry, for-nlri, for-s-pmsi, multicast-sized, sized-some, address-allowed, well-formed, flow-equal, address-most, in-some-tier}

-- what acceptance asks of flows
pub record Plannable (afi : ℕ) (vrf : Vrf) (fs : List ListedFlow) : Type 0 where
  pub originator : RouterSized vrf.originator
  pub distinguisher : length vrf.distinguisher ≡ 8
  pub addressed : (f : ListedFlow) → Among f fs → FamilySized afi f.source × Multicast afi f.group
  pub labelled : (f : ListedFlow) → Among f fs → Labelled f.wanted
  pub tunnelled : (f : ListedFlow) → Among f fs → NamesTunnel f.wanted
  pub agree : (f g : ListedFlow) → Among f fs → Among g fs → SameFlow f g → f.wanted ≡ g.wanted
  pub octets : AllOctets vrf.originator × AllOctets vrf.distinguisher
  pub each : (f : ListedFlow) → Among f fs → AllOctets f.source × AllOctets f.group

-- what is accepted of a plan, and its attributes
pub record AcceptedPlan (afi : ℕ) (vrf : Vrf) (fs : List ListedFlow) (rs : List Route) : Type 0 where
  pub own : (r : Route) → Among r rs → Own afi vrf r
  pub labelled : (r : Route) → Among r rs → Labelled (attribute_of r)
  pub distinct : Distinct rs
  pub served : (f : ListedFlow) → Among f fs → Served afi vrf rs f.source f.group f.wanted

module _ (afi : ℕ) (vrf : Vrf) where
  route-of : (es : List ListedFlow) (u : Route) → Among u (routes_for vrf es) → (h : ListedFlow) × Among h es × (u ≡ route_for vrf h)
  unfolding routes_for
  route-of [] u m = absurd (among_none m)
  route-of (f ∷ es) u m =
      ⊎_elim {C = (h : ListedFlow) × Among h (f ∷ es) × (u ≡ route_for vrf h)}
      (λ e. (f, first refl, e)) (λ k. let r = route-of es u k in (r.0, later r.1, r.2)) (among_cases m)

  member-route : (h : ListedFlow) {es : List ListedFlow} → Among h es → Among (route_for vrf h) (routes_for vrf es)
  unfolding routes_for
  member-route h (first e) = first (ap (route_for vrf) e)
  member-route h (later m) = later (member-route h m)

  -- how a route for a flow reads, in its fields
  record View (f : Fields) (h : ListedFlow) : Type 0 where
    source : f.source ≡ h.source
    group : f.group ≡ h.group
    originates : f.originator ≡ vrf.originator
    distinguishes : f.distinguisher ≡ vrf.distinguisher

  for-view : (f : Fields) (h : ListedFlow) → f ≡ fields_for vrf h → View f h
  unfolding fields_for
  for-view f h e =
      record {
        source = ap (λ (x : Fields). x.source) e;
        group = ap (λ (x : Fields). x.group) e;
        originates = ap (λ (x : Fields). x.originator) e;
        distinguishes = ap (λ (x : Fields). x.distinguisher) e;
      }

  view : (f : Fields) (h : ListedFlow) (u : Route) → Entry afi vrf h → u ≡ route_for vrf h → read_nlri afi (nlri_of u) ≡ given f → View f h
  view f h u n e r = for-view f h (given-same (sym r ∙ ap (λ (x : Route). read_nlri afi (nlri_of x)) e ∙ for-nlri afi vrf h n))

  -- routes for flows of which no two are one have no NLRI twice
  routes-distinct : {es : List ListedFlow} → Apart es → ((h : ListedFlow) → Among h es → Entry afi vrf h) → Distinct (routes_for vrf es)
  unfolding routes_for nlri_of fields_for
  routes-distinct Apart.none n = Distinct.none
  routes-distinct (Apart.one {f} {fs = es} a p) n =
      Distinct.one
      (⊎_elim
      (λ l.
      let m = lookup-member _ l.1 in
      let r = route-of es l.0 m.0 in
      let v = view (fields_for vrf f) r.0 l.0 (n r.0 (later r.1)) r.2 (ap (read_nlri afi) m.1 ∙ for-nlri afi vrf f (n f (first refl))) in
      absurd (a r.0 r.1 (record { source = v.source; group = v.group })))
      (λ e. e)
      (held-or-absent (nlri_of (route_for vrf f)) (routes_for vrf es)))
      (routes-distinct p (λ h m. n h (later m)))

  module _ (fs : List ListedFlow) (good : Plannable afi vrf fs) where
    source-some : (f : ListedFlow) → Among f fs → f.source ≡ [] → ⊥
    source-some f m e = sized-some f.source (good.addressed f m).0 e

    group-some : (f : ListedFlow) → Among f fs → f.group ≡ [] → ⊥
    group-some f m e = sized-some f.group (multicast-sized (good.addressed f m).1) e

    -- an entry whose addresses are the family's or wildcards, where later is a flow
    entry : (f h : ListedFlow) → Among f fs → FamilySized afi h.source ⊎ (h.source ≡ []) → FamilySized afi h.group ⊎ (h.group ≡ []) → AllOctets h.source → AllOctets h.group → Entry afi vrf h
    entry f h m s g so go =
        let family = family-good afi (multicast-family (good.addressed f m).1) in
        record {
          family = family.0;
          bits = family.1;
          well_formed =
              well-formed family.0 vrf h (good.distinguisher, good.octets.1)
              ((lengths.originators (length vrf.originator)).1 good.originator, good.octets.0)
              (address-allowed afi family.0 h.source family.1 s, so) (address-allowed afi family.0 h.group family.1 g, go)
              (address-most h.source s) (address-most h.group g) (⊎_elim (λ a. omega arith) (λ a. omega arith) good.originator);
        }

    flow-entry : (f : ListedFlow) → Among f fs → Entry afi vrf f
    flow-entry f m = entry f f m (inl (good.addressed f m).0) (inl (multicast-sized (good.addressed f m).1)) (good.each f m).0 (good.each f m).1

    -- an attribute that one of the flows wants
    module _ (a : List ℕ) (w : ListedFlow) (wm : Among w fs) (is : w.wanted ≡ a) where
      star-entry : Entry afi vrf (wildcard_flow a)
      unfolding wildcard_flow
      star-entry = entry w (wildcard_flow a) wm (inr refl) (inr refl) AllOctets.none AllOctets.none

      abbrev Sort : ListedFlow → Type 0
      Sort h = (h ≡ wildcard_flow a) ⊎ (Among h fs × (h.wanted ≡ a → ⊥))

      sort : (h : ListedFlow) → Among h (planned a fs) → Sort h
      unfolding planned
      sort h m = ⊎_elim (λ e. inl e) (λ k. let o = others-among a (different fs) h k in inr (different-among fs h o.0, o.1)) (among_cases m)

      sort-entry : (h : ListedFlow) → Sort h → Entry afi vrf h
      sort-entry h s = ⊎_elim (λ e. subst (Entry afi vrf) (sym e) star-entry) (λ k. flow-entry h k.0) s

      sort-attribute : (P : List ℕ → Type 0) → ((f : ListedFlow) → Among f fs → P f.wanted) → (h : ListedFlow) → Sort h → P h.wanted
      unfolding wildcard_flow
      sort-attribute P each h s =
          ⊎_elim
          (λ e. subst P (is ∙ ap (λ (x : ListedFlow). x.wanted) (sym e)) (each w wm))
          (λ k. each h k.0)
          s

      planned-apart : Apart (planned a fs)
      unfolding planned wildcard_flow
      planned-apart =
          Apart.one (λ g m s. source-some g (different-among fs g (others-among a (different fs) g m).0) (sym s.source)) (others_apart a (different-apart fs))

      plan : List Route
      plan = routes_for vrf (planned a fs)

      plan-distinct : Distinct plan
      unfolding plan
      plan-distinct = routes-distinct planned-apart (λ h m. sort-entry h (sort h m))

      -- a route of the plan, by what it is for
      record PlanRoute (u : Route) : Type 0 where
        entry-flow : ListedFlow
        sorted : Sort entry-flow
        for : u ≡ route_for vrf entry-flow
        views : (f : Fields) → read_nlri afi (nlri_of u) ≡ given f → View f entry-flow

      plan-route : (u : Route) → Among u plan → PlanRoute u
      unfolding plan
      plan-route u m =
          let r = route-of (planned a fs) u m in
          let s = sort r.0 r.1 in
          record { entry-flow = r.0; sorted = s; for = r.2; views = λ f e. view f r.0 u (sort-entry r.0 s) r.2 e }

      -- it is one of the originator's, of its RD and with a tunnel
      for-own : (h : ListedFlow) → Sort h → SPmsiOf afi vrf.originator (nlri_of (route_for vrf h))
      unfolding fields_for for-s-pmsi
      for-own h s = record { named = for-s-pmsi afi vrf h (sort-entry h s); originator = refl }

      wants : (P : List ℕ → Type 0) → ((f : ListedFlow) → Among f fs → P f.wanted) → (h : ListedFlow) → Sort h → P (attribute_of (route_for vrf h))
      unfolding route_for attribute_of
      wants P each h s = sort-attribute P each h s

      plan-own : (u : Route) → Among u plan → Own afi vrf u
      unfolding fields_for for-s-pmsi for-own
      plan-own u m =
          let p = plan-route u m in
          let h = p.entry-flow in
          subst (Own afi vrf) (sym p.for) (record { originates = for-own h p.sorted; distinguishes = refl })

      plan-labelled : (u : Route) → Among u plan → Labelled (attribute_of u)
      plan-labelled u m = let p = plan-route u m in subst (λ (r : Route). Labelled (attribute_of r)) (sym p.for) (wants Labelled good.labelled p.entry-flow p.sorted)

      candidate : (h : ListedFlow) → Sort h → Candidate afi vrf.originator (route_for vrf h)
      candidate h s = record { own = for-own h s; tunnel = wants NamesTunnel good.tunnelled h s }

      -- a flow that wants the attribute takes the wildcards' route
      module _ (f : ListedFlow) (fm : Among f fs) where
        not_lower : {tier : ℕ} (x : Fields) (h : ListedFlow) → f.wanted ≡ a → Sort h → View x h → tier < 4 → InTier afi (asking vrf f) tier x → ⊥
        unfolding wildcard_flow
        not_lower x h want s v l (both_equal p q) =
            ⊎_elim
            (λ e. source-some f fm (sym p ∙ v.source ∙ ap (λ (x : ListedFlow). x.source) e))
            (λ k. k.1 (good.agree h f k.0 fm (record { source = sym v.source ∙ p; group = sym v.group ∙ q }) ∙ want))
            s
        not_lower x h want s v l (source_equal p q ssm) =
            ⊎_elim
            (λ e. source-some f fm (sym p ∙ v.source ∙ ap (λ (x : ListedFlow). x.source) e))
            (λ k. group-some h k.0 (sym v.group ∙ q))
            s
        not_lower x h want s v l (group_equal p q asm) =
            ⊎_elim
            (λ e. group-some f fm (sym q ∙ v.group ∙ ap (λ (x : ListedFlow). x.group) e))
            (λ k. source-some h k.0 (sym v.source ∙ p))
            s
        not_lower x h want s v l (both_wildcard p q) = absurd (omega arith)

        -- in tier 4 later is one route
        one-star : {tier : ℕ} (x : Fields) (h : ListedFlow) → Sort h → View x h → tier ≡ 4 → InTier afi (asking vrf f) tier x → h ≡ wildcard_flow a
        one-star x h s v l (both_equal p q) = absurd (omega arith)
        one-star x h s v l (source_equal p q ssm) = absurd (omega arith)
        one-star x h s v l (group_equal p q asm) = absurd (omega arith)
        one-star x h s v l (both_wildcard p q) = ⊎_elim (λ e. e) (λ k. absurd (source-some h k.0 (sym v.source ∙ p))) s

        -- in tier 1 too
        one-flow : {tier : ℕ} (x : Fields) (h g : ListedFlow) → Among g fs → SameFlow f g → Sort h → View x h → tier ≡ 1 → InTier afi (asking vrf f) tier x → h ≡ g
        unfolding wildcard_flow
        one-flow x h g gm e s v l (both_equal p q) =
            ⊎_elim
            (λ k. absurd (source-some f fm (sym p ∙ v.source ∙ ap (λ (x : ListedFlow). x.source) k)))
            (λ k.
            let same : SameFlow h g = record { source = sym v.source ∙ p ∙ e.source; group = sym v.group ∙ q ∙ e.group } in
            flow-equal h g same (good.agree h g k.0 gm same))
            s
        one-flow x h g gm e s v l (source_equal p q ssm) = absurd (omega arith)
        one-flow x h g gm e s v l (group_equal p q asm) = absurd (omega arith)
        one-flow x h g gm e s v l (both_wildcard p q) = absurd (omega arith)

        -- every route of the plan has the one RD
        none_before : (u : Route) → Among u plan → (tier : ℕ) (c : Eligible afi vrf.originator (InTier afi (asking vrf f)) tier u) → before c.candidate.own.named.fields.distinguisher vrf.distinguisher ≡ false
        none_before u m tier c = rw ((plan-route u m).views c.candidate.own.named.fields c.candidate.own.named.read).distinguishes (before-itself vrf.distinguisher)

        star-served : f.wanted ≡ a → Served afi vrf plan f.source f.group f.wanted
        unfolding plan planned route_for attribute_of fields_for wildcard_flow candidate for-own for-s-pmsi
        star-served want =
            record {
              tier = 4;
              taken = route_for vrf (wildcard_flow a);
              takes =
                  record {
                    member = member-route (wildcard_flow a) (first refl);
                    eligible = record { candidate = candidate (wildcard_flow a) (inl refl); met = both_wildcard refl refl };
                    lowest = λ other u l m c. let p = plan-route u m in not_lower c.candidate.own.named.fields p.entry-flow want p.sorted (p.views _ c.candidate.own.named.read) l c.met;
                    first = λ u m c. none_before u m 4 c;
                    only = λ u m c e.
                        let p = plan-route u m in p.for ∙ ap (route_for vrf) (one-star c.candidate.own.named.fields p.entry-flow p.sorted (p.views _ c.candidate.own.named.read) refl c.met);
                  };
              has = sym want;
            }

        flow-served : (g : ListedFlow) → Among g (others a (different fs)) → Among g fs → SameFlow f g → f.wanted ≡ g.wanted → Served afi vrf plan f.source f.group f.wanted
        unfolding plan planned route_for attribute_of fields_for candidate for-own for-s-pmsi
        flow-served g om gm e want =
            record {
              tier = 1;
              taken = route_for vrf g;
              takes =
                  record {
                    member = member-route g (later om);
                    eligible = record { candidate = candidate g (inr (gm, (others-among a (different fs) g om).1)); met = both_equal (sym e.source) (sym e.group) };
                    lowest = λ other u l m c. in-some-tier c.met l;
                    first = λ u m c. none_before u m 1 c;
                    only = λ u m c d.
                        let p = plan-route u m in p.for ∙ ap (route_for vrf) (one-flow c.candidate.own.named.fields p.entry-flow g gm e p.sorted (p.views _ c.candidate.own.named.read) refl c.met);
                  };
              has = sym want;
            }

        plan-served : Served afi vrf plan f.source f.group f.wanted
        plan-served =
            let d = among-different fs f fm in
            let g = d.0 in
            let gm = different-among fs g d.1 in
            let want : f.wanted ≡ g.wanted = good.agree f g fm gm d.2 in
            tested (same g.wanted a)
            (λ t. star-served (want ∙ same-equal _ _ t))
            (λ n. flow-served g (among-others a (different fs) g d.1 n) gm d.2 want)

      plan-accepted : AcceptedPlan afi vrf fs plan
      plan-accepted = record { own = plan-own; labelled = plan-labelled; distinct = plan-distinct; served = plan-served }

  pub proposal-accepted : (fs : List ListedFlow) → Plannable afi vrf fs → AcceptedPlan afi vrf fs (proposal vrf fs)
  unfolding proposal plan
  proposal-accepted [] good = record { own = λ r m. absurd (among_none m); labelled = λ r m. absurd (among_none m); distinct = Distinct.none; served = λ f m. absurd (among_none m) }
  proposal-accepted (f ∷ fs) good =
      let c = commonest-wanted f fs in
      plan-accepted (f ∷ fs) good (commonest (f ∷ fs)) c.0 (different-among (f ∷ fs) c.0 c.1) c.2
