-- Why flows are refused: each number over all flows before the next.
use Prim.Native.Nat.{ℕ}
use mathlib.Core.Path.{◌≡◌, refl, sym, ap, ◌∙◌, subst}
use mathlib.Core.Bool.{true, false}
use mathlib.Core.List.{List, [], ◌∷◌}
use mathlib.Core.Logic.{◌↔◌, ◌⊎◌, ◌≢◌, inl, inr, ⊎_elim}
use native.Mathlib.Omega.{arith}
use lib.ListN.{length}
use lib.Dec.{eqb}
use borrow.Author.Tests.{eqb-true, eqb-false, eq-eqb, ne_eqb}
use Rattle.octets.specs.Numbers.{DONE, TUNNEL, FLOW, LABEL, CONFLICT}
use Rattle.octets.specs.Choice.{pick}
use Rattle.octets.specs.Outcome.{Outcome, given, refused, number_of}
use Rattle.octets.specs.Lists.{Among, first, later}
use Rattle.octets.proofs.Choice.{tested, opposite, is_true, is_false, both-held, both_true, either_true}
use Rattle.octets.proofs.Outcome.{never, given-same, outcome, refuses-where, stopped, on-given, number-given, number-refused, done-given, Refuses, value, number, refuses-pick, refuses-then, refuses-by}
use Rattle.lists.specs.LentLists.{Item, item_field}
use Rattle.nlri.specs.Groups.{Multicast}
use Rattle.nlri.proofs.Theorems.{lengths}
use Rattle.groups.specs.Rules.ClassRule.{GoodPrefixes, PrefixRefusal, refused_prefixes}
use Rattle.groups.proofs.Theorems.{class_rule}
use Rattle.tunnel.specs.Attribute.{AttributeFields, read_attribute}
use Rattle.routes.specs.Arguments.{read_labelled, read_flow}
use Rattle.routes.specs.Rules.ArgumentRules.{KnownFamily, RouterSized, FamilySized, Labelled}
use Rattle.routes.specs.Rules.MatchRule.{NamesTunnel}
use Rattle.routes.proofs.Definitions.Matching.Flows.{flow-given, flow-asked, flow-refused}
use Rattle.routes.proofs.Definitions.ByArguments.{ByArguments, attribute-argued}
use Rattle.routes.proofs.Statements.ArgumentRules.{labelled, takes-labelled}
use Rattle.plan.specs.Flows.{Vrf, ListedFlow, asking, flow_in, flows_in}
use Rattle.plan.specs.Refusing.{first_flow_fault, conflicts, flow_fault, attribute_fault, label_fault, type_fault, vrf_fault, attributes_fault, flows_fault}
use Rattle.plan.specs.Rules.FlowsRule.{Listed, GoodSizes, AllAttributesRead, FirstUnread, here, AllLabelled, AllTunnelled, Conflict}
use Rattle.plan.proofs.Items.{Threes, flow_by, among-listed, listed-among, each}
use Rattle.plan.proofs.Conflicts.{clash, agreeing}
use Rattle.plan.proofs.OrderedRefusals.{Step, next-is, stays, goes_on, next-done, step-next, step-one, step-as, pick-done, done-pick, pick-number, number-pick}

-- a test of every flow
first_done : (fault : ListedFlow → ℕ) (fs : List ListedFlow) → first_flow_fault fault fs ≡ DONE → (f : ListedFlow) → Among f fs → fault f ≡ DONE
unfolding first_flow_fault
first_done fault [] h f m = elim m [ ]
first_done fault (g ∷ fs) h f (first e) = rw e ((next-done (fault g) (first_flow_fault fault fs)).0 h).0
first_done fault (g ∷ fs) h f (later m) = first_done fault fs ((next-done (fault g) (first_flow_fault fault fs)).0 h).1 f m

done_first : (fault : ListedFlow → ℕ) (fs : List ListedFlow) → ((f : ListedFlow) → Among f fs → fault f ≡ DONE) → first_flow_fault fault fs ≡ DONE
unfolding first_flow_fault
done_first fault [] h = refl
done_first fault (f ∷ fs) h = (next-done _ _).1 (h f (first refl), done_first fault fs (λ g m. h g (later m)))

first-number : (fault : ListedFlow → ℕ) (k : ℕ) (fs : List ListedFlow) → ((f : ListedFlow) → Among f fs → fault f ≢ DONE → fault f ≡ k) → first_flow_fault fault fs ≢ DONE → first_flow_fault fault fs ≡ k
unfolding first_flow_fault
first-number fault k [] h d = absurd (d refl)
first-number fault k (f ∷ fs) h d =
    tested (eqb (fault f) DONE)
    (λ t. let e = eqb-true _ _ t in goes_on _ _ _ e (first-number fault k fs (λ g m. h g (later m)) (λ z. d (goes_on _ _ _ e z))))
    (λ n. let b = eqb-false _ _ n in let e = h f (first refl) b in stays _ _ _ (λ z. b (e ∙ z)) e)

-- all of whose faults have one number
step-each : (fault : ListedFlow → ℕ) (k : ℕ) (P : ListedFlow → Type 0) (fs : List ListedFlow) → ((f : ListedFlow) → Among f fs → ((fault f ≡ DONE) ↔ P f) × (fault f ≢ DONE → fault f ≡ k))
    → Step (first_flow_fault fault fs) ((f : ListedFlow) → Among f fs → P f) (λ n. (n ≡ k) × (((f : ListedFlow) → Among f fs → P f) → ⊥))
step-each fault k P fs h =
    step-one (first_flow_fault fault fs) k ((f : ListedFlow) → Among f fs → P f)
    (λ e f m. (h f m).0.0 (first_done fault fs e f m), λ p. done_first fault fs (λ f m. (h f m).0.1 (p f m)))
    (first-number fault k fs (λ f m. (h f m).1))

-- the steps

number-done : {A : Type 0} (o : Outcome A) → Refuses ByArguments o → number_of o ≡ DONE → (a : A) × (o ≡ given a)
number-done o r e = done-given o (λ n d. (refuses-by o n r d).0) e

-- prefixes that are good are not refused
good-unrefused : (afi : ℕ) (p : List ℕ) (n : ℕ) → KnownFamily afi → GoodPrefixes afi p → PrefixRefusal afi p n → ⊥
good-unrefused afi p n family good r = never ((class_rule.prefixes_given afi p).1 (family, good)).1 ((class_rule.prefixes_refused afi p n).1 (refused_prefixes family r))

abbrev GoodAddresses : (afi : ℕ) → ListedFlow → Type 0
GoodAddresses afi f = FamilySized afi f.source × Multicast afi f.group

flow-step : (afi : ℕ) (vrf : Vrf) → KnownFamily afi → GoodPrefixes afi vrf.prefixes → RouterSized vrf.originator
    → (f : ListedFlow) → ((flow_fault afi vrf f ≡ DONE) ↔ GoodAddresses afi f) × (flow_fault afi vrf f ≢ DONE → flow_fault afi vrf f ≡ FLOW)
unfolding flow_fault
flow-step afi vrf family good sized f =
    ⊎_elim {C = ((number_of (read_flow afi (asking vrf f)) ≡ DONE) ↔ GoodAddresses afi f) × (number_of (read_flow afi (asking vrf f)) ≢ DONE → number_of (read_flow afi (asking vrf f)) ≡ FLOW)}
    (λ g. let a = (flow-asked afi (asking vrf f) g.0 g.1).good in ((λ h. (a.sourced, a.multicast), λ x. number-given g.1), λ d. absurd (d (number-given g.1))))
    (λ r.
    let n = number-refused r.1 ∙ ⊎_elim (λ p. absurd (good-unrefused afi vrf.prefixes r.0 family good p)) (λ q. q.1) (flow-refused afi (asking vrf f) r.0 family r.1) in (
      (
        λ h. let z : FLOW ≡ DONE = sym n ∙ h in absurd (omega (arith, z)),
        λ x. absurd (never (flow-given afi (asking vrf f) (record { prefixed = good; addressed = sized; sourced = x.0; multicast = x.1 })).1 r.1),
      ),
      λ d. n,
    ))
    (outcome (read_flow afi (asking vrf f)))

labelled-argued : (a : List ℕ) → Refuses ByArguments (read_labelled a)
unfolding read_labelled
labelled-argued a = refuses-then _ _ (attribute-argued a) (λ g. refuses-pick _ _ _ (number (omega arith)) value)

refuses-label : (a : List ℕ) (g : AttributeFields) (n : ℕ) → read_attribute a ≡ given g → read_labelled a ≡ refused n → n ≡ LABEL
unfolding read_labelled
refuses-label a g n e r = ⊎_elim (λ z. absurd (never e z)) (λ l. (refuses-where _ _ _ _ l.second).1) (stopped _ _ _ r)

label-step : (f : ListedFlow) (g : AttributeFields) → read_attribute f.wanted ≡ given g → ((label_fault f ≡ DONE) ↔ Labelled f.wanted) × (label_fault f ≢ DONE → label_fault f ≡ LABEL)
unfolding label_fault
label-step f g e = (
  (
    λ h. let x = number-done _ (labelled-argued f.wanted) h in labelled f.wanted x.0 x.1,
    λ l. number-given (takes-labelled f.wanted l),
  ),
  λ d. ⊎_elim (λ x. absurd (d (number-given x.1))) (λ r. number-refused r.1 ∙ refuses-label f.wanted g r.0 e r.1) (outcome (read_labelled f.wanted)),
)

type-step : (f : ListedFlow) (g : AttributeFields) → read_attribute f.wanted ≡ given g → ((type_fault f ≡ DONE) ↔ NamesTunnel f.wanted) × (type_fault f ≢ DONE → type_fault f ≡ TUNNEL)
unfolding type_fault
type-step f g e =
    let by = sym (on-given _ _ _ (λ number. number) (λ (g : AttributeFields). pick (eqb g.tunnel_type 0) TUNNEL DONE) e refl) in (
      (
        λ h. record { fields = g; read = e; some = eqb-false _ _ ((pick-done _ _ (λ z. omega (arith, z))).0 (sym by ∙ h)) },
        λ n. by ∙ (pick-done _ _ (λ z. omega (arith, z))).1 (ne_eqb _ _ (λ z. n.some (ap (λ (x : AttributeFields). x.tunnel_type) (given-same (sym n.read ∙ e)) ∙ z))),
      ),
      λ d. by ∙ number-pick _ _ (λ z. d (by ∙ z)),
    )

vrf-step : (vrf : Vrf) → Step (vrf_fault vrf) (RouterSized vrf.originator × (length vrf.distinguisher ≡ 8)) (λ n. (n ≡ FLOW) × (RouterSized vrf.originator × (length vrf.distinguisher ≡ 8) → ⊥))
unfolding vrf_fault
vrf-step vrf =
    step-one _ FLOW _ (
      λ h. let b = both-held _ _ ((done-pick _ FLOW (λ z. omega (arith, z))).0 h) in ((lengths.originators _).0 b.0, eqb-true _ _ b.1),
      λ x. (done-pick _ FLOW (λ z. omega (arith, z))).1 (both_true _ _ ((lengths.originators _).1 x.0) (eq-eqb _ _ x.1)),
    )
    (pick-number _ FLOW)

first-unread : {items : List Item} → Threes items → (n : ℕ) → n ≢ DONE → first_flow_fault attribute_fault (flows_in items) ≡ n → FirstUnread items n
unfolding first_flow_fault attribute_fault flows_in flow_in item_field
first-unread Threes.none n d h = absurd (d (sym h))
first-unread (Threes.one {source} {group} {wanted} t) n d h =
    ⊎_elim
    (λ a. ⊎_elim (λ g. absurd (a.1 (number-given g.1))) (λ r. here (r.1 ∙ ap refused (sym (number-refused r.1) ∙ a.0))) (outcome (read_attribute wanted)))
    (λ a. let g = number-done _ (attribute-argued wanted) a.0 in FirstUnread.later g.0 g.1 (first-unread t n d a.1))
    (next-is _ _ _ h)

unread-first : {items : List Item} {n : ℕ} → FirstUnread items n → n ≢ DONE → first_flow_fault attribute_fault (flows_in items) ≡ n
unfolding first_flow_fault attribute_fault flows_in flow_in item_field
unread-first (here e) d = stays _ _ _ d (number-refused e)
unread-first (FirstUnread.later g e r) d = goes_on _ _ _ (number-given e) (unread-first r d)

pub unread-some : {items : List Item} {n : ℕ} → FirstUnread items n → n ≢ DONE
unread-some {n = n} (here {wanted = wanted} e) = (refuses-by (read_attribute wanted) n (attribute-argued wanted) e).0
unread-some (FirstUnread.later g e r) = unread-some r

-- each step over the items
module _ (items : List Item) (three : Threes items) where
  read_step : Step (first_flow_fault attribute_fault (flows_in items)) (AllAttributesRead items) (FirstUnread items)
  unfolding attribute_fault
  read_step =
      record {
        done = (
          λ h s g w m. number-done _ (attribute-argued w) (first_done attribute_fault (flows_in items) h (flow_by s g w) (listed-among s g w m)),
          λ l. done_first attribute_fault (flows_in items) (λ f m. number-given (l f.source f.group f.wanted (among-listed three f m)).1),
        );
        fault = λ k d. (first-unread three k d, λ r. unread-first r d);
      }

  -- a test of every flow whose faults have one number
  item-step : (fault : ListedFlow → ℕ) (k : ℕ) (P : ListedFlow → Type 0) → ((f : ListedFlow) → Among f (flows_in items) → ((fault f ≡ DONE) ↔ P f) × (fault f ≢ DONE → fault f ≡ k))
      → Step (first_flow_fault fault (flows_in items)) ((s g w : List ℕ) → Listed s g w items → P (flow_by s g w)) (λ n. (n ≡ k) × (((s g w : List ℕ) → Listed s g w items → P (flow_by s g w)) → ⊥))
  item-step fault k P h =
      let e = each three P in
      step-as (step-each fault k P (flows_in items) h) e (λ n. (λ r. (r.0, λ q. r.1 (e.1 q)), λ r. (r.0, λ q. r.1 (e.0 q))))

  found-conflict : (fs : List ListedFlow) → ((f : ListedFlow) → Among f fs → Among f (flows_in items)) → conflicts fs ≡ true → Conflict items
  unfolding conflicts
  found-conflict [] sub h = absurd (opposite {b = true} refl (sym h))
  found-conflict (f ∷ fs) sub h =
      ⊎_elim
      (λ t.
      let r = clash f fs t in
      let there : Listed f.source f.group r.0.wanted items =
      subst (λ (y : List ℕ). Listed f.source y r.0.wanted items) (sym r.2.group)
      (subst (λ (x : List ℕ). Listed x r.0.group r.0.wanted items) (sym r.2.source) (among-listed three r.0 (sub r.0 (Among.later r.1)))) in
      record { source = f.source; group = f.group; one = f.wanted; other = r.0.wanted; listed = (among-listed three f (sub f (first refl)), there); differ = r.3 })
      (λ t. found-conflict fs (λ g m. sub g (Among.later m)) t)
      (either_true _ _ h)

  no-conflict : conflicts (flows_in items) ≡ false → Conflict items → ⊥
  no-conflict n c =
      c.differ (agreeing (flows_in items) n (flow_by c.source c.group c.one) (flow_by c.source c.group c.other)
      (listed-among _ _ _ c.listed.0) (listed-among _ _ _ c.listed.1) (record { source = refl; group = refl }))

  agree-step : Step (pick (conflicts (flows_in items)) CONFLICT DONE) (Conflict items → ⊥) (λ n. (n ≡ CONFLICT) × Conflict items)
  agree-step =
      let p = pick-done (conflicts (flows_in items)) CONFLICT (λ z. omega (arith, z)) in
      record {
        done = (λ h. no-conflict (p.0 h), λ n. p.1 (is_false _ (λ t. n (found-conflict (flows_in items) (λ f m. m) t))));
        fault = λ k d. (
          λ e. let at = number-pick (conflicts (flows_in items)) CONFLICT (λ z. d (sym e ∙ z)) in
              (sym e ∙ at, found-conflict (flows_in items) (λ f m. m) (is_true _ (λ off. d (sym e ∙ p.1 off)))),
          λ x. number-pick (conflicts (flows_in items)) CONFLICT (λ z. no-conflict (p.0 z) x.1) ∙ sym x.0,
        );
      }

  -- the steps in their order
  module _ (afi : ℕ) (vrf : Vrf) where
    abbrev VrfSized : Type 0
    VrfSized = RouterSized vrf.originator × (length vrf.distinguisher ≡ 8)

    abbrev Addressed : Type 0
    Addressed = (s g w : List ℕ) → Listed s g w items → FamilySized afi s × Multicast afi g

    -- flows that are not refused
    pub record Unrefused : Type 0 where
      pub sizes : GoodSizes afi vrf items
      pub labelled : AllLabelled items
      pub tunnelled : AllTunnelled items
      pub agree : Conflict items → ⊥

    -- why they are
    pub data Refusal : ℕ → Type 0 where
      size : (GoodSizes afi vrf items → ⊥) → Refusal FLOW
      unread : {n : ℕ} → GoodSizes afi vrf items → FirstUnread items n → Refusal n
      label : GoodSizes afi vrf items → AllAttributesRead items → (AllLabelled items → ⊥) → Refusal LABEL
      tunnel : GoodSizes afi vrf items → AllLabelled items → (AllTunnelled items → ⊥) → Refusal TUNNEL
      conflict : GoodSizes afi vrf items → AllLabelled items → AllTunnelled items → Conflict items → Refusal CONFLICT

    sized : VrfSized → Addressed → GoodSizes afi vrf items
    sized p h = record { originator = p.0; distinguisher = p.1; sources = λ s g w m. (h s g w m).0; groups = λ s g w m. (h s g w m).1 }

    vrf-sized : GoodSizes afi vrf items → VrfSized
    vrf-sized g = (g.originator, g.distinguisher)

    addressed : GoodSizes afi vrf items → Addressed
    addressed g s p w m = (g.sources s p w m, g.groups s p w m)

    readable : AllLabelled items → AllAttributesRead items
    readable l s g w m = ((l s g w m).fields, (l s g w m).read)

    abbrev Reason : ℕ → Type 0
    Reason k =
        ((k ≡ FLOW) × (VrfSized → ⊥)) ⊎ (VrfSized × (((k ≡ FLOW) × (Addressed → ⊥)) ⊎ (Addressed × (FirstUnread items k ⊎ (AllAttributesRead items × (((k ≡ LABEL) × (AllLabelled items → ⊥))
        ⊎ (AllLabelled items × (((k ≡ TUNNEL) × (AllTunnelled items → ⊥)) ⊎ (AllTunnelled items × ((k ≡ CONFLICT) × Conflict items))))))))))

    reason : {k : ℕ} → Refusal k → Reason k
    reason (size n) =
        tested (eqb (vrf_fault vrf) DONE)
        (λ t. let p = (vrf-step vrf).done.0 (eqb-true _ _ t) in inr (p, inl (refl, λ h. n (sized p h))))
        (λ f. inl (refl, λ p. eqb-false _ _ f ((vrf-step vrf).done.1 p)))
    reason (unread g r) = inr (vrf-sized g, inr (addressed g, inl r))
    reason (label g r n) = inr (vrf-sized g, inr (addressed g, inr (r, inl (refl, n))))
    reason (tunnel g l n) = inr (vrf-sized g, inr (addressed g, inr (readable l, inr (l, inl (refl, n)))))
    reason (conflict g l t n) = inr (vrf-sized g, inr (addressed g, inr (readable l, inr (l, inr (t, (refl, n))))))

    pub flows-step : KnownFamily afi → GoodPrefixes afi vrf.prefixes → Step (flows_fault afi vrf (flows_in items)) Unrefused Refusal
    unfolding flows_fault attributes_fault
    flows-step family good =
        step-as
        (step-next (vrf-step vrf) (λ p₁.
        step-next (item-step (flow_fault afi vrf) FLOW (GoodAddresses afi) (λ f m. flow-step afi vrf family good p₁.0 f)) (λ p₂.
        step-next read_step (λ p₃.
        let fields = (each three (λ f. (g : AttributeFields) × (read_attribute f.wanted ≡ given g))).1 p₃ in
        step-next (item-step label_fault LABEL (λ f. Labelled f.wanted) (λ f m. label-step f (fields f m).0 (fields f m).1)) (λ p₄.
        step-next (item-step type_fault TUNNEL (λ f. NamesTunnel f.wanted) (λ f m. type-step f (fields f m).0 (fields f m).1)) (λ p₅. agree-step)))))) (
          λ x. record { sizes = sized x.0 x.1.0; labelled = x.1.1.1.0; tunnelled = x.1.1.1.1.0; agree = x.1.1.1.1.1 },
          λ u. (vrf-sized u.sizes, (addressed u.sizes, (readable u.labelled, (u.labelled, (u.tunnelled, u.agree))))),
        )
        (λ k. (
          ⊎_elim (λ r. subst Refusal (sym r.0) (size (λ g. r.1 (vrf-sized g))))
              (λ x₁. ⊎_elim (λ r. subst Refusal (sym r.0) (size (λ g. r.1 (addressed g))))
              (λ x₂. ⊎_elim (λ r. unread (sized x₁.0 x₂.0) r)
              (λ x₃. ⊎_elim (λ r. subst Refusal (sym r.0) (label (sized x₁.0 x₂.0) x₃.0 r.1))
              (λ x₄. ⊎_elim (λ r. subst Refusal (sym r.0) (tunnel (sized x₁.0 x₂.0) x₄.0 r.1))
              (λ x₅. subst Refusal (sym x₅.1.0) (conflict (sized x₁.0 x₂.0) x₄.0 x₅.0 x₅.1.1))
              x₄.1) x₃.1) x₂.1) x₁.1),
          reason,
        ))
