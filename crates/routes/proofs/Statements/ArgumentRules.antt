-- How arguments are refused, and what is accepted (specs/Rules/ArgumentRules.antt).
use Prim.Native.Nat.{ℕ, ◌≤◌}
use mathlib.Core.Path.{◌≡◌, refl, sym, ap, subst, ◌∙◌}
use mathlib.Core.Logic.{◌↔◌, ⊎_elim}
use mathlib.Core.List.{List}
use lib.ListN.{length}
use borrow.Author.Tests.{eqb-true, eqb-false, eq-eqb, ne_eqb, ltb-true, ltb-false, lt-ltb, le-ltb}
use Rattle.octets.specs.Numbers.{LABEL, KIND, FLOW, SPACE}
use Rattle.octets.specs.Outcome.{given, refused}
use Rattle.octets.proofs.Choice.{opposite, both-true-left, both-true-right, pick_true, pick-false, is_false, both_true}
use Rattle.octets.proofs.Outcome.{never, given-same, given-otherwise, given-unless, passed, outcome, stopped, refuses-unless, refuses-where, and-goes-on, and-stops}
use Rattle.nlri.specs.Fields.{Fields}
use Rattle.nlri.specs.Reading.{read_nlri, read_of_type}
use Rattle.tunnel.specs.Attribute.{AttributeFields, label_of}
use Rattle.routes.specs.Route.{route}
use Rattle.routes.specs.Query.{Query, Flow}
use Rattle.routes.specs.Arguments.{read_s_pmsi, read_labelled, read_route, read_flow, read_match}
use Rattle.routes.specs.Rules.ArgumentRules.{KnownFamily, SPmsi, Labelled, GoodFlow, TypeRefusal, NlriRefusal, unread_nlri, other_kind, RouteRefusal, bad_nlri, unread_attribute, no_label, FlowRefusal, bad_flow_prefixes, bad_flow, no_space, ArgumentRule}
use Rattle.routes.proofs.Definitions.Matching.Flows.{flow-asked, flow-given, flow-refused, flow-prefixes}
use Rattle.groups.specs.Rules.ClassRule.{GoodPrefixes}
use Rattle.groups.proofs.Prefixes.{prefixes-either}

-- an NLRI of one route type
module _ (type afi : ℕ) (nlri : List ℕ) where
  type-refused : (n : ℕ) → read_of_type type afi nlri ≡ refused n → TypeRefusal type afi nlri n
  type-refused n e =
      ⊎_elim (λ first. unread_nlri first)
      (λ later.
      let p = refuses-unless KIND n _ _ later.second in
      subst (TypeRefusal type afi nlri) (sym p.1) (other_kind later.value later.first (eqb-false _ _ p.0)))
      (stopped _ _ _ e)

  type-refuses : {n : ℕ} → TypeRefusal type afi nlri n → read_of_type type afi nlri ≡ refused n
  type-refuses (unread_nlri e) = sym (and-stops _ _ _ e)
  type-refuses (other_kind f e k) = sym (and-goes-on _ _ _ _ e (sym (pick-false _ _ _ (ne_eqb f.type type k))))

  type-passed : (f : Fields) → read_of_type type afi nlri ≡ given f → (read_nlri afi nlri ≡ given f) × (f.type ≡ type)
  type-passed f e =
      let p = passed _ _ _ e in
      let q = given-unless _ _ _ _ p.second in
      (p.first ∙ q.1, ap (λ (g : Fields). g.type) (sym (given-same q.1)) ∙ eqb-true _ _ q.0)

  type-passes : (f : Fields) → (read_nlri afi nlri ≡ given f) × (f.type ≡ type) → read_of_type type afi nlri ≡ given f
  type-passes f p = sym (and-goes-on _ _ _ _ p.0 (sym (pick_true _ _ _ (eq-eqb f.type type p.1))))

  pub type-exactly : (f : Fields) → (read_of_type type afi nlri ≡ given f) ↔ ((read_nlri afi nlri ≡ given f) × (f.type ≡ type))
  type-exactly f = (type-passed f, type-passes f)

  pub type-refused-exactly : (n : ℕ) → (read_of_type type afi nlri ≡ refused n) ↔ TypeRefusal type afi nlri n
  type-refused-exactly n = (type-refused n, type-refuses)

module _ (afi : ℕ) (nlri : List ℕ) where
  nlri-exactly : (f : Fields) → (read_s_pmsi afi nlri ≡ given f) ↔ ((read_nlri afi nlri ≡ given f) × (f.type ≡ 3))
  unfolding read_s_pmsi
  nlri-exactly f = type-exactly 3 afi nlri f

  nlri-refused : (n : ℕ) → (read_s_pmsi afi nlri ≡ refused n) ↔ NlriRefusal afi nlri n
  unfolding read_s_pmsi
  nlri-refused n = type-refused-exactly 3 afi nlri n

  pub nlri-accepted : (f : Fields) → read_s_pmsi afi nlri ≡ given f → SPmsi afi nlri
  nlri-accepted f e = let p = (nlri-exactly f).0 e in record { fields = f; read = p.0; kind = p.1 }

  pub nlri-accepts : (s : SPmsi afi nlri) → read_s_pmsi afi nlri ≡ given s.fields
  nlri-accepts s = (nlri-exactly s.fields).1 (s.read, s.kind)

module _ (attribute : List ℕ) where
  pub labelled : (f : AttributeFields) → read_labelled attribute ≡ given f → Labelled attribute
  unfolding read_labelled label_of
  labelled f e =
      let p = passed _ _ _ e in
      let q = given-otherwise _ _ _ _ p.second in
      record { fields = p.value; read = p.first; label = λ bier zero. opposite (both_true _ _ (eq-eqb p.value.tunnel_type 11 bier) (eq-eqb (label_of p.value) 0 zero)) q.0 }

  pub takes-labelled : (l : Labelled attribute) → read_labelled attribute ≡ given l.fields
  unfolding read_labelled label_of
  takes-labelled l =
      sym (and-goes-on _ _ _ _ l.read
      (sym (pick-false _ _ _ (is_false _ (λ t. l.label (eqb-true _ _ (both-true-left _ _ t)) (eqb-true _ _ (both-true-right _ _ t)))))))

module _ (afi : ℕ) (nlri attribute : List ℕ) where
  route-refused : (n : ℕ) → read_route afi nlri attribute ≡ refused n → RouteRefusal afi nlri attribute n
  unfolding read_route read_labelled label_of
  route-refused n e =
      ⊎_elim (λ first. bad_nlri ((nlri-refused afi nlri n).0 first))
      (λ later.
      let s = nlri-accepted afi nlri later.value later.first in
      ⊎_elim
      (λ second.
      ⊎_elim (λ unread. unread_attribute s unread)
      (λ read.
      let p = refuses-where LABEL n _ _ read.second in
      subst (RouteRefusal afi nlri attribute) (sym p.1)
      (no_label read.value s read.first (eqb-true _ _ (both-true-left _ _ p.0)) (eqb-true _ _ (both-true-right _ _ p.0))))
      (stopped _ _ _ second))
      (λ none. absurd (never refl none.second))
      (stopped _ _ _ later.second))
      (stopped _ _ _ e)

  route-refuses : {n : ℕ} → RouteRefusal afi nlri attribute n → read_route afi nlri attribute ≡ refused n
  unfolding read_route read_labelled label_of
  route-refuses (bad_nlri r) = sym (and-stops _ _ _ ((nlri-refused afi nlri _).1 r))
  route-refuses (unread_attribute s e) = sym (and-goes-on _ _ _ _ (nlri-accepts afi nlri s) (and-stops _ _ _ (sym (and-stops _ _ _ e))))
  route-refuses (no_label f s e bier zero) =
      sym (and-goes-on _ _ _ _ (nlri-accepts afi nlri s)
      (and-stops _ _ _ (sym (and-goes-on _ _ _ _ e (sym (pick_true _ _ _ (both_true _ _ (eq-eqb f.tunnel_type 11 bier) (eq-eqb (label_of f) 0 zero))))))))

  route-passed : read_route afi nlri attribute ≡ given (route nlri attribute) → SPmsi afi nlri × Labelled attribute
  unfolding read_route
  route-passed e =
      let p = passed _ _ _ e in
      let q = passed _ _ _ p.second in
      (nlri-accepted afi nlri p.value p.first, labelled attribute q.value q.first)

  route-passes : SPmsi afi nlri × Labelled attribute → read_route afi nlri attribute ≡ given (route nlri attribute)
  unfolding read_route
  route-passes a = sym (and-goes-on _ _ _ _ (nlri-accepts afi nlri a.0) (and-goes-on _ _ _ _ (takes-labelled attribute a.1) refl))

module _ (afi : ℕ) (flow : Flow) (output : List ℕ) where
  flow-refusal : (n : ℕ) → KnownFamily afi → read_match afi flow output ≡ refused n → FlowRefusal afi flow output n
  unfolding read_match
  flow-refusal n bits e =
      ⊎_elim
      (λ first.
      ⊎_elim (λ r. bad_flow_prefixes r)
      (λ f. subst (FlowRefusal afi flow output) (sym f.1) (bad_flow f.0 (λ good. never (flow-given afi flow good).1 first)))
      (flow-refused afi flow n bits first))
      (λ later.
      let p = refuses-where SPACE n _ _ later.second in
      subst (FlowRefusal afi flow output) (sym p.1) (no_space (flow-asked afi flow later.value later.first).good (ltb-true _ _ p.0)))
      (stopped _ _ _ e)

  bad-flow : KnownFamily afi → GoodPrefixes afi flow.prefixes → (GoodFlow afi flow → ⊥) → read_flow afi flow ≡ refused FLOW
  bad-flow bits prefixed bad =
      ⊎_elim (λ p. absurd (bad (flow-asked afi flow p.0 p.1).good))
      (λ p. p.1 ∙ ap refused (⊎_elim (λ r. absurd (prefixes-either afi bits flow.prefixes prefixed r)) (λ f. f.1) (flow-refused afi flow p.0 bits p.1)))
      (outcome (read_flow afi flow))

  flow-refuses : {n : ℕ} → KnownFamily afi → FlowRefusal afi flow output n → read_match afi flow output ≡ refused n
  unfolding read_match
  flow-refuses bits (bad_flow_prefixes r) = sym (and-stops _ _ _ (flow-prefixes afi flow _ bits r))
  flow-refuses bits (bad_flow prefixed bad) = sym (and-stops _ _ _ (bad-flow bits prefixed bad))
  flow-refuses bits (no_space good less) = sym (and-goes-on _ _ _ _ (flow-given afi flow good).1 (sym (pick_true _ _ _ (lt-ltb (length output) 124 less))))

  pub flow-passed : (q : Query) → read_match afi flow output ≡ given q → (read_flow afi flow ≡ given q) × (124 ≤ length output)
  unfolding read_match
  flow-passed q e =
      let p = passed _ _ _ e in
      let g = given-otherwise _ _ _ _ p.second in
      (p.first ∙ g.1, ltb-false _ _ g.0)

  pub flow-passes : (q : Query) → read_flow afi flow ≡ given q → 124 ≤ length output → read_match afi flow output ≡ given q
  unfolding read_match
  flow-passes q e enough = sym (and-goes-on _ _ _ _ e (sym (pick-false _ _ _ (le-ltb (length output) 124 enough))))

  flow-accepted : (q : Query) → read_match afi flow output ≡ given q → GoodFlow afi flow × (124 ≤ length output)
  flow-accepted q e = let p = flow-passed q e in ((flow-asked afi flow q p.0).good, p.1)

  flow-taken : GoodFlow afi flow × (124 ≤ length output) → (q : Query) × (read_match afi flow output ≡ given q)
  flow-taken h = let f = flow-given afi flow h.0 in (f.0, flow-passes f.0 f.1 h.1)

pub argument_rule : ArgumentRule
argument_rule =
    record {
      refused_nlri = λ afi nlri n. nlri-refused afi nlri n;
      accepted_nlri = λ afi nlri f. nlri-exactly afi nlri f;
      refused_route = λ afi nlri attribute n. (route-refused afi nlri attribute n, route-refuses afi nlri attribute);
      accepted_route = λ afi nlri attribute. (route-passed afi nlri attribute, route-passes afi nlri attribute);
      refused_flow = λ afi flow output n bits. (flow-refusal afi flow output n bits, flow-refuses afi flow output bits);
      accepted_flow = λ afi flow output. (λ p. flow-accepted afi flow output p.0 p.1, flow-taken afi flow output);
    }
