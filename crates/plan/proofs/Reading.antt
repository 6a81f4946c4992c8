-- The flows that are lent, read: refused for a reason, or good.
use Prim.Native.Nat.{ℕ}
use mathlib.Core.Path.{◌≡◌, refl, sym, ap, ◌∙◌, subst}
use mathlib.Core.Bool.{Bool, true, false}
use mathlib.Core.List.{List}
use mathlib.Core.Logic.{◌↔◌, ◌≢◌, ⊎_elim}
use native.Mathlib.Omega.{arith}
use lib.Dec.{leb, eqb}
use borrow.Author.Tests.{eqb-true, eqb-false, eq-eqb, ne_eqb}
use Rattle.octets.specs.Numbers.{DONE}
use Rattle.octets.specs.Choice.{pick, both}
use Rattle.octets.specs.Outcome.{Outcome, given, refused}
use Rattle.octets.proofs.Choice.{opposite, is_true, picked, pick_true, pick-false}
use Rattle.octets.proofs.Outcome.{given-same, given-unless, refused-same, refuses-unless, and-goes-on, and-stops, passed, stopped}
use Rattle.lists.specs.LentLists.{Item, list_count}
use Rattle.lists.proofs.Items.{read-list-refused}
use Rattle.groups.specs.Rules.ClassRule.{PrefixRefusal, too_many, bad_prefix, UnderRefusal, other_family, refused_prefixes}
use Rattle.groups.proofs.Theorems.{class_rule}
use Rattle.plan.specs.Flows.{Vrf, ListedFlow, flows_in}
use Rattle.plan.specs.Refusing.{flows_fault, read_flows}
use Rattle.plan.specs.Rules.FlowsRule.{ListTaken, GoodFlows, FlowsRefusal, bad_prefixes, too_long, bad_size, unread, no_label, no_tunnel, conflict}
use Rattle.plan.proofs.Items.{Threes, list-threes}
use Rattle.plan.proofs.Refused.{Unrefused, Refusal, unread-some, flows-step}
use Rattle.plan.proofs.OrderedRefusals.{Step}

-- no refusal of prefixes is DONE
pub under_some : {afi n : ℕ} {p : List ℕ} → UnderRefusal afi p n → n ≢ DONE
under_some (other_family one two) e = omega (arith, e)
under_some (refused_prefixes family (too_many h)) e = omega (arith, e)
under_some (refused_prefixes family (PrefixRefusal.ends_short h r)) e = omega (arith, e)
under_some (refused_prefixes family (bad_prefix h items r prefix m b)) e = omega (arith, e)

module _ (afi : ℕ) (vrf : Vrf) (flows : List ℕ) (within : Bool) (TooLong : Type 0) (long : (both (leb (list_count flows) 64) within ≡ false) ↔ TooLong) where
  not-long : both (leb (list_count flows) 64) within ≡ true → TooLong → ⊥
  not-long t l = opposite t (long.1 l)

  is-few : (TooLong → ⊥) → both (leb (list_count flows) 64) within ≡ true
  is-few n = is_true _ (λ off. n (long.0 off))

  -- flows that are taken as a list, by their faults
  module _ (items : List Item) (taken : ListTaken afi vrf flows TooLong items) where
    three : Threes items
    three = list-threes flows items taken.read

    step : Step (flows_fault afi vrf (flows_in items)) (Unrefused items three afi vrf) (Refusal items three afi vrf)
    step = flows-step items three afi vrf taken.family taken.prefixed

    taken-read : (o : Outcome (List ListedFlow)) → pick (eqb (flows_fault afi vrf (flows_in items)) DONE) (given (flows_in items)) (refused (flows_fault afi vrf (flows_in items))) ≡ o → read_flows afi vrf flows within ≡ o
    unfolding read_flows
    taken-read o e =
        sym (and-goes-on _ _ _ _ ((class_rule.prefixes_given afi vrf.prefixes).1 (taken.family, taken.prefixed)).1
        (sym (pick_true _ _ _ (is-few taken.few) ∙ sym (and-goes-on _ _ _ _ taken.read refl)))) ∙ e

    refused-taken : (n : ℕ) → n ≢ DONE → Refusal items three afi vrf n → read_flows afi vrf flows within ≡ refused n
    refused-taken n d r = let e = (step.fault n d).1 r in taken-read _ (pick-false _ _ _ (ne_eqb _ _ (λ z. d (sym e ∙ z))) ∙ ap refused e)

    why-taken : (n : ℕ) → Refusal items three afi vrf n → FlowsRefusal afi vrf flows TooLong n
    why-taken n (Refusal.size r) = bad_size items taken r
    why-taken n (Refusal.unread g r) = unread items taken g r
    why-taken n (Refusal.label g r l) = no_label items taken g r l
    why-taken n (Refusal.tunnel g l t) = no_tunnel items taken g l t
    why-taken n (Refusal.conflict g l t c) = conflict items taken g l t c

    good-taken : Unrefused items three afi vrf → GoodFlows afi vrf flows TooLong items
    good-taken u = record { taken = taken; sizes = u.sizes; labelled = u.labelled; tunnelled = u.tunnelled; agree = u.agree }

    taken-good : GoodFlows afi vrf flows TooLong items → read_flows afi vrf flows within ≡ given (flows_in items)
    taken-good g =
        let u : Unrefused items three afi vrf = record { sizes = g.sizes; labelled = g.labelled; tunnelled = g.tunnelled; agree = g.agree } in
        taken-read _ (pick_true _ _ _ (eq-eqb _ _ (step.done.1 u)))

  pub flows-why : (n : ℕ) → read_flows afi vrf flows within ≡ refused n → FlowsRefusal afi vrf flows TooLong n
  unfolding read_flows
  flows-why n h =
      ⊎_elim
      (λ r. bad_prefixes ((class_rule.prefixes_refused afi vrf.prefixes n).0 r))
      (λ p.
      let good = (class_rule.prefixes_given afi vrf.prefixes).0 (p.value, p.first) in
      ⊎_elim
      (λ a.
      ⊎_elim
      (λ r. let short = read-list-refused 3 flows n r in subst (FlowsRefusal afi vrf flows TooLong) (sym short) (FlowsRefusal.ends_short good.0 good.1 (not-long a.0) (r ∙ ap refused short)))
      (λ l.
      let q = refuses-unless _ _ _ _ l.second in
      let taken : ListTaken afi vrf flows TooLong l.value = record { family = good.0; prefixed = good.1; few = not-long a.0; read = l.first } in
      why-taken l.value taken n (((step l.value taken).fault n (λ z. eqb-false _ _ q.0 (sym q.1 ∙ z))).0 (sym q.1)))
      (stopped _ _ _ a.1))
      (λ a. subst (FlowsRefusal afi vrf flows TooLong) (refused-same a.1) (too_long good.0 good.1 (long.0 a.0)))
      (picked _ _ _ _ p.second))
      (stopped _ _ _ h)

  pub why-flows : {n : ℕ} → FlowsRefusal afi vrf flows TooLong n → read_flows afi vrf flows within ≡ refused n
  unfolding read_flows
  why-flows (bad_prefixes r) = sym (and-stops _ _ _ ((class_rule.prefixes_refused afi vrf.prefixes _).1 r))
  why-flows (too_long family good l) = sym (and-goes-on _ _ _ _ ((class_rule.prefixes_given afi vrf.prefixes).1 (family, good)).1 (sym (pick-false _ _ _ (long.1 l))))
  why-flows (FlowsRefusal.ends_short family good n e) =
      sym (and-goes-on _ _ _ _ ((class_rule.prefixes_given afi vrf.prefixes).1 (family, good)).1 (sym (pick_true _ _ _ (is-few n) ∙ sym (and-stops _ _ _ e))))
  why-flows (bad_size items t n) = refused-taken items t _ (λ z. omega (arith, z)) (Refusal.size n)
  why-flows (unread items t g r) = refused-taken items t _ (unread-some r) (Refusal.unread g r)
  why-flows (no_label items t g r n) = refused-taken items t _ (λ z. omega (arith, z)) (Refusal.label g r n)
  why-flows (no_tunnel items t g l n) = refused-taken items t _ (λ z. omega (arith, z)) (Refusal.tunnel g l n)
  why-flows (conflict items t g l n c) = refused-taken items t _ (λ z. omega (arith, z)) (Refusal.conflict g l n c)

  pub why-some : {n : ℕ} → FlowsRefusal afi vrf flows TooLong n → n ≢ DONE
  why-some (bad_prefixes r) = under_some r
  why-some (too_long family good l) = λ e. omega (arith, e)
  why-some (FlowsRefusal.ends_short family good n r) = λ e. omega (arith, e)
  why-some (bad_size items t n) = λ e. omega (arith, e)
  why-some (unread items t g r) = unread-some r
  why-some (no_label items t g r n) = λ e. omega (arith, e)
  why-some (no_tunnel items t g l n) = λ e. omega (arith, e)
  why-some (conflict items t g l n c) = λ e. omega (arith, e)

  pub flows-good : (fs : List ListedFlow) → read_flows afi vrf flows within ≡ given fs → (items : List Item) × GoodFlows afi vrf flows TooLong items × (fs ≡ flows_in items)
  unfolding read_flows
  flows-good fs h =
      let p = passed _ _ _ h in
      let good = (class_rule.prefixes_given afi vrf.prefixes).0 (p.value, p.first) in
      let a = given-unless _ _ _ _ p.second in
      let l = passed _ _ _ a.1 in
      let q = given-unless _ _ _ _ l.second in
      let taken : ListTaken afi vrf flows TooLong l.value = record { family = good.0; prefixed = good.1; few = not-long a.0; read = l.first } in
      (l.value, good-taken l.value taken ((step l.value taken).done.0 (eqb-true _ _ q.0)), sym (given-same q.1))

  pub good-flows : (items : List Item) → GoodFlows afi vrf flows TooLong items → read_flows afi vrf flows within ≡ given (flows_in items)
  good-flows items g = taken-good items g.taken g

-- LONG by its test alone
pub long-is : {A : Type 0} → A ↔ A
long-is = (λ a. a, λ a. a)
