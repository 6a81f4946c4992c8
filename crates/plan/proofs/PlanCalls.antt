-- The planner's call: the refusals, then the places.
use Prim.Native.Nat.{ℕ, ◌*◌, ◌/◌, ◌≤◌, ◌<◌}
use mathlib.Core.Path.{◌≡◌, refl, sym, ◌∙◌, ap, subst}
use mathlib.Core.Bool.{true}
use mathlib.Core.List.{List, []}
use mathlib.Core.Logic.{⊎_elim}
use native.Mathlib.Omega.{arith}
use lib.ListN.{length}
use borrow.Author.Tests.{le-leb, lt-leb}
use Rattle.std.proofs.Common.{Result, Ok, Err}
use Rattle.std.specs.Result.{IsErrAnd}
use Rattle.octets.specs.Numbers.{DONE, SPACE}
use Rattle.octets.specs.declared.refusal.Refusal.{Refusal}
use Rattle.octets.specs.Refusals.{refusal_number}
use Rattle.octets.specs.Outcome.{Outcome, given, refused, on_outcome, number_of}
use Rattle.octets.specs.Octets.{front}
use Rattle.octets.specs.Outputs.{Put, Leaves}
use Rattle.octets.proofs.Choice.{pick_true, pick-false}
use Rattle.octets.proofs.Outcome.{and-goes-on, and-stops}
use Rattle.octets.proofs.Lists.{front-is-placed, empty-list}
use Rattle.lists.specs.LentLists.{Item, list_count, list_items}
use Rattle.lists.proofs.Items.{list-items-count}
use Rattle.nlri.specs.Groups.{Multicast}
use Rattle.routes.specs.Route.{Route}
use Rattle.routes.specs.Table.{places_of}
use Rattle.routes.specs.Rules.ArgumentRules.{FamilySized}
use Rattle.routes.proofs.Definitions.Bounds.{attribute-size}
use Rattle.plan.specs.declared.Planned.{Planned}
use Rattle.plan.specs.Flows.{Vrf, ListedFlow, flows_in}
use Rattle.plan.specs.Commonest.{commonest}
use Rattle.plan.specs.Planning.{proposal}
use Rattle.plan.specs.Refusing.{read_flows}
use Rattle.plan.specs.Calls.{plan_outcome, refused_plan, done_plan, planned_by, plan_of}
use Rattle.plan.specs.Rules.FlowsRule.{GoodFlows}
use Rattle.plan.specs.Inner.{planned_in, VrfSized, AllSized, all_places, RoomFor}
use Rattle.plan.proofs.Counts.{plan-fits}
use Rattle.plan.proofs.Items.{list-threes, among-listed, flows-count}
use Rattle.plan.proofs.OwnPlaces.{all-routes, proposal-places}
use Rattle.plan.proofs.Called.{Long, read-few, read-refused, read-flows, read-good}

-- what is left where the outcome is told

plan-by : (afi : ℕ) (vrf : Vrf) (flows output : List ℕ) (o : Outcome (List Route)) → plan_outcome afi vrf flows output ≡ o → (r : Planned) (after : List ℕ) → Leaves (planned_by o output) r after → Leaves (plan_of afi vrf flows output) r after
unfolding plan_of
plan-by afi vrf flows output o e r after l = subst (λ (p : Outcome (List Route)). Leaves (planned_by p output) r after) (sym e) l

refused-left : (n : ℕ) (output : List ℕ) (r : Planned) → r ≡ refused_plan n → Leaves (planned_by (refused n) output) r output
unfolding planned_by on_outcome
refused-left n output r e = (e, refl)

given-left : (rs : List Route) (output : List ℕ) (r : Planned) (after : List ℕ) → r ≡ done_plan (length rs) → after ≡ front (places_of rs) output → Leaves (planned_by (given rs) output) r after
unfolding planned_by on_outcome
given-left rs output r after e f = (e, f)

none-front : (output : List ℕ) → output ≡ front (places_of []) output
unfolding front places_of
none-front output = refl

-- a refusal that is passed on
pub passed_on-plan : (result : Result ℕ Refusal) (r : Refusal) → IsErrAnd result (λ x. x ≡ r) → planned_in result ≡ refused_plan (refusal_number r)
passed_on-plan (Ok routes) r h = absurd h
passed_on-plan (Err x) r h = ap (λ (y : Refusal). refused_plan (refusal_number y)) h

pub refusal-told : (n : ℕ) (o : Outcome (List ListedFlow)) → refused n ≡ o → n ≡ number_of o
unfolding number_of
refusal-told n o e = ap number_of e

-- sizes of flows that are not refused

family-most : {afi : ℕ} (x : List ℕ) → FamilySized afi x → length x ≤ 16
family-most x s = ⊎_elim (λ a. omega (arith, a.1)) (λ a. omega (arith, a.1)) s

group-most : {afi : ℕ} (x : List ℕ) → Multicast afi x → length x ≤ 16
group-most x (Multicast.ipv4 l low high) = omega arith
group-most x (Multicast.ipv6 l h) = omega arith

sizes-known : (afi : ℕ) (vrf : Vrf) (flows : List ℕ) (Long : Type 0) (items : List Item) → GoodFlows afi vrf flows Long items → VrfSized vrf.distinguisher vrf.originator × AllSized (flows_in items)
sizes-known afi vrf flows Long items g = (
  record { distinguished = g.sizes.distinguisher; originated = ⊎_elim (λ a. omega arith) (λ a. omega arith) g.sizes.originator },
  λ f m.
      let l = among-listed (list-threes flows items g.taken.read) f m in
      let w = g.labelled _ _ _ l in
      record { sourced = family-most f.source (g.sizes.sources _ _ _ l); grouped = group-most f.group (g.sizes.groups _ _ _ l); attributed = attribute-size f.wanted w.fields w.read },
)

module _ (afi : ℕ) (vrf : Vrf) (flows output : List ℕ) (fault : ℕ) (told : fault ≡ number_of (read_flows afi vrf flows true)) where
  pub plan-refused : (fault ≡ DONE → ⊥) → (r : Planned) → r ≡ refused_plan fault → Leaves (plan_of afi vrf flows output) r output
  unfolding plan_outcome
  plan-refused h r e = plan-by afi vrf flows output (refused fault) (sym (and-stops _ _ _ (read-refused afi vrf flows true fault told h))) r output (refused-left fault output r e)

  module _ (none : fault ≡ DONE) (count : ℕ) (counted : count ≡ list_count flows) where
    items-count : length (flows_in (list_items 3 flows)) ≡ count
    items-count = flows-count (list_items 3 flows) ∙ list-items-count 3 flows ∙ sym counted

    pub plan-space : length output < 128 * count → (r : Planned) → r ≡ refused_plan SPACE → Leaves (plan_of afi vrf flows output) r output
    unfolding plan_outcome
    plan-space h r e =
        plan-by afi vrf flows output (refused SPACE)
        (sym (and-goes-on _ _ _ _ (read-flows afi vrf flows true fault told none) (sym (pick-false _ _ _ (lt-leb (128 * length (flows_in (list_items 3 flows))) (length output) (omega (arith, items-count)))))))
        r output (refused-left SPACE output r e)

    module _ (room : 128 * count ≤ length output) where
      rs : List Route
      rs = proposal vrf (flows_in (list_items 3 flows))

      planned : plan_outcome afi vrf flows output ≡ given rs
      unfolding plan_outcome rs
      planned =
          sym (and-goes-on _ _ _ _ (read-flows afi vrf flows true fault told none) (sym (pick_true _ _ _ (le-leb (128 * length (flows_in (list_items 3 flows))) (length output) (omega (arith, items-count))))))

      sizes : VrfSized vrf.distinguisher vrf.originator × AllSized (flows_in (list_items 3 flows))
      sizes = sizes-known afi vrf flows (Long afi vrf flows true fault told) (list_items 3 flows) (read-good afi vrf flows true fault told none)

      few : length rs ≤ count
      unfolding rs
      few = omega (arith, plan-fits vrf (flows_in (list_items 3 flows)), items-count)

      places-length : length (places_of rs) ≡ 128 * length rs
      unfolding rs
      places-length = proposal-places vrf (flows_in (list_items 3 flows)) sizes.0 sizes.1

      pub plan-none : count ≡ 0 → Leaves (plan_of afi vrf flows output) (done_plan 0) output
      unfolding front
      plan-none z =
          let nothing : rs ≡ [] = empty-list rs (omega (arith, few)) in
          plan-by afi vrf flows output (given []) (planned ∙ ap given nothing) (done_plan 0) output (given-left [] output (done_plan 0) output refl (none-front output))

      module _ (some : count ≡ 0 → ⊥) where
        are : all_places vrf.distinguisher vrf.originator (commonest (flows_in (list_items 3 flows))) (flows_in (list_items 3 flows)) ≡ places_of rs
        unfolding rs
        are = all-routes vrf (flows_in (list_items 3 flows)) (λ z. some (sym items-count ∙ z))

        module _ (fs : List ListedFlow) (read : fs ≡ flows_in (list_items 3 flows)) where
          pub plan-few : length fs ≤ 64
          plan-few = omega (arith, ap length read, items-count, counted, read-few afi vrf flows true fault told none)

          pub plan-sizes : VrfSized vrf.distinguisher vrf.originator × AllSized fs
          plan-sizes = rw read sizes

          pub plan-room : RoomFor 0 (all_places vrf.distinguisher vrf.originator (commonest fs) fs) output
          plan-room = rw (read, are) (omega (arith, places-length, few))

          module _ (end : ℕ) (after : List ℕ) (put : Put 0 (all_places vrf.distinguisher vrf.originator (commonest fs) fs) output end after) where
            all : Put 0 (places_of rs) output end after
            all = rw (read, are) at put

            end_is : end ≡ 128 * length rs
            end_is = omega (arith, all.0, places-length)

            pub plan-small : end / 128 < 4294967296
            plan-small = omega (arith, end_is, few, read-few afi vrf flows true fault told none, counted)

            pub plan-done : Leaves (plan_of afi vrf flows output) (done_plan (end / 128)) after
            plan-done =
                let routes : end / 128 ≡ length rs = omega (arith, end_is) in
                plan-by afi vrf flows output (given rs) planned (done_plan (end / 128)) after
                (given-left rs output (done_plan (end / 128)) after (ap done_plan routes) (all.1 ∙ sym (front-is-placed (places_of rs) output)))
