-- What is stated of the planner.
use Prim.Native.Nat.{ℕ, zero, suc, ◌+◌, ◌*◌, ◌≤◌, ◌<◌}
use mathlib.Core.Path.{◌≡◌, refl, sym, ap, ◌∙◌, subst}
use mathlib.Core.Bool.{Bool, true, false}
use mathlib.Core.List.{List, [], ◌++◌, append-nil}
use mathlib.Core.Logic.{◌↔◌, ◌≢◌, ⊎_elim}
use native.Mathlib.Omega.{arith}
use lib.ListN.{length, get_or, take, drop}
use lib.Dec.{leb}
use borrow.Author.Tests.{leb-true, leb-false, le-leb, lt-leb}
use Rattle.octets.specs.Numbers.{DONE}
use Rattle.octets.specs.Choice.{pick, both}
use Rattle.octets.specs.Outcome.{Outcome, given, refused, on_outcome, number_of}
use Rattle.octets.specs.Octets.{AllOctets, part, front}
use Rattle.octets.specs.Order.{same}
use Rattle.octets.specs.Rules.Answering.{Answering}
use Rattle.octets.specs.Lists.{Among}
use Rattle.octets.proofs.Choice.{tested, opposite, both_true, both_left, pick_true, pick-false}
use Rattle.octets.proofs.Outcome.{given-unless, refuses-unless, and-goes-on, and-stops, passed, stopped}
use Rattle.octets.proofs.Orders.{same-equal, same-of-equal}
use Rattle.octets.proofs.Among.{among_none, among_cases}
use Rattle.octets.proofs.AllOctets.{octets-drop, octets-part}
use Rattle.octets.proofs.Lists.{length_front, take-front, past-front, part-octet}
use Rattle.octets.proofs.Answering.{answering}
use Rattle.lists.specs.LentLists.{Item, item_field, front_number, front_field, after_field, front_item, after_item, front_items, list_count, list_items, read_list}
use Rattle.lists.proofs.Items.{read-list-given, list-items-count}
use Rattle.routes.specs.Route.{Route, nlri_of, attribute_of}
use Rattle.routes.specs.Place.{AllAcceptable}
use Rattle.routes.specs.Table.{places_of, routes_from}
use Rattle.routes.proofs.Definitions.Bounds.{read-acceptable}
use Rattle.routes.proofs.Definitions.Places.{length-places, routes-from}
use Rattle.routes.proofs.Statements.ArgumentRules.{argument_rule}
use Rattle.plan.specs.Flows.{Vrf, ListedFlow, flow_in, flows_in}
use Rattle.plan.specs.Judging.{sound_places}
use Rattle.plan.specs.Planning.{proposal}
use Rattle.plan.specs.Calls.{judged_by, judge_of, plan_outcome, planned_by, plan_of}
use Rattle.plan.specs.Rules.FlowsRule.{Listed, GoodFlows}
use Rattle.plan.specs.Rules.JudgeRule.{Proposes, Served, Accepted, JudgeLong}
use Rattle.plan.specs.Rules.PlanRule.{PlanRefusal, bad_flows, no_space, PlanDone, PlanNothing, PlanRule}
use Rattle.plan.proofs.Counts.{plan-fits}
use Rattle.plan.proofs.Items.{Threes, list-threes, among-listed, each, flows-count}
use Rattle.plan.proofs.Reading.{flows-why, why-flows, why-some, flows-good, good-flows}
use Rattle.plan.proofs.Judges.{distinct_none}
use Rattle.plan.proofs.Proposals.{sound-proposes, accepted-places}
use Rattle.plan.proofs.Plans.{Plannable, AcceptedPlan, proposal-accepted}
use Rattle.plan.proofs.Statements.JudgeRule.{flow-good, judged-places}
use Rattle.plan.proofs.Statements.OtherFlows.{pairs-have, different-others, none-proposed}
use Rattle.plan.proofs.Statements.ProposedPlaces.{routes-acceptable, places-sound, proposal-unmarked, unmarked}

-- flows of a list of octets have octets

field-octets : (t : List ℕ) → AllOctets t → AllOctets (front_field t)
unfolding front_field
field-octets t a = octets-part 2 (front_number t) a

after-octets : (t : List ℕ) → AllOctets t → AllOctets (after_field t)
unfolding after_field
after-octets t a = octets-drop (2 + front_number t) a

front-octets : (count : ℕ) (t : List ℕ) → AllOctets t → (f : ListedFlow) → Among f (flows_in (front_items 3 count t)) → AllOctets f.source × AllOctets f.group
unfolding flows_in flow_in front_items front_item after_item item_field
front-octets zero t a f m = absurd (among_none m)
front-octets (suc count) t a f m =
    ⊎_elim
    (λ e. (
      subst AllOctets (ap (λ (g : ListedFlow). g.source) (sym e)) (field-octets t a),
      subst AllOctets (ap (λ (g : ListedFlow). g.group) (sym e)) (field-octets (after_field t) (after-octets t a)),
    ))
    (λ k. front-octets count (after_field (after_field (after_field t))) (after-octets _ (after-octets _ (after-octets t a))) f k)
    (among_cases m)

flow-octets : (flows : List ℕ) (items : List Item) → read_list 3 flows ≡ given items → AllOctets flows → (f : ListedFlow) → Among f (flows_in items) → AllOctets f.source × AllOctets f.group
unfolding list_items
flow-octets flows items read a f m = front-octets (list_count flows) (drop 2 flows) (octets-drop 2 a) f (subst (λ (xs : List Item). Among f (flows_in xs)) (read-list-given 3 flows items read) m)

-- flows that are not refused can be planned for
plannable : (afi : ℕ) (vrf : Vrf) (flows : List ℕ) (Long : Type 0) (items : List Item) → AllOctets vrf.originator → AllOctets vrf.distinguisher → AllOctets flows → GoodFlows afi vrf flows Long items
    → Plannable afi vrf (flows_in items)
plannable afi vrf flows Long items originates distinguishes listed g =
    let three = list-threes flows items g.taken.read in
    let in_list : (f : ListedFlow) → Among f (flows_in items) → Listed f.source f.group f.wanted items = λ f m. among-listed three f m in
    record {
      originator = g.sizes.originator;
      distinguisher = g.sizes.distinguisher;
      addressed = λ f m. (g.sizes.sources _ _ _ (in_list f m), g.sizes.groups _ _ _ (in_list f m));
      labelled = λ f m. g.labelled _ _ _ (in_list f m);
      tunnelled = λ f m. g.tunnelled _ _ _ (in_list f m);
      agree = λ f h fm hm s.
          tested (same f.wanted h.wanted) (λ t. same-equal _ _ t)
          (λ n. absurd (g.agree (record {
            source = f.source;
            group = f.group;
            one = f.wanted;
            other = h.wanted;
            listed = (in_list f fm, subst (λ (y : List ℕ). Listed f.source y h.wanted items) (sym s.group) (subst (λ (x : List ℕ). Listed x h.group h.wanted items) (sym s.source) (in_list h hm)));
            differ = λ e. opposite (same-of-equal _ _ e) n;
          })));
      octets = (originates, distinguishes);
      each = flow-octets flows items g.taken.read listed;
    }

-- what is answered

number-planned : (o : Outcome (List Route)) (output : List ℕ) → (planned_by o output).answer.number ≡ number_of o
unfolding planned_by on_outcome number_of
number-planned (given rs) output = refl
number-planned (refused n) output = refl

none-planned : (n : ℕ) (output : List ℕ) → PlanNothing output (planned_by (refused n) output)
unfolding planned_by on_outcome
none-planned n output = record { routeless = refl; untouched = refl }

count-planned : (rs : List Route) (output : List ℕ) → (planned_by (given rs) output).answer.routes ≡ length rs
unfolding planned_by on_outcome
count-planned rs output = refl

octets-planned : (rs : List Route) (output : List ℕ) → (planned_by (given rs) output).octets ≡ front (places_of rs) output
unfolding planned_by on_outcome
octets-planned rs output = refl

module _ (afi : ℕ) (vrf : Vrf) (flows output : List ℕ) (originates : AllOctets vrf.originator) (distinguishes : AllOctets vrf.distinguisher) (listed : AllOctets flows) where
  abbrev Long : Type 0
  Long = 64 < list_count flows

  tested-many : (both (leb (list_count flows) 64) true ≡ false) ↔ Long
  tested-many = (λ h. tested (leb (list_count flows) 64) (λ t. absurd (opposite (both_true _ _ t refl) h)) (λ f. leb-false _ _ f), λ l. both_left _ _ (lt-leb _ _ l))

  abbrev outcome : Outcome (List Route)
  outcome = plan_outcome afi vrf flows output

  why-back : {n : ℕ} → PlanRefusal afi vrf flows output n → outcome ≡ refused n
  unfolding plan_outcome
  why-back (bad_flows r) = sym (and-stops _ _ _ (why-flows afi vrf flows true Long tested-many r))
  why-back (no_space items g l) =
      sym (and-goes-on _ _ _ _ (good-flows afi vrf flows true Long tested-many items g) (sym (pick-false _ _ _ (lt-leb (128 * length (flows_in items)) (length output) (omega (arith, flows-count items))))))

  why : (n : ℕ) → (outcome ≡ refused n) ↔ PlanRefusal afi vrf flows output n
  unfolding plan_outcome
  why n = (
    λ h.
        ⊎_elim
        (λ r. bad_flows (flows-why afi vrf flows true Long tested-many n r))
        (λ l.
        let q = refuses-unless _ _ _ _ l.second in
        let g = flows-good afi vrf flows true Long tested-many l.value l.first in
        let same_count : length l.value ≡ length g.0 = ap length g.2 ∙ flows-count g.0 in
        subst (PlanRefusal afi vrf flows output) (sym q.1) (no_space g.0 g.1 (let less : length output < 128 * length l.value = leb-false (128 * length l.value) (length output) q.0 in omega (arith, same_count))))
        (stopped _ _ _ h),
    why-back,
  )

  -- flows that are not refused, with room for their routes
  module _ (items : List Item) (good : GoodFlows afi vrf flows Long items) where
    rs : List Route
    rs = proposal vrf (flows_in items)

    three : Threes items
    three = list-threes flows items good.taken.read

    accepted : AcceptedPlan afi vrf (flows_in items) rs
    unfolding rs
    accepted = proposal-accepted afi vrf (flows_in items) (plannable afi vrf flows Long items originates distinguishes listed good)

    all-acceptable : AllAcceptable afi rs
    all-acceptable = routes-acceptable afi vrf rs (λ r m. read-acceptable afi r _ ((argument_rule.accepted_route afi (nlri_of r) (attribute_of r)).1 ((accepted.own r m).originates.named, accepted.labelled r m)))

    places-length : length (places_of rs) ≡ 128 * length rs
    places-length = length-places afi rs all-acceptable

    few-routes : length rs ≤ length items
    unfolding rs
    few-routes = omega (arith, plan-fits vrf (flows_in items), flows-count items)

    proposes-plan : Proposes afi (places_of rs) 0 rs
    proposes-plan =
        let e : places_of rs ≡ places_of rs ++ [] = sym (append-nil (places_of rs)) in
        subst (Proposes afi (places_of rs) 0) (ap (routes_from (length rs)) e ∙ routes-from afi rs [] all-acceptable)
        (sound-proposes afi (places_of rs) (length rs) 0 (omega (arith, places-length)) (ap (sound_places afi (length rs)) e ∙ places-sound afi rs [] all-acceptable))

    accepted-plan : Accepted afi vrf items (places_of rs)
    accepted-plan =
        record {
          routes = rs;
          proposed = proposes-plan;
          own = accepted.own;
          once = distinct_none accepted.distinct;
          served = (each three (λ f. Served afi vrf rs f.source f.group f.wanted)).0 accepted.served;
        }

    -- the judge of the plan's places
    few-octets : JudgeLong flows (places_of rs) → ⊥
    few-octets l =
        let count : length items ≡ list_count flows = ap length (read-list-given 3 flows items good.taken.read) ∙ list-items-count 3 flows in
        ⊎_elim good.taken.few (λ over. tested (leb (list_count flows) 64) (λ t. let most : list_count flows ≤ 64 = leb-true (list_count flows) 64 t in omega (arith, places-length, few-routes)) (λ f. good.taken.few (leb-false _ _ f))) l

    judge-good : GoodFlows afi vrf flows (JudgeLong flows (places_of rs)) items
    judge-good =
        record {
          taken = record { family = good.taken.family; prefixed = good.taken.prefixed; few = few-octets; read = good.taken.read };
          sizes = good.sizes;
          labelled = good.labelled;
          tunnelled = good.tunnelled;
          agree = good.agree;
        }

    judged-plan : judge_of afi vrf flows (places_of rs) ≡ record { number = 0; accepted = 1 }
    unfolding judge_of judged_by on_outcome pick
    judged-plan =
        ap judged_by (judged-places afi vrf flows (places_of rs) items judge-good)
        ∙ ap (λ (b : Bool). judged_by (given b)) ((accepted-places afi vrf items three (flow-good afi vrf flows Long items good) (places_of rs)).1 accepted-plan)

    module _ (room : 128 * length items ≤ length output) where
      planned : outcome ≡ given rs
      unfolding plan_outcome rs
      planned =
          sym (and-goes-on _ _ _ _ (good-flows afi vrf flows true Long tested-many items good) (sym (pick_true _ _ _ (le-leb (128 * length (flows_in items)) (length output) (omega (arith, flows-count items))))))

      fits-output : length (places_of rs) ≤ length output
      fits-output = omega (arith, places-length, few-routes)

      taken-front : take (128 * length rs) (front (places_of rs) output) ≡ places_of rs
      taken-front = ap (λ (k : ℕ). take k (front (places_of rs) output)) (sym places-length) ∙ take-front (places_of rs) output

      unmarked-front : (i : ℕ) → i < length rs → get_or (front (places_of rs) output) (128 * i + 127) 0 ≡ 0
      unfolding rs part
      unmarked-front i less =
          let e : 128 * i + 127 ≡ 0 + 128 * i + 127 = omega arith in
          let here : 128 * i + 127 ≡ 0 + (128 * i + 127) = omega arith in
          let p = ap (λ (k : ℕ). get_or (places_of rs) k 0) e ∙ unmarked afi (places_of rs) proposes-plan (proposal-unmarked vrf (flows_in items)) i less in
          ap (λ (k : ℕ). get_or (front (places_of rs) output) k 0) here ∙ sym (part-octet (front (places_of rs) output) 0 (128 * length rs) (128 * i + 127) (omega arith)) ∙ ap (λ (s : List ℕ). get_or s (128 * i + 127) 0) taken-front ∙ p

      plan_done : PlanDone afi vrf flows output (planned_by (given rs) output)
      unfolding planned_by on_outcome rs
      plan_done =
          record {
            items = items;
            takes = good;
            room = room;
            accepted = subst (Accepted afi vrf items) (sym taken-front) accepted-plan;
            unmarked = unmarked-front;
            none = λ e. ap (λ (xs : List Item). length (proposal vrf (flows_in xs))) e ∙ none-proposed vrf;
            few = λ a pairs d. pairs-have vrf a items pairs three d.all;
            least = λ a pairs has. pairs-have vrf a items pairs three has;
            fits = few-routes;
            size = length_front (places_of rs) output fits-output;
            past = λ i most. past-front (places_of rs) output i (omega (arith, places-length));
          }

  -- what was done, and what that was done for
  done : (us : List Route) → outcome ≡ given us → PlanDone afi vrf flows output (plan_of afi vrf flows output)
  unfolding plan_of plan_outcome
  done us e =
      let p = passed _ _ _ e in
      let g = flows-good afi vrf flows true Long tested-many p.value p.first in
      let q = given-unless _ _ _ _ p.second in
      let same_count : length p.value ≡ length g.0 = ap length g.2 ∙ flows-count g.0 in
      let most : 128 * length p.value ≤ length output = leb-true (128 * length p.value) (length output) q.0 in
      let room : 128 * length g.0 ≤ length output = omega (arith, same_count) in
      subst (λ (o : Outcome (List Route)). PlanDone afi vrf flows output (planned_by o output)) (sym (planned g.0 g.1 room)) (plan_done g.0 g.1 room)

  not_done : PlanRefusal afi vrf flows output 0 → ⊥
  not_done r = some r refl
    where
      some : {n : ℕ} → PlanRefusal afi vrf flows output n → n ≢ DONE
      some (bad_flows r) = why-some afi vrf flows true Long tested-many r
      some (no_space items g l) = λ e. omega (arith, e)

  answers : Answering (plan_of afi vrf flows output).answer.number (PlanRefusal afi vrf flows output) (PlanDone afi vrf flows output (plan_of afi vrf flows output))
      (PlanNothing output (plan_of afi vrf flows output))
  unfolding plan_of
  answers =
      answering outcome _ (PlanRefusal afi vrf flows output) (number-planned outcome output) why not_done _ _ done (λ d. (_, planned d.items d.takes d.room))
      (λ n e. subst (λ (o : Outcome (List Route)). PlanNothing output (planned_by o output)) (sym e) (none-planned n output))

  judges : (plan_of afi vrf flows output).answer.number ≡ 0
      → judge_of afi vrf flows (take (128 * (plan_of afi vrf flows output).answer.routes) (plan_of afi vrf flows output).octets) ≡ record { number = 0; accepted = 1 }
  unfolding plan_of planned_by on_outcome
  judges e =
      let d = answers.done.0 e in
      ap (λ (o : Outcome (List Route)). judge_of afi vrf flows (take (128 * (planned_by o output).answer.routes) (planned_by o output).octets)) (planned d.items d.takes d.room)
      ∙ ap (judge_of afi vrf flows) (taken-front d.items d.takes d.room) ∙ judged-plan d.items d.takes

pub plan_rule : PlanRule
plan_rule = record { answers = answers; judged = judges; others = different-others }
