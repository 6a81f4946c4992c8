-- The flows that want another attribute than the commonest, and how many routes are proposed.
use Prim.Native.Nat.{ℕ, ◌+◌, ◌≤◌}
use mathlib.Core.Path.{◌≡◌, refl, sym, ap, ap₂, subst}
use mathlib.Core.List.{List, [], ◌∷◌}
use mathlib.Core.Logic.{⊎_elim}
use native.Mathlib.Omega.{arith}
use lib.ListN.{length, get_or}
use Rattle.octets.specs.Outcome.{given}
use Rattle.octets.specs.Order.{same}
use Rattle.octets.specs.Lists.{Among, first, later}
use Rattle.octets.proofs.Choice.{tested}
use Rattle.octets.proofs.Orders.{same-equal}
use Rattle.octets.proofs.Among.{among_none, among_cases}
use Rattle.lists.specs.LentLists.{Item, item_field, read_list}
use Rattle.plan.specs.Flows.{Vrf, ListedFlow, flow_in, flows_in, different}
use Rattle.plan.specs.Commonest.{others}
use Rattle.plan.specs.Planning.{proposal}
use Rattle.plan.specs.Rules.PlanRule.{HasOthers, EachOnce, DifferentOthers}
use Rattle.plan.proofs.Counts.{SameFlow, Apart, among-different, different-among, different-apart, others-among, among-others, plan-least}
use Rattle.plan.proofs.Items.{Threes, list-threes, flow_by, among-listed, listed-among, flows-count}

-- how many routes

item-among : {x : Item} {xs : List Item} → Among x xs → Among (flow_in x) (flows_in xs)
unfolding flows_in
item-among (first e) = first (ap flow_in e)
item-among (later m) = later (item-among m)

pub pairs-have : (vrf : Vrf) (attribute : List ℕ) (items pairs : List Item) → Threes items → HasOthers attribute items pairs → length (proposal vrf (flows_in items)) ≤ 1 + length pairs
unfolding flow_in item_field
pairs-have vrf attribute items pairs three has =
    let h =
    plan-least vrf (flows_in items) (flows_in pairs) attribute
    (λ f m d. (flow_in (f.source ∷ (f.group ∷ [])), item-among (has f.source f.group f.wanted (among-listed three f m) d), refl, refl)) in
    omega (arith, flows-count pairs)

-- the flows that want another attribute, listed each once

pair_of : ListedFlow → Item
pair_of f = f.source ∷ (f.group ∷ [])

pairs_of : List ListedFlow → List Item
pairs_of [] = []
pairs_of (f ∷ fs) = pair_of f ∷ pairs_of fs

pair-among : {f : ListedFlow} {fs : List ListedFlow} → Among f fs → Among (pair_of f) (pairs_of fs)
unfolding pairs_of
pair-among (first e) = first (ap pair_of e)
pair-among (later m) = later (pair-among m)

among-pair : (fs : List ListedFlow) {x : Item} → Among x (pairs_of fs) → (f : ListedFlow) × Among f fs × (x ≡ pair_of f)
unfolding pairs_of
among-pair [] m = absurd (among_none m)
among-pair (f ∷ fs) {x} m =
    ⊎_elim {C = (g : ListedFlow) × Among g (f ∷ fs) × (x ≡ pair_of g)} (λ e. (f, first refl, e)) (λ k. let r = among-pair fs k in (r.0, later r.1, r.2)) (among_cases m)

pair_same : (f g : ListedFlow) → pair_of f ≡ pair_of g → SameFlow f g
unfolding pair_of
pair_same f g e = record { source = ap (λ (x : Item). get_or x 0 []) e; group = ap (λ (x : Item). get_or x 1 []) e }

same-pair : (f g : ListedFlow) → SameFlow f g → pair_of f ≡ pair_of g
unfolding pair_of
same-pair f g s = ap₂ (λ (x y : List ℕ). x ∷ (y ∷ [])) s.source s.group

apart-once : {fs : List ListedFlow} → Apart fs → EachOnce (pairs_of fs)
unfolding pairs_of
apart-once Apart.none = EachOnce.none
apart-once (Apart.one {f} {fs} h a) = EachOnce.one (λ m. let r = among-pair fs m in h r.0 r.1 (pair_same f r.0 r.2)) (apart-once a)

pub different-others : (attribute flows : List ℕ) (items : List Item) → read_list 3 flows ≡ given items → (pairs : List Item) × DifferentOthers attribute items pairs
unfolding pair_of
different-others attribute flows items read =
    let three = list-threes flows items read in
    let fs : List ListedFlow = others attribute (flows_in items) in (
      pairs_of (different fs),
      record {
        all = λ s g w m d.
            let o = among-others attribute (flows_in items) (flow_by s g w) (listed-among s g w m) (tested (same w attribute) (λ t. absurd (d (same-equal _ _ t))) (λ n. n)) in
            let r = among-different fs (flow_by s g w) o in
            subst (λ (x : Item). Among x (pairs_of (different fs))) (sym (same-pair (flow_by s g w) r.0 r.2)) (pair-among r.1);
        only = λ x m.
            let r = among-pair (different fs) m in
            let o = others-among attribute (flows_in items) r.0 (different-among fs r.0 r.1) in
            (r.0.source, r.0.group, r.0.wanted, r.2, among-listed three r.0 o.0, o.1);
        once = apart-once (different-apart fs);
      },
    )

pub none-proposed : (vrf : Vrf) → length (proposal vrf (flows_in [])) ≡ 0
unfolding proposal flows_in
none-proposed vrf = refl
