-- The judges of flows, each by its definition.
use Prim.Native.Nat.{ℕ, ◌<◌, ◌≤◌}
use mathlib.Core.Path.{◌≡◌, refl, sym, ◌∙◌, ap, ap₂}
use mathlib.Core.Logic.{◌≢◌}
use mathlib.Core.Bool.{Bool, true, false}
use mathlib.Core.List.{List, [], ◌∷◌}
use native.Mathlib.Omega.{arith}
use lib.ListN.{length, get_or}
use lib.Dec.{leb, eqb}
use borrow.Author.Tests.{le-leb, lt-leb, eq-eqb, ne_eqb, eqb-true, eqb-false}
use Rattle.octets.specs.Numbers.{DONE, TUNNEL, CONFLICT, SHORT, LONG}
use Rattle.octets.specs.Choice.{pick, both, either}
use Rattle.octets.specs.Outcome.{given, refused, and_then, number_of}
use Rattle.octets.proofs.Choice.{tested, pick_true, pick-false, both_true, both_left}
use Rattle.octets.proofs.Outcome.{number-given, number-refused, refused-of, done-given, given-same, given-otherwise, passed, on-given, on-refused, refuses-by, and-stops}
use Rattle.lists.specs.LentLists.{list_count, whole_list, list_items, read_list}
use Rattle.groups.specs.Classes.{prefixes_under, class_by}
use Rattle.groups.proofs.Theorems.{class_rule}
use Rattle.tunnel.specs.Attribute.{fields_in, read_attribute}
use Rattle.routes.proofs.Definitions.ByArguments.{attribute-argued}
use Rattle.places.proofs.RouteWrites.{attribute-least}
use Rattle.matches.specs.Scanning.{sized_fault}
use Rattle.matches.proofs.FlowClasses.{flow-unclassed, flow-missized, flow-taken}
use Rattle.plan.specs.Flows.{Vrf, ListedFlow, asking, flows_in}
use Rattle.plan.specs.Refusing.{or_next, first_flow_fault, conflicts, clashes, flow_fault, type_fault, flows_fault, read_flows}
use Rattle.plan.specs.Inner.{conflict_fault}
use Rattle.plan.proofs.Reading.{under_some}

-- a flow as a match has it
module _ (afi : ℕ) (vrf : Vrf) (f : ListedFlow) (group : List ℕ) (eg : group ≡ f.group) where
  pub flow-unclassed-is : (n : ℕ) → refused n ≡ class_by afi vrf.prefixes group → n ≡ flow_fault afi vrf f
  unfolding flow_fault
  flow-unclassed-is n e = sym (number-refused (flow-unclassed afi (asking vrf f) n (e ∙ ap (class_by afi vrf.prefixes) eg)))

  pub flow-sized-is : (class : ℕ) → given class ≡ class_by afi vrf.prefixes group → (source : List ℕ) → source ≡ f.source → (n : ℕ) → n ≡ sized_fault DONE (length vrf.originator) (length source) (length group) → n ≡ flow_fault afi vrf f
  unfolding flow_fault
  flow-sized-is class e source es n told =
      let by : given class ≡ class_by afi vrf.prefixes f.group = e ∙ ap (class_by afi vrf.prefixes) eg in
      let is : n ≡ sized_fault DONE (length vrf.originator) (length f.source) (length f.group) = told ∙ ap₂ (λ (s g : List ℕ). sized_fault DONE (length vrf.originator) (length s) (length g)) es eg in
      tested (eqb n DONE)
      (λ t. let d : n ≡ DONE = eqb-true _ _ t in d ∙ sym (number-given (flow-taken afi (asking vrf f) class by (sym d ∙ is))))
      (λ u. sym (number-refused (flow-missized afi (asking vrf f) class by n is (eqb-false _ _ u))))

-- TUNNEL for a wanted type 0, after reading
pub type-unread : (wanted : List ℕ) (n : ℕ) → n ≡ number_of (read_attribute wanted) → (n ≡ DONE → ⊥) → (f : ListedFlow) → f.wanted ≡ wanted → n ≡ type_fault f
unfolding type_fault
type-unread wanted n e d f q = on-refused _ _ _ _ _ (refused-of (read_attribute f.wanted) n (e ∙ ap (λ (s : List ℕ). number_of (read_attribute s)) (sym q)) d) refl

pub read-fields : (wanted : List ℕ) (n : ℕ) → n ≡ number_of (read_attribute wanted) → n ≡ DONE → read_attribute wanted ≡ given (fields_in wanted)
unfolding read_attribute
read-fields wanted n e d =
    let g = done-given (read_attribute wanted) (λ k r. (refuses-by _ k (attribute-argued wanted) r).0) (sym e ∙ d) in
    g.1 ∙ ap given (sym (given-same (passed _ _ _ (given-otherwise _ _ _ _ (given-otherwise _ _ _ _ g.1).1).1).second))

pub type-read : (wanted : List ℕ) (n : ℕ) → n ≡ number_of (read_attribute wanted) → n ≡ DONE → (k : ℕ) → k ≡ pick (eqb (get_or wanted 1 0) 0) TUNNEL DONE → (f : ListedFlow) → f.wanted ≡ wanted → k ≡ type_fault f
unfolding type_fault fields_in
type-read wanted n e d k is f q =
    on-given _ _ _ _ _ (ap read_attribute q ∙ read-fields wanted n e d) is

pub type-within : (wanted : List ℕ) (n : ℕ) → n ≡ number_of (read_attribute wanted) → n ≡ DONE → 1 < length wanted
type-within wanted n e d = let l = attribute-least wanted _ (read-fields wanted n e d) in omega arith

pub type-none : (wanted : List ℕ) (n : ℕ) → n ≡ number_of (read_attribute wanted) → n ≡ DONE → get_or wanted 1 0 ≡ 0 → (f : ListedFlow) → f.wanted ≡ wanted → TUNNEL ≡ type_fault f
type-none wanted n e d z f q = type-read wanted n e d TUNNEL (sym (pick_true _ _ _ (eq-eqb _ _ z))) f q

pub type-some : (wanted : List ℕ) (n : ℕ) → n ≡ number_of (read_attribute wanted) → n ≡ DONE → (get_or wanted 1 0 ≡ 0 → ⊥) → (f : ListedFlow) → f.wanted ≡ wanted → DONE ≡ type_fault f
type-some wanted n e d z f q = type-read wanted n e d DONE (sym (pick-false _ _ _ (ne_eqb _ _ z))) f q

-- refusals in their order
pub stops : (r m n : ℕ) → r ≡ m → r ≢ DONE → r ≡ or_next m n
unfolding or_next
stops r m n e d = e ∙ sym (pick-false _ _ _ (ne_eqb _ _ (λ z. d (e ∙ z))))

pub goes : (r m n : ℕ) → DONE ≡ m → r ≡ n → r ≡ or_next m n
unfolding or_next
goes r m n e q = q ∙ sym (pick_true _ _ _ (eq-eqb _ _ (sym e)))

-- over the flows
module _ (fault : ListedFlow → ℕ) {all : ℕ} {rest behind : List ListedFlow} {f : ListedFlow} (so_far : all ≡ first_flow_fault fault rest) (step : rest ≡ f ∷ behind) (n : ℕ) (told : n ≡ fault f) where
  pub each-stops : n ≢ DONE → n ≡ all
  unfolding first_flow_fault
  each-stops d = stops n (fault f) (first_flow_fault fault behind) told d ∙ sym (so_far ∙ ap (first_flow_fault fault) step)

  pub each-next : n ≡ DONE → all ≡ first_flow_fault fault behind
  unfolding first_flow_fault or_next
  each-next d = so_far ∙ ap (first_flow_fault fault) step ∙ pick_true _ _ _ (eq-eqb _ _ (sym told ∙ d))

pub each-ends : (fault : ListedFlow → ℕ) {all : ℕ} {rest : List ListedFlow} → all ≡ first_flow_fault fault rest → rest ≡ [] → DONE ≡ all
unfolding first_flow_fault
each-ends fault so_far end = sym (so_far ∙ ap (first_flow_fault fault) end)

-- one flow with two attributes
module _ {all : ℕ} {rest behind : List ListedFlow} {f : ListedFlow} (so_far : all ≡ conflict_fault rest) (step : rest ≡ f ∷ behind) (clash : Bool) (again : List ListedFlow) (told : clash ≡ clashes f again) (same_ones : again ≡ behind) where
  here : all ≡ pick (either clash (conflicts behind)) CONFLICT DONE
  unfolding conflict_fault conflicts
  here = so_far ∙ ap conflict_fault step ∙ ap (λ (b : Bool). pick (either b (conflicts behind)) CONFLICT DONE) (sym (told ∙ ap (clashes f) same_ones))

  pub conflict-here : clash ≡ true → CONFLICT ≡ all
  unfolding either pick
  conflict-here h = sym (here ∙ ap (λ (b : Bool). pick (either b (conflicts behind)) CONFLICT DONE) h)

  pub conflict-next : clash ≡ false → all ≡ conflict_fault behind
  unfolding either conflict_fault
  conflict-next h = here ∙ ap (λ (b : Bool). pick (either b (conflicts behind)) CONFLICT DONE) h

pub conflict-ends : {all : ℕ} {rest : List ListedFlow} → all ≡ conflict_fault rest → rest ≡ [] → DONE ≡ all
unfolding conflict_fault conflicts pick
conflict-ends so_far end = sym (so_far ∙ ap conflict_fault end)

-- the flows that are lent, read
module _ (afi : ℕ) (vrf : Vrf) (flows : List ℕ) (within : Bool) where
  pub read-unprefixed : (n : ℕ) → n ≡ number_of (prefixes_under afi vrf.prefixes) → n ≢ DONE → refused n ≡ read_flows afi vrf flows within
  unfolding read_flows
  read-unprefixed n e d = and-stops _ _ _ (refused-of _ n e d)

  module _ (prefixed : DONE ≡ number_of (prefixes_under afi vrf.prefixes)) where
    good : (items : _) × (prefixes_under afi vrf.prefixes ≡ given items)
    good = done-given (prefixes_under afi vrf.prefixes) (λ k z. under_some ((class_rule.prefixes_refused afi vrf.prefixes k).0 z)) (sym prefixed)

    pub read-long : both (leb (list_count flows) 64) within ≡ false → refused LONG ≡ read_flows afi vrf flows within
    unfolding read_flows and_then pick
    read-long l = rw (good.1, l) refl

    module _ (few : both (leb (list_count flows) 64) within ≡ true) where
      pub read-short : whole_list 3 flows ≡ false → refused SHORT ≡ read_flows afi vrf flows within
      unfolding read_flows and_then pick read_list
      read-short w = rw (good.1, few, w) refl

      module _ (whole : whole_list 3 flows ≡ true) (n : ℕ) (told : n ≡ flows_fault afi vrf (flows_in (list_items 3 flows))) where
        pub read-refuses : n ≢ DONE → refused n ≡ read_flows afi vrf flows within
        unfolding read_flows and_then pick read_list
        read-refuses d =
            let off : eqb (flows_fault afi vrf (flows_in (list_items 3 flows))) DONE ≡ false = ne_eqb _ _ (λ z. d (told ∙ z)) in
            rw (good.1, few, whole, off) (ap refused told)

        pub read-given : n ≡ DONE → given (flows_in (list_items 3 flows)) ≡ read_flows afi vrf flows within
        unfolding read_flows and_then pick read_list
        read-given d =
            let on : eqb (flows_fault afi vrf (flows_in (list_items 3 flows))) DONE ≡ true = eq-eqb _ _ (sym told ∙ d) in
            rw (good.1, few, whole, on) refl

-- the count against its limit
pub few-within : (flows : List ℕ) (within : Bool) (count : ℕ) → count ≡ list_count flows → count ≤ 64 → within ≡ true → both (leb (list_count flows) 64) within ≡ true
few-within flows within count e h w = both_true _ _ (le-leb _ _ (let l : list_count flows ≤ 64 = omega (arith, e, h) in l)) w

pub too-many : (flows : List ℕ) (within : Bool) (count : ℕ) → count ≡ list_count flows → 64 < count → both (leb (list_count flows) 64) within ≡ false
too-many flows within count e h = both_left _ _ (lt-leb _ _ (let l : 64 < list_count flows = omega (arith, e, h) in l))

pub not-within : (flows : List ℕ) (within : Bool) → within ≡ false → both (leb (list_count flows) 64) within ≡ false
unfolding both
not-within flows within w = rw w (tested (leb (list_count flows) 64) (λ t. rw t refl) (λ n. rw n refl))
