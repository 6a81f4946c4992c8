-- A flow judged by its router's size, by source and group of one size, and by the group's class.
use Prim.Native.Nat.{ℕ, ◌*◌, ◌/◌, ◌≤◌, ◌<◌}
use mathlib.Core.Path.{◌≡◌, refl, sym, ◌∙◌, ap}
use mathlib.Core.Bool.{Bool, true}
use mathlib.Core.Logic.{⊎_elim}
use mathlib.Core.List.{List}
use native.Mathlib.Omega.{arith}
use borrow.Author.Tests.{eqb-true, eqb-false, eq-eqb, ne_eqb}
use lib.Dec.{eqb}
use lib.ListN.{length}
use Rattle.octets.specs.Numbers.{DONE, FLOW}
use Rattle.octets.specs.Choice.{pick}
use Rattle.octets.specs.Outcome.{Outcome, given, refused, and_then}
use Rattle.octets.proofs.Choice.{pick_true, pick-false, tested}
use Rattle.octets.proofs.Outcome.{and-cong, and_assoc, outcome, and-goes-on, and-stops}
use Rattle.nlri.specs.Family.{family_bits, is_originator_size}
use Rattle.lists.specs.LentLists.{Item}
use Rattle.nlri.specs.Groups.{class_under}
use Rattle.groups.specs.Prefixes.{read_prefixes}
use Rattle.groups.specs.Classes.{class_in, class_by}
use Rattle.groups.proofs.ClassFirst.{class-flow, given-least}
use Rattle.nlri.proofs.Definitions.Lengths.{family-octets, originator-sized}
use Rattle.routes.specs.Query.{tiers_of, Query, Flow, flow_query}
use Rattle.routes.specs.Arguments.{read_flow}
use Rattle.matches.specs.Scanning.{sought_of, open_tiers, open_query, sized_fault}

-- a group of another size than the family's
unsized : (bits : ℕ) (items : List Item) (g : List ℕ) → (length g ≡ bits / 8 → ⊥) → class_in bits items g ≡ refused FLOW
unfolding class_in class_under
unsized bits items g h = sym (and-stops _ _ _ (pick-false _ _ _ (ne_eqb _ _ h)))

-- source and group of the family's size: one of it, and the other of the same
module _ (bits : ℕ) (whole : 8 * (bits / 8) ≡ bits) (items : List Item) (source group : List ℕ) (next : ℕ → Outcome Query) where
  sized-alike : pick (eqb (8 * length source) bits) (and_then (class_in bits items group) next) (refused FLOW)
      ≡ pick (eqb (length source) (length group)) (and_then (class_in bits items group) next) (refused FLOW)
  sized-alike =
      tested (eqb (length source) (length group))
      (λ alike.
      let e : length source ≡ length group = eqb-true _ _ alike in
      tested (eqb (8 * length source) bits) (λ s. pick_true _ _ _ s ∙ sym (pick_true _ _ _ alike))
      (λ s.
      let other : 8 * length source ≡ bits → ⊥ = eqb-false _ _ s in
      pick-false _ _ _ s ∙ sym (pick_true _ _ _ alike ∙ sym (and-stops _ _ next (unsized bits items group (λ g. other (omega arith)))))))
      (λ unlike.
      let other : length source ≡ length group → ⊥ = eqb-false _ _ unlike in
      tested (eqb (8 * length source) bits)
      (λ s.
      let e : 8 * length source ≡ bits = eqb-true _ _ s in
      pick_true _ _ _ s ∙ sym (and-stops _ _ next (unsized bits items group (λ g. other (omega arith)))) ∙ sym (pick-false _ _ _ unlike))
      (λ s. pick-false _ _ _ s ∙ sym (pick-false _ _ _ unlike)))

-- a test that refuses with FLOW, before or after a class that is refused with FLOW
flow-after : (test : Bool) (bits : ℕ) (items : List Item) (group : List ℕ) (next : ℕ → Outcome Query)
    → pick test (and_then (class_in bits items group) next) (refused FLOW) ≡ and_then (class_in bits items group) (λ class. pick test (next class) (refused FLOW))
flow-after test bits items group next =
    ⊎_elim
    (λ g. ap (λ (o : Outcome Query). pick test o (refused FLOW)) (sym (and-goes-on _ _ _ _ g.1 refl)) ∙ and-goes-on _ _ _ _ g.1 refl)
    (λ r.
    let flow : class_in bits items group ≡ refused FLOW = r.1 ∙ ap refused (class-flow bits items group _ r.1) in
    ap (λ (o : Outcome Query). pick test o (refused FLOW)) (sym (and-stops _ _ _ flow)) ∙ tested test (λ t. pick_true _ _ _ t) (λ f. pick-false _ _ _ f) ∙ and-stops _ _ _ flow)
    (outcome (class_in bits items group))

-- what a flow asks once its group has a class, by the sizes of router and source
module _ (afi : ℕ) (flow : Flow) where
  sized-query : (class : ℕ) → Outcome Query
  sized-query class =
      pick (is_originator_size (length flow.router)) (pick (eqb (length flow.source) (length flow.group)) (given (open_query (sought_of flow.router flow.source flow.group) (open_tiers class))) (refused FLOW)) (refused FLOW)

  by-class : read_flow afi flow ≡ and_then (class_by afi flow.prefixes flow.group) sized-query
  unfolding read_flow class_by sized-query flow_query open_query tiers_of
  by-class =
      let routed = is_originator_size (length flow.router) in
      let alike = eqb (length flow.source) (length flow.group) in
      let next : ℕ → Outcome Query = λ class. given (flow_query flow class) in
      and-cong (family_bits afi) _ _
      (λ bits f. and-cong (read_prefixes bits flow.prefixes) _ _
      (λ items r.
      ap (λ (o : Outcome Query). pick routed o (refused FLOW)) (sized-alike bits (family-octets afi bits f).0 items flow.source flow.group next ∙ flow-after alike bits items flow.group next)
      ∙ flow-after routed bits items flow.group (λ class. pick alike (next class) (refused FLOW)))
      ∙ sym (and_assoc (read_prefixes bits flow.prefixes) (λ items. class_in bits items flow.group) sized-query))
      ∙ sym (and_assoc (family_bits afi) (λ bits. and_then (read_prefixes bits flow.prefixes) (λ items. class_in bits items flow.group)) sized-query)

-- no fault by sizes
sized-none : (router source group : ℕ) → sized_fault DONE router source group ≡ DONE → (is_originator_size router ≡ true) × (source ≡ group)
unfolding sized_fault pick
sized-none router source group e =
    tested (is_originator_size router)
    (λ r. tested (eqb source group) (λ a. (r, eqb-true _ _ a)) (λ u. let z : FLOW ≡ DONE = sym (pick_true _ _ _ r ∙ pick-false _ _ _ u) ∙ e in absurd (omega arith)))
    (λ o. let z : FLOW ≡ DONE = sym (pick-false _ _ _ o) ∙ e in absurd (omega arith))

-- what the class call and the test of sizes tell
module _ (afi : ℕ) (flow : Flow) where
  pub flow-unclassed : (n : ℕ) → refused n ≡ class_by afi flow.prefixes flow.group → read_flow afi flow ≡ refused n
  flow-unclassed n e = by-class afi flow ∙ sym (and-stops _ _ _ (sym e))

  module _ (class : ℕ) (classed : given class ≡ class_by afi flow.prefixes flow.group) where
    class-given : read_flow afi flow ≡ sized-query afi flow class
    class-given = by-class afi flow ∙ sym (and-goes-on _ _ _ _ (sym classed) refl)

    pub flow-missized : (fault : ℕ) → fault ≡ sized_fault DONE (length flow.router) (length flow.source) (length flow.group) → (fault ≡ DONE → ⊥) → read_flow afi flow ≡ refused fault
    unfolding sized_fault sized-query pick
    flow-missized fault told some =
        class-given
        ∙ tested (is_originator_size (length flow.router))
        (λ r. tested (eqb (length flow.source) (length flow.group))
        (λ a. absurd (some (told ∙ pick_true _ _ _ r ∙ pick_true _ _ _ a)))
        (λ u. pick_true _ _ _ r ∙ pick-false _ _ _ u ∙ ap refused (sym (told ∙ pick_true _ _ _ r ∙ pick-false _ _ _ u))))
        (λ o. pick-false _ _ _ o ∙ ap refused (sym (told ∙ pick-false _ _ _ o)))

    pub flow-taken : DONE ≡ sized_fault DONE (length flow.router) (length flow.source) (length flow.group) → read_flow afi flow ≡ given (open_query (sought_of flow.router flow.source flow.group) (open_tiers class))
    unfolding sized-query
    flow-taken none =
        let all = sized-none _ _ _ (sym none) in
        class-given ∙ pick_true _ _ _ all.0 ∙ pick_true _ _ _ (eq-eqb _ _ all.1)

-- a flow that is taken has a source and a group, and a router address of four octets or more
pub flow-some : (afi : ℕ) (prefixes group : List ℕ) (class : ℕ) → given class ≡ class_by afi prefixes group
    → (router source : ℕ) → DONE ≡ sized_fault DONE router source (length group) → (0 < source) × (0 < length group) × (4 ≤ router)
flow-some afi prefixes group class is router source none =
    let all = sized-none _ _ _ (sym none) in
    let some = given-least afi prefixes group class (sym is) in
    (omega (arith, all.1), omega arith, omega (arith, originator-sized router all.0))
