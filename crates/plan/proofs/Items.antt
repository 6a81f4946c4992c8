-- The flows of a list's items: each item has three fields, and what holds of every flow holds of every item.
use Prim.Native.Nat.{ℕ, zero, suc}
use mathlib.Core.Path.{◌≡◌, refl, sym, ap, subst}
use mathlib.Core.List.{List, [], ◌∷◌}
use mathlib.Core.Logic.{◌↔◌}
use lib.ListN.{length, get_or}
use Rattle.octets.specs.Outcome.{given}
use Rattle.octets.specs.Lists.{Among, first, later}
use Rattle.octets.proofs.Among.{among_none}
use Rattle.lists.specs.LentLists.{Item, item_field, front_item, front_items, list_items, read_list, list_count}
use Rattle.lists.proofs.Items.{read-list-given}
use Rattle.plan.specs.Flows.{ListedFlow, flow_in, flows_in}
use Rattle.plan.specs.Rules.FlowsRule.{Listed}

-- items of three fields each
pub data Threes : List Item → Type 0 where
  none : Threes []
  one : {source group wanted : List ℕ} {items : List Item} → Threes items → Threes ((source ∷ (group ∷ (wanted ∷ []))) ∷ items)

front-threes : (count : ℕ) (s : List ℕ) → Threes (front_items 3 count s)
unfolding front_items front_item
front-threes zero s = none
front-threes (suc count) s = one (front-threes count _)

pub list-threes : (list : List ℕ) (items : List Item) → read_list 3 list ≡ given items → Threes items
unfolding list_items
list-threes list items e = subst Threes (sym (read-list-given 3 list items e)) (front-threes (list_count list) _)

-- a flow by its fields
abbrev pub flow_by : (source group wanted : List ℕ) → ListedFlow
flow_by source group wanted = record { source = source; group = group; wanted = wanted }

pub among-listed : {items : List Item} → Threes items → (f : ListedFlow) → Among f (flows_in items) → Listed f.source f.group f.wanted items
unfolding flows_in flow_in item_field
among-listed none f m = absurd (among_none m)
among-listed (one t) f (first e) = first (ap (λ (g : ListedFlow). g.source ∷ (g.group ∷ (g.wanted ∷ []))) e)
among-listed (one t) f (later m) = later (among-listed t f m)

pub listed-among : (source group wanted : List ℕ) {items : List Item} → Listed source group wanted items → Among (flow_by source group wanted) (flows_in items)
unfolding flows_in flow_in item_field
listed-among source group wanted (first e) = first (ap (λ (x : Item). flow_by (get_or x 0 []) (get_or x 1 []) (get_or x 2 [])) e)
listed-among source group wanted (later m) = later (listed-among source group wanted m)

-- what holds of every flow
pub each : {items : List Item} → Threes items → (P : ListedFlow → Type 0)
    → ((f : ListedFlow) → Among f (flows_in items) → P f) ↔ ((source group wanted : List ℕ) → Listed source group wanted items → P (flow_by source group wanted))
each t P = (λ h s g w m. h (flow_by s g w) (listed-among s g w m), λ h f m. h f.source f.group f.wanted (among-listed t f m))

pub flows-count : (items : List Item) → length (flows_in items) ≡ length items
unfolding flows_in
flows-count [] = refl
flows-count (x ∷ xs) = ap suc (flows-count xs)
