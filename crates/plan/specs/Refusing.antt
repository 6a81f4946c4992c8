-- Why flows are refused (document 02, W-214): each number is tried over all flows before the next.
use Rattle.std.specs.Prelude.{ℕ, Bool, false, not, List, [], ◌∷◌, length, leb, eqb}
use Rattle.octets.specs.Numbers.{DONE, TUNNEL, LONG, FLOW, CONFLICT}
use Rattle.octets.specs.Choice.{pick, both, either}
use Rattle.octets.specs.Outcome.{Outcome, given, unless, and_then, on_outcome, number_of}
use Rattle.octets.specs.Order.{same}
use Rattle.lists.specs.LentLists.{list_count, read_list}
use Rattle.nlri.specs.Family.{is_originator_size}
use Rattle.groups.specs.Classes.{prefixes_under}
use Rattle.tunnel.specs.Attribute.{read_attribute}
use Rattle.routes.specs.Arguments.{read_labelled, read_flow}
use Rattle.plan.specs.Flows.{Vrf, ListedFlow, asking, flows_in, same_flow}

-- the most flows
abbrev pub MOST_FLOWS : ℕ
MOST_FLOWS = 64

-- the next number where nothing was refused
unfoldable pub or_next : ℕ → ℕ → ℕ
or_next fault next = pick (eqb fault DONE) next fault

-- the first number that refuses one of the flows
unfoldable pub first_flow_fault : (ListedFlow → ℕ) → List ListedFlow → ℕ
first_flow_fault fault [] = DONE
first_flow_fault fault (f ∷ fs) = or_next (fault f) (first_flow_fault fault fs)

-- FLOW by the sizes of originator and RD
unfoldable pub vrf_fault : Vrf → ℕ
vrf_fault vrf = pick (both (is_originator_size (length vrf.originator)) (eqb (length vrf.distinguisher) 8)) DONE FLOW

-- FLOW by a flow's source and group, as a match has it
unfoldable pub flow_fault : (afi : ℕ) → Vrf → ListedFlow → ℕ
flow_fault afi vrf f = number_of (read_flow afi (asking vrf f))

-- attribute reading
unfoldable pub attribute_fault : ListedFlow → ℕ
attribute_fault f = number_of (read_attribute f.wanted)

-- LABEL as at install
unfoldable pub label_fault : ListedFlow → ℕ
label_fault f = number_of (read_labelled f.wanted)

-- TUNNEL for a wanted type 0
unfoldable pub type_fault : ListedFlow → ℕ
type_fault f = on_outcome (λ number. number) (λ g. pick (eqb g.tunnel_type 0) TUNNEL DONE) (read_attribute f.wanted)

-- one of these is this flow with another attribute
unfoldable pub clashes : ListedFlow → List ListedFlow → Bool
clashes f [] = false
clashes f (g ∷ gs) = either (both (same_flow f g) (not (same f.wanted g.wanted))) (clashes f gs)

-- one flow is listed with two different attributes
unfoldable pub conflicts : List ListedFlow → Bool
conflicts [] = false
conflicts (f ∷ fs) = either (clashes f fs) (conflicts fs)

-- attribute reading, LABEL, TUNNEL, CONFLICT
unfoldable pub attributes_fault : List ListedFlow → ℕ
attributes_fault fs =
    or_next (first_flow_fault attribute_fault fs)
    (or_next (first_flow_fault label_fault fs)
    (or_next (first_flow_fault type_fault fs)
    (pick (conflicts fs) CONFLICT DONE)))

-- FLOW, then the attributes
unfoldable pub flows_fault : (afi : ℕ) → Vrf → List ListedFlow → ℕ
flows_fault afi vrf fs = or_next (vrf_fault vrf) (or_next (first_flow_fault (flow_fault afi vrf) fs) (attributes_fault fs))

-- the flows that are lent. FAMILY, RANGE and SHORT of the prefixes; LONG for more than 64 flows, or for what is over its limit beside them; SHORT; then
-- the flows
unfoldable pub read_flows : (afi : ℕ) → Vrf → (flows : List ℕ) → (within : Bool) → Outcome (List ListedFlow)
read_flows afi vrf flows within =
    and_then (prefixes_under afi vrf.prefixes) (λ prefixes.
    unless (both (leb (list_count flows) MOST_FLOWS) within) LONG
    (and_then (read_list 3 flows) (λ items.
    unless (eqb (flows_fault afi vrf (flows_in items)) DONE) (flows_fault afi vrf (flows_in items)) (given (flows_in items)))))
