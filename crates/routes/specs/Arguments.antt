-- What a call's arguments and the table's family come to (document 01, "The numbers a call gives back", the order of each call).
use Rattle.std.specs.Prelude.{ℕ, ◌*◌, List, length, ltb, eqb}
use Rattle.octets.specs.Numbers.{LABEL, FLOW, SPACE}
use Rattle.octets.specs.Choice.{pick, both}
use Rattle.octets.specs.Outcome.{Outcome, given, refused, unless, and_then}
use Rattle.nlri.specs.Family.{family_bits, is_originator_size}
use Rattle.nlri.specs.Fields.{Fields}
use Rattle.nlri.specs.Reading.{read_of_type}
use Rattle.groups.specs.Prefixes.{read_prefixes}
use Rattle.groups.specs.Classes.{class_in}
use Rattle.tunnel.specs.Attribute.{AttributeFields, label_of, read_attribute}
use Rattle.routes.specs.Route.{Route, route}
use Rattle.routes.specs.Query.{Query, Flow, flow_query}

-- "A well-formed S-PMSI NLRI": of type 3
unfoldable pub read_s_pmsi : ℕ → List ℕ → Outcome Fields
read_s_pmsi afi nlri = read_of_type 3 afi nlri

-- an attribute that install takes: attribute reading, then LABEL for BIER with label 0
unfoldable pub read_labelled : List ℕ → Outcome AttributeFields
read_labelled attribute = and_then (read_attribute attribute) (λ f. pick (both (eqb f.tunnel_type 11) (eqb (label_of f) 0)) (refused LABEL) (given f))

-- install, before ROOM: NLRI reading with no octets after it, KIND, attribute reading, LABEL
unfoldable pub read_route : ℕ → List ℕ → List ℕ → Outcome Route
read_route afi nlri attribute = and_then (read_s_pmsi afi nlri) (λ f. and_then (read_labelled attribute) (λ g. given (route nlri attribute)))

-- RANGE and SHORT of the prefixes, then FLOW: a router address not of 4 or 16 octets, a source or group not of the family's size, a group not multicast
unfoldable pub read_flow : (afi : ℕ) → Flow → Outcome Query
read_flow afi flow =
    and_then (family_bits afi) (λ bits.
    and_then (read_prefixes bits flow.prefixes) (λ items.
    unless (is_originator_size (length flow.router)) FLOW
    (unless (eqb (8 * length flow.source) bits) FLOW
    (and_then (class_in bits items flow.group) (λ class. given (flow_query flow class))))))

-- match: RANGE, SHORT, FLOW, then SPACE for an output under 124 octets
unfoldable pub read_match : (afi : ℕ) → Flow → (output : List ℕ) → Outcome Query
read_match afi flow output = and_then (read_flow afi flow) (λ query. pick (ltb (length output) 124) (refused SPACE) (given query))
