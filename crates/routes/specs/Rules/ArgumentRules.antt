-- What a call's arguments and the table's family come to, in document 01's notions ("The numbers a call gives back", "Mixed calls and each
-- router's book"). Stated here, proved in proofs/Statements/ArgumentRules.antt.
use Rattle.std.specs.Prelude.{ℕ, ◌/◌, ◌≤◌, ◌<◌, ◌≡◌, List, ◌↔◌, ◌≢◌, ◌⊎◌, length}
use Rattle.octets.specs.Numbers.{LABEL, KIND, FLOW, SPACE}
use Rattle.octets.specs.Outcome.{given, refused}
use Rattle.nlri.specs.Fields.{Fields}
use Rattle.nlri.specs.Reading.{read_nlri}
use Rattle.nlri.specs.Groups.{Multicast}
use Rattle.groups.specs.Rules.ClassRule.{GoodPrefixes, PrefixRefusal}
use Rattle.tunnel.specs.Attribute.{AttributeFields, read_attribute}
use Rattle.routes.specs.Route.{route}
use Rattle.routes.specs.Query.{Query, Flow}
use Rattle.routes.specs.Arguments.{read_s_pmsi, read_route, read_match}

-- AFI 1 or 2
abbrev pub KnownFamily : ℕ → Type 0
KnownFamily afi = (afi ≡ 1) ⊎ (afi ≡ 2)

-- a router address: 4 or 16 octets
abbrev pub RouterSized : List ℕ → Type 0
RouterSized router = (length router ≡ 4) ⊎ (length router ≡ 16)

-- an address of the family's size
abbrev pub FamilySized : (afi : ℕ) → List ℕ → Type 0
FamilySized afi address = ((afi ≡ 1) × (length address ≡ 4)) ⊎ ((afi ≡ 2) × (length address ≡ 16))

-- a well-formed NLRI of one route type: NLRI reading accepts it with no octets after it
pub record NlriOfType (type afi : ℕ) (nlri : List ℕ) : Type 0 where
  pub fields : Fields
  pub read : read_nlri afi nlri ≡ given fields
  pub kind : fields.type ≡ type

-- a well-formed S-PMSI NLRI: of type 3
abbrev pub SPmsi : (afi : ℕ) → (nlri : List ℕ) → Type 0
SPmsi afi nlri = NlriOfType 3 afi nlri

-- a well-formed S-PMSI NLRI of a router: the router is its originator, in size and octets
pub record SPmsiOf (afi : ℕ) (router nlri : List ℕ) : Type 0 where
  pub named : SPmsi afi nlri
  pub originator : named.fields.originator ≡ router

-- an attribute that install takes: attribute reading accepts it, and it is not BIER with label 0
pub record Labelled (attribute : List ℕ) : Type 0 where
  pub fields : AttributeFields
  pub read : read_attribute attribute ≡ given fields
  pub label : fields.tunnel_type ≡ 11 → fields.label_field / 16 ≢ 0

-- a flow that a match takes: good prefixes, a router address of 4 or 16 octets, a source of the family's size, a multicast group of that size
pub record GoodFlow (afi : ℕ) (flow : Flow) : Type 0 where
  pub prefixed : GoodPrefixes afi flow.prefixes
  pub addressed : RouterSized flow.router
  pub sourced : FamilySized afi flow.source
  pub multicast : Multicast afi flow.group

-- why an NLRI that is to be of one route type is refused: NLRI reading, then KIND
pub data TypeRefusal (type afi : ℕ) (nlri : List ℕ) : ℕ → Type 0 where
  unread_nlri : {n : ℕ} → read_nlri afi nlri ≡ refused n → TypeRefusal type afi nlri n
  other_kind : (f : Fields) → read_nlri afi nlri ≡ given f → f.type ≢ type → TypeRefusal type afi nlri KIND

-- why one that is to be S-PMSI is
abbrev pub NlriRefusal : (afi : ℕ) → (nlri : List ℕ) → ℕ → Type 0
NlriRefusal afi nlri n = TypeRefusal 3 afi nlri n

-- why install refuses its arguments: the NLRI, then attribute reading, then LABEL
pub data RouteRefusal (afi : ℕ) (nlri attribute : List ℕ) : ℕ → Type 0 where
  bad_nlri : {n : ℕ} → NlriRefusal afi nlri n → RouteRefusal afi nlri attribute n
  unread_attribute : {n : ℕ} → SPmsi afi nlri → read_attribute attribute ≡ refused n → RouteRefusal afi nlri attribute n
  no_label : (f : AttributeFields) → SPmsi afi nlri → read_attribute attribute ≡ given f → f.tunnel_type ≡ 11 → f.label_field / 16 ≡ 0 → RouteRefusal afi nlri attribute LABEL

-- why match refuses its arguments: its prefixes, FLOW, then SPACE for an output under 124 octets
pub data FlowRefusal (afi : ℕ) (flow : Flow) (output : List ℕ) : ℕ → Type 0 where
  bad_flow_prefixes : {n : ℕ} → PrefixRefusal afi flow.prefixes n → FlowRefusal afi flow output n
  bad_flow : GoodPrefixes afi flow.prefixes → (GoodFlow afi flow → ⊥) → FlowRefusal afi flow output FLOW
  no_space : GoodFlow afi flow → length output < 124 → FlowRefusal afi flow output SPACE

-- arguments are accepted, or refused by the first number in the call's order: each exactly when
pub record ArgumentRule : Type 0 where
  pub refused_nlri : (afi : ℕ) (nlri : List ℕ) (n : ℕ) → (read_s_pmsi afi nlri ≡ refused n) ↔ NlriRefusal afi nlri n
  pub accepted_nlri : (afi : ℕ) (nlri : List ℕ) (f : Fields) → (read_s_pmsi afi nlri ≡ given f) ↔ ((read_nlri afi nlri ≡ given f) × (f.type ≡ 3))
  pub refused_route : (afi : ℕ) (nlri attribute : List ℕ) (n : ℕ) → (read_route afi nlri attribute ≡ refused n) ↔ RouteRefusal afi nlri attribute n
  pub accepted_route : (afi : ℕ) (nlri attribute : List ℕ) → (read_route afi nlri attribute ≡ given (route nlri attribute)) ↔ (SPmsi afi nlri × Labelled attribute)
  -- of a family that a table can have
  pub refused_flow : (afi : ℕ) (flow : Flow) (output : List ℕ) (n : ℕ) → KnownFamily afi → (read_match afi flow output ≡ refused n) ↔ FlowRefusal afi flow output n
  pub accepted_flow : (afi : ℕ) (flow : Flow) (output : List ℕ) → ((q : Query) × (read_match afi flow output ≡ given q)) ↔ (GoodFlow afi flow × (124 ≤ length output))
