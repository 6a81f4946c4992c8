-- Why the flows of a call are refused (document 02, W-214), by the items of the list: each number over all flows before the next.
use Rattle.std.specs.Prelude.{ℕ, ◌≡◌, List, [], ◌∷◌, ◌≢◌, length}
use Rattle.octets.specs.Numbers.{SHORT, TUNNEL, LONG, LABEL, FLOW}
use Rattle.octets.specs.Outcome.{given, refused}
use Rattle.octets.specs.Lists.{Among}
use Rattle.lists.specs.LentLists.{Item, read_list}
use Rattle.nlri.specs.Groups.{Multicast}
use Rattle.groups.specs.Rules.ClassRule.{GoodPrefixes, UnderRefusal}
use Rattle.tunnel.specs.Attribute.{AttributeFields, read_attribute}
use Rattle.routes.specs.Rules.ArgumentRules.{KnownFamily, RouterSized, FamilySized, Labelled}
use Rattle.routes.specs.Rules.MatchRule.{NamesTunnel}
use Rattle.plan.specs.Flows.{Vrf}

-- a flow stands in the list, with the attribute wanted for it: an item of three fields
abbrev pub Listed : (source group wanted : List ℕ) → List Item → Type 0
Listed source group wanted items = Among (source ∷ (group ∷ (wanted ∷ []))) items

-- sizes: the originator's 4 or 16 octets, the RD's 8; each source of the family's size, each group multicast and of that size
pub record GoodSizes (afi : ℕ) (vrf : Vrf) (items : List Item) : Type 0 where
  pub originator : RouterSized vrf.originator
  pub distinguisher : length vrf.distinguisher ≡ 8
  pub sources : (source group wanted : List ℕ) → Listed source group wanted items → FamilySized afi source
  pub groups : (source group wanted : List ℕ) → Listed source group wanted items → Multicast afi group

-- attribute reading accepts every wanted attribute
abbrev pub AllAttributesRead : List Item → Type 0
AllAttributesRead items = (source group wanted : List ℕ) → Listed source group wanted items → (fields : AttributeFields) × (read_attribute wanted ≡ given fields)

-- it refuses one with this number, and none before that one
pub data FirstUnread : List Item → ℕ → Type 0 where
  here : {source group wanted : List ℕ} {items : List Item} {n : ℕ} → read_attribute wanted ≡ refused n → FirstUnread ((source ∷ (group ∷ (wanted ∷ []))) ∷ items) n
  later : {source group wanted : List ℕ} {items : List Item} {n : ℕ} (fields : AttributeFields) → read_attribute wanted ≡ given fields → FirstUnread items n
      → FirstUnread ((source ∷ (group ∷ (wanted ∷ []))) ∷ items) n

-- install would take every wanted attribute: none is BIER with label 0
abbrev pub AllLabelled : List Item → Type 0
AllLabelled items = (source group wanted : List ℕ) → Listed source group wanted items → Labelled wanted

-- none is of type 0
abbrev pub AllTunnelled : List Item → Type 0
AllTunnelled items = (source group wanted : List ℕ) → Listed source group wanted items → NamesTunnel wanted

-- one flow is listed with two different attributes
pub record Conflict (items : List Item) : Type 0 where
  pub source : List ℕ
  pub group : List ℕ
  pub one : List ℕ
  pub other : List ℕ
  pub listed : Listed source group one items × Listed source group other items
  pub differ : one ≢ other

-- the list is taken as a list: of a known family, under good prefixes, nothing of it too long, and these its items
pub record ListTaken (afi : ℕ) (vrf : Vrf) (flows : List ℕ) (TooLong : Type 0) (items : List Item) : Type 0 where
  pub family : KnownFamily afi
  pub prefixed : GoodPrefixes afi vrf.prefixes
  pub few : TooLong → ⊥
  pub read : read_list 3 flows ≡ given items

-- flows that are not refused
pub record GoodFlows (afi : ℕ) (vrf : Vrf) (flows : List ℕ) (TooLong : Type 0) (items : List Item) : Type 0 where
  pub taken : ListTaken afi vrf flows TooLong items
  pub sizes : GoodSizes afi vrf items
  pub labelled : AllLabelled items
  pub tunnelled : AllTunnelled items
  pub agree : Conflict items → ⊥

-- why flows are refused: FAMILY, RANGE and SHORT of the prefixes; LONG; SHORT; FLOW; attribute reading, of which the first flow that it refuses decides;
-- LABEL; TUNNEL; CONFLICT, 20
pub data FlowsRefusal (afi : ℕ) (vrf : Vrf) (flows : List ℕ) (TooLong : Type 0) : ℕ → Type 0 where
  bad_prefixes : {n : ℕ} → UnderRefusal afi vrf.prefixes n → FlowsRefusal afi vrf flows TooLong n
  too_long : KnownFamily afi → GoodPrefixes afi vrf.prefixes → TooLong → FlowsRefusal afi vrf flows TooLong LONG
  ends_short : KnownFamily afi → GoodPrefixes afi vrf.prefixes → (TooLong → ⊥) → read_list 3 flows ≡ refused SHORT → FlowsRefusal afi vrf flows TooLong SHORT
  bad_size : (items : List Item) → ListTaken afi vrf flows TooLong items → (GoodSizes afi vrf items → ⊥) → FlowsRefusal afi vrf flows TooLong FLOW
  unread : (items : List Item) {n : ℕ} → ListTaken afi vrf flows TooLong items → GoodSizes afi vrf items → FirstUnread items n → FlowsRefusal afi vrf flows TooLong n
  no_label : (items : List Item) → ListTaken afi vrf flows TooLong items → GoodSizes afi vrf items → AllAttributesRead items → (AllLabelled items → ⊥) → FlowsRefusal afi vrf flows TooLong LABEL
  no_tunnel : (items : List Item) → ListTaken afi vrf flows TooLong items → GoodSizes afi vrf items → AllLabelled items → (AllTunnelled items → ⊥)
      → FlowsRefusal afi vrf flows TooLong TUNNEL
  conflict : (items : List Item) → ListTaken afi vrf flows TooLong items → GoodSizes afi vrf items → AllLabelled items → AllTunnelled items → Conflict items
      → FlowsRefusal afi vrf flows TooLong 20
