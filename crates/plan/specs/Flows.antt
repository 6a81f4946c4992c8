-- Flows that routes are planned for (document 02, W-214), each with its wanted attribute, and the VRF whose routes these are.
use Rattle.std.specs.Prelude.{ℕ, Bool, false, List, [], ◌∷◌}
use Rattle.octets.specs.Choice.{pick, both, either}
use Rattle.octets.specs.Order.{same}
use Rattle.lists.specs.LentLists.{Item, item_field}
use Rattle.routes.specs.Query.{Flow, flow_of}

-- the VRF that routes are planned for: the prefixes by which the class of its groups is told, a lent list (request W-209), and the originator and
-- the route distinguisher of its routes
pub record Vrf : Type 0 where
  pub prefixes : List ℕ
  pub originator : List ℕ
  pub distinguisher : List ℕ

-- the VRF of a call's arguments
abbrev pub vrf_of : (prefixes originator distinguisher : List ℕ) → Vrf
vrf_of prefixes originator distinguisher = record { prefixes = prefixes; originator = originator; distinguisher = distinguisher }

-- a flow as it is listed: its source, its group, and the octets of the attribute wanted for it
pub record ListedFlow : Type 0 where
  pub source : List ℕ
  pub group : List ℕ
  pub wanted : List ℕ

-- what a match asks for it: of the originator, under the prefixes
abbrev pub asking : Vrf → ListedFlow → Flow
asking vrf f = flow_of vrf.prefixes vrf.originator f.source f.group

-- the flow of an item of a lent list
unfoldable pub flow_in : Item → ListedFlow
flow_in x = record { source = item_field 0 x; group = item_field 1 x; wanted = item_field 2 x }

-- the flows of a list's items
unfoldable pub flows_in : List Item → List ListedFlow
flows_in [] = []
flows_in (x ∷ xs) = flow_in x ∷ flows_in xs

-- one flow: the same source and the same group
unfoldable pub same_flow : ListedFlow → ListedFlow → Bool
same_flow f g = both (same f.source g.source) (same f.group g.group)

-- a flow is listed among these
unfoldable pub is_listed : ListedFlow → List ListedFlow → Bool
is_listed f [] = false
is_listed f (g ∷ gs) = either (same_flow f g) (is_listed f gs)

-- the different flows, each where it is listed last
unfoldable pub different : List ListedFlow → List ListedFlow
different [] = []
different (f ∷ fs) = pick (is_listed f fs) (different fs) (f ∷ different fs)
