-- What holds of the match for a shared tree (RFC 6625, section 3.2.2; request W-201), said by what the lent lists hold: the section's conditions,
-- each refusal in its order, and what is chosen and answered. Stated here, proved in proofs/Statements/SharedTreeRule.antt.
use Rattle.std.specs.Prelude.{ℕ, ◌≤◌, ◌<◌, ◌≡◌, true, List, [], ◌∷◌, ◌++◌, ◌↔◌, ◌⊎◌, length}
use Rattle.octets.specs.Numbers.{LONG, SHORT, FLOW, SPACE}
use Rattle.octets.specs.Outcome.{given, refused}
use Rattle.octets.specs.Lists.{Among}
use Rattle.lists.specs.LentLists.{Item, list_count, read_list}
use Rattle.nlri.specs.Fields.{Fields}
use Rattle.nlri.specs.Groups.{Multicast}
use Rattle.groups.specs.Rules.ClassRule.{GoodPrefixes, PrefixRefusal, Specific}
use Rattle.routes.specs.Route.{Route, Distinct}
use Rattle.routes.specs.Query.{Query}
use Rattle.routes.specs.SharedTree.{SharedTree, read_tree}
use Rattle.routes.specs.Asked.{of_shared_tree}
use Rattle.routes.specs.Table.{afi_in}
use Rattle.routes.specs.Calls.{match_of}
use Rattle.routes.specs.Matching.{nothing, found, match_in}
use Rattle.routes.specs.Rules.ArgumentRules.{RouterSized, FamilySized, NlriOfType, TypeRefusal}
use Rattle.routes.specs.Rules.MatchRule.{Taken, NoneTaken, TableMatch}

-- a well-formed Source Active NLRI: of type 5
abbrev pub SourceActive : (afi : ℕ) → (nlri : List ℕ) → Type 0
SourceActive afi nlri = NlriOfType 5 afi nlri

-- the items that the two lists hold: of a Source Active route its originator and its NLRI, of a state its source and its group
pub record Lent (tree : SharedTree) : Type 0 where
  pub source_actives : List Item
  pub states : List Item
  pub routes_read : read_list 2 tree.source_actives ≡ given source_actives
  pub states_read : read_list 2 tree.states ≡ given states

-- a Source Active route for the group, originated by the PE, to which no (C-S,C-G) state corresponds
pub record WithoutState (afi : ℕ) (tree : SharedTree) : Type 0 where
  pub lent : Lent tree
  pub nlri : List ℕ
  pub installed : Among (tree.router ∷ (nlri ∷ [])) lent.source_actives
  pub named : SourceActive afi nlri
  pub of_group : named.fields.group ≡ tree.group
  pub stateless : Among (named.fields.source ∷ (tree.group ∷ [])) lent.states → ⊥

-- the conditions of section 3.2.2, in its order; they are the same for (C-*,C-G) and for (C-*,C-*) routes
pub data Condition (afi : ℕ) (tree : SharedTree) : Type 0 where
  -- the PE is the "upstream" PE for the C-RP of C-G
  is_upstream : tree.upstream ≡ true → Condition afi tree
  -- one or more Source Active routes for C-G originated by the PE are installed, and for at least one of them there is no corresponding (C-S,C-G) state
  is_without_state : WithoutState afi tree → Condition afi tree
  -- C-G is a BIDIR-PIM group
  is_bidirectional : tree.bidirectional ≡ true → Condition afi tree
  -- Source Active routes are not being used
  is_unused : tree.unused ≡ true → Condition afi tree

-- the conditions of the tiers: (C-*,C-G) as tier 3 and (C-*,C-*) as tier 4, each where the group, which is multicast, is ASM, that is not SSM, and
-- a condition of section 3.2.2 holds. No route is of another tier
pub data InSharedTier (afi : ℕ) (tree : SharedTree) : (tier : ℕ) → Fields → Type 0 where
  shared_group : {f : Fields} → f.source ≡ [] → f.group ≡ tree.group → (Specific afi tree.prefixes tree.group → ⊥) → Condition afi tree → InSharedTier afi tree 3 f
  shared_wildcard : {f : Fields} → f.source ≡ [] → f.group ≡ [] → (Specific afi tree.prefixes tree.group → ⊥) → Condition afi tree → InSharedTier afi tree 4 f

-- neither list says more than 256 items
pub record FewItems (tree : SharedTree) : Type 0 where
  pub source_actives : list_count tree.source_actives ≤ 256
  pub states : list_count tree.states ≤ 256

-- every address is of its size: the PE's and each originator of 4 or 16 octets, each state's source and group of the family's; and the group is
-- a multicast address of the family
pub record Addressed (afi : ℕ) (tree : SharedTree) (lent : Lent tree) : Type 0 where
  pub router : RouterSized tree.router
  pub originators : (originator nlri : List ℕ) → Among (originator ∷ (nlri ∷ [])) lent.source_actives → RouterSized originator
  pub states : (source group : List ℕ) → Among (source ∷ (group ∷ [])) lent.states → FamilySized afi source × FamilySized afi group
  pub multicast : Multicast afi tree.group

-- every one of these items has a well-formed Source Active NLRI
abbrev pub AllRead : (afi : ℕ) → List Item → Type 0
AllRead afi items = (originator nlri : List ℕ) → Among (originator ∷ (nlri ∷ [])) items → SourceActive afi nlri

-- a shared tree that the match takes
pub record GoodTree (afi : ℕ) (tree : SharedTree) : Type 0 where
  pub prefixed : GoodPrefixes afi tree.prefixes
  pub few : FewItems tree
  pub lent : Lent tree
  pub addressed : Addressed afi tree lent
  pub read : AllRead afi lent.source_actives

-- the first Source Active route that is refused decides: those before it are well-formed
pub record FirstRefused (afi : ℕ) (items : List Item) (n : ℕ) : Type 0 where
  pub earlier : List Item
  pub originator : List ℕ
  pub nlri : List ℕ
  pub later : List Item
  pub is : items ≡ earlier ++ ((originator ∷ (nlri ∷ [])) ∷ later)
  pub read : AllRead afi earlier
  pub refuses : TypeRefusal 5 afi nlri n

-- why the match for a shared tree refuses its arguments, in order: its prefixes, LONG for either list, SHORT for either, FLOW for any address, then each Source
-- Active route in turn by NLRI reading and KIND, and SPACE for an output under 124 octets
pub data SharedTreeRefusal (afi : ℕ) (tree : SharedTree) (output : List ℕ) : ℕ → Type 0 where
  bad_tree_prefixes : {n : ℕ} → PrefixRefusal afi tree.prefixes n → SharedTreeRefusal afi tree output n
  long_list : GoodPrefixes afi tree.prefixes → (256 < list_count tree.source_actives) ⊎ (256 < list_count tree.states) → SharedTreeRefusal afi tree output LONG
  short_list : GoodPrefixes afi tree.prefixes → FewItems tree → (read_list 2 tree.source_actives ≡ refused SHORT) ⊎ (read_list 2 tree.states ≡ refused SHORT) → SharedTreeRefusal afi tree output SHORT
  bad_address : GoodPrefixes afi tree.prefixes → FewItems tree → (lent : Lent tree) → (Addressed afi tree lent → ⊥) → SharedTreeRefusal afi tree output FLOW
  bad_source_active : {n : ℕ} → GoodPrefixes afi tree.prefixes → FewItems tree → (lent : Lent tree) → Addressed afi tree lent → FirstRefused afi lent.source_actives n → SharedTreeRefusal afi tree output n
  too_small : GoodTree afi tree → length output < 124 → SharedTreeRefusal afi tree output SPACE

-- the match for a shared tree: what it chooses, and what it answers
pub record SharedTreeRule : Type 0 where
  -- over any routes with no NLRI twice, in any order
  pub chosen : (afi : ℕ) (tree : SharedTree) (output : List ℕ) (q : Query) (rs : List Route) → read_tree afi tree output ≡ given q → Distinct rs
      → (tier : ℕ) (r : Route) → (match_in afi q rs ≡ found tier r) ↔ Taken afi tree.router (InSharedTier afi tree) rs tier r
  pub none : (afi : ℕ) (tree : SharedTree) (output : List ℕ) (q : Query) (rs : List Route) → read_tree afi tree output ≡ given q
      → (match_in afi q rs ≡ nothing) ↔ NoneTaken afi tree.router (InSharedTier afi tree) rs
  -- a tree of an SSM group takes no route, whatever is told of it
  pub specific : (t : List ℕ) (tree : SharedTree) (output : List ℕ) → Specific (afi_in t) tree.prefixes tree.group → (match_of t (of_shared_tree tree) output).answer.tier ≡ 0
  -- over a table
  pub table : (tree : SharedTree) → TableMatch (of_shared_tree tree) tree.router (λ afi. GoodTree afi tree) (λ output afi. SharedTreeRefusal afi tree output) (λ afi. InSharedTier afi tree)
