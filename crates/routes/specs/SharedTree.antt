-- The match for a shared tree (C-*,C-G), asked of a PE (RFC 6625, section 3.2.2; request W-201): what the daemon tells, the refusals in their
-- order, which conditions make a route eligible, and what is asked then.
use Rattle.std.specs.Prelude.{ℕ, ◌*◌, Bool, false, not, List, [], length, ltb, leb, eqb}
use Rattle.octets.specs.Numbers.{DONE, LONG, FLOW, SPACE}
use Rattle.octets.specs.Choice.{pick, both, either}
use Rattle.octets.specs.Outcome.{Outcome, given, refused, on_outcome, unless, and_then, number_of}
use Rattle.octets.specs.Order.{same}
use Rattle.lists.specs.LentLists.{Item, item_field, list_count, list_items, read_list, first_item, every_item, some_item}
use Rattle.nlri.specs.Family.{family_bits, is_originator_size}
use Rattle.nlri.specs.Fields.{Fields}
use Rattle.nlri.specs.Reading.{read_of_type}
use Rattle.nlri.specs.Groups.{ASM}
use Rattle.groups.specs.Prefixes.{read_prefixes}
use Rattle.groups.specs.Classes.{class_in}
use Rattle.routes.specs.Query.{tiers_of, Query}

-- a shared tree, the PE asked, the prefixes by which its group's class is told (request W-209), and what the daemon tells: the PE is upstream for the
-- C-RP of the group; the group is a BIDIR-PIM group; Source Active routes are not being used; the Source Active routes, a lent list of originator
-- and NLRI; the states held, one of source and group
pub record SharedTree : Type 0 where
  pub prefixes : List ℕ
  pub router : List ℕ
  pub group : List ℕ
  pub upstream : Bool
  pub bidirectional : Bool
  pub unused : Bool
  pub source_actives : List ℕ
  pub states : List ℕ

-- the most items of either list
abbrev pub MOST_ITEMS : ℕ
MOST_ITEMS = 256

-- a Source Active route comes with an originator of 4 or 16 octets
unfoldable pub originator_sized : Item → Bool
originator_sized x = is_originator_size (length (item_field 0 x))

-- source and group of a state have the family's size
unfoldable pub state_sized : (bits : ℕ) → Item → Bool
state_sized bits x = both (eqb (8 * length (item_field 0 x)) bits) (eqb (8 * length (item_field 1 x)) bits)

-- the NLRI of an item that is to be a Source Active route: NLRI reading with no octets after it, then KIND where it is not type 5
unfoldable pub read_source_active : (afi : ℕ) → Item → Outcome Fields
read_source_active afi x = read_of_type 5 afi (item_field 1 x)

-- the number of the first of them that is refused, DONE where none is
unfoldable pub source_active_fault : (afi : ℕ) → List Item → ℕ
source_active_fault afi items = first_item (λ x. not (eqb (number_of (read_source_active afi x)) DONE)) (λ x. number_of (read_source_active afi x)) DONE items

-- RANGE and SHORT of the prefixes, LONG over 256 of either, SHORT for either, FLOW for any address of a wrong size and a group not multicast, then
-- each Source Active route in turn; else the group's class
unfoldable pub judged_tree : (afi : ℕ) → SharedTree → Outcome ℕ
judged_tree afi tree =
    and_then (family_bits afi) (λ bits.
    and_then (read_prefixes bits tree.prefixes) (λ items.
    unless (leb (list_count tree.source_actives) MOST_ITEMS) LONG
    (unless (leb (list_count tree.states) MOST_ITEMS) LONG
    (and_then (read_list 2 tree.source_actives) (λ source_actives.
    and_then (read_list 2 tree.states) (λ states.
    unless (is_originator_size (length tree.router)) FLOW
    (unless (every_item originator_sized source_actives) FLOW
    (unless (every_item (state_sized bits) states) FLOW
    (and_then (class_in bits items tree.group) (λ class.
    pick (eqb (source_active_fault afi source_actives) DONE) (given class) (refused (source_active_fault afi source_actives))))))))))))

-- a state has this source and this group
unfoldable pub is_state : (source group : List ℕ) → Item → Bool
is_state source group x = both (same (item_field 0 x) source) (same (item_field 1 x) group)

-- a Source Active route for the group, originated by the PE, to whose (C-S,C-G) no state corresponds
unfoldable pub lacks_state : (afi : ℕ) → SharedTree → Item → Bool
lacks_state afi tree x =
    on_outcome (λ number. false)
    (λ f. both (same (item_field 0 x) tree.router) (both (same f.group tree.group) (not (some_item (is_state f.source tree.group) (list_items 2 tree.states)))))
    (read_source_active afi x)

-- one of the conditions of section 3.2.2 holds, which are the same for (C-*,C-G) and for (C-*,C-*) routes
unfoldable pub condition_holds : (afi : ℕ) → SharedTree → Bool
condition_holds afi tree =
    either tree.upstream
    (either (some_item (lacks_state afi tree) (list_items 2 tree.source_actives))
    (either tree.bidirectional
    tree.unused))

-- routes are eligible for the tree: its group is ASM, and a condition holds
abbrev pub tree_open : (afi : ℕ) → SharedTree → (class : ℕ) → Bool
tree_open afi tree class = both (eqb class ASM) (condition_holds afi tree)

-- what a shared tree asks: the (C-*,C-G) route as tier 3, else the (C-*,C-*) route as tier 4. Neither has a source
unfoldable pub tree_query : (afi : ℕ) → SharedTree → (class : ℕ) → Query
tree_query afi tree class = record { router = tree.router; tiers = tiers_of [] tree.group false false (tree_open afi tree class) (tree_open afi tree class) }

-- the match for a shared tree, after TABLE: the refusals above, then SPACE for an output under 124 octets
unfoldable pub read_tree : (afi : ℕ) → SharedTree → (output : List ℕ) → Outcome Query
read_tree afi tree output = and_then (judged_tree afi tree) (λ class. pick (ltb (length output) 124) (refused SPACE) (given (tree_query afi tree class)))
