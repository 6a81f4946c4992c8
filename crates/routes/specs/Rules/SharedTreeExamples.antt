-- The match for a shared tree (RFC 6625, section 3.2.2; document 02, W-201) by examples in literal octets, on the table of P1 to P12 (Examples.antt): of
-- 10.0.0.1 it has C (*, 239.1.1.1), D (*, *) and E (*, 232.9.9.9), beside routes with a source. Proved in proofs/Statements/Marked.antt.
use Rattle.std.specs.Prelude.{ℕ, ◌≡◌, Bool, true, false, List, [], ◌∷◌, ◌++◌, replicate}
use Rattle.octets.specs.Outputs.{Changed}
use Rattle.routes.specs.declared.Matched.{Matched}
use Rattle.routes.specs.Route.{nlri_of, attribute_of}
use Rattle.routes.specs.Asked.{Asked, of_shared_tree}
use Rattle.routes.specs.Calls.{install_of, withdraw_of, match_of}
use Rattle.routes.specs.Rules.Examples.{route_a, route_c, route_d, some_table}
use Rattle.routes.specs.Rules.ReasonExamples.{output_with_c, output_with_d}

-- a Source Active route in a list: its originator 10.0.0.o, then its NLRI, of an RD that ends in rd, for 192.0.2.s and 239.1.1.g; each behind its size
abbrev pub active_item : (o rd s g : ℕ) → List ℕ
active_item o rd s g = 0 ∷ 4 ∷ 10 ∷ 0 ∷ 0 ∷ o ∷ 0 ∷ 20 ∷ 5 ∷ 18 ∷ 0 ∷ 0 ∷ 0 ∷ 100 ∷ 0 ∷ 0 ∷ 0 ∷ rd ∷ 32 ∷ 192 ∷ 0 ∷ 2 ∷ s ∷ 32 ∷ 239 ∷ 1 ∷ 1 ∷ g ∷ []

-- an item with these octets as its NLRI, so many, of originator 10.0.0.1
abbrev pub item_with : (size : ℕ) (nlri : List ℕ) → List ℕ
item_with size nlri = 0 ∷ 4 ∷ 10 ∷ 0 ∷ 0 ∷ 1 ∷ 0 ∷ size ∷ nlri

-- the state of 192.0.2.s and 239.1.1.g in a list
abbrev pub state_item : (s g : ℕ) → List ℕ
state_item s g = 0 ∷ 4 ∷ 192 ∷ 0 ∷ 2 ∷ s ∷ 0 ∷ 4 ∷ 239 ∷ 1 ∷ 1 ∷ g ∷ []

-- a list of no items
abbrev pub no_items : List ℕ
no_items = 0 ∷ 0 ∷ []

-- a shared tree with all that is lent
abbrev pub tree_with : (prefixes router group : List ℕ) (upstream bidirectional unused : Bool) (source_actives states : List ℕ) → Asked
tree_with prefixes router group upstream bidirectional unused source_actives states =
    of_shared_tree
    (record {
      prefixes = prefixes;
      router = router;
      group = group;
      upstream = upstream;
      bidirectional = bidirectional;
      unused = unused;
      source_actives = source_actives;
      states = states;
    })

-- that of 239.1.1.g asked of 10.0.0.1, with no list and these facts: the PE is upstream; the group is BIDIR; Source Active routes are not being used
abbrev pub told_tree : (g : ℕ) (upstream bidirectional unused : Bool) → Asked
told_tree g upstream bidirectional unused = tree_with no_items (10 ∷ 0 ∷ 0 ∷ 1 ∷ []) (239 ∷ 1 ∷ 1 ∷ g ∷ []) upstream bidirectional unused no_items no_items

-- that of 239.1.1.g asked of 10.0.0.1, with these lists and no fact
abbrev pub listed_tree : (g : ℕ) (source_actives states : List ℕ) → Asked
listed_tree g source_actives states = tree_with no_items (10 ∷ 0 ∷ 0 ∷ 1 ∷ []) (239 ∷ 1 ∷ 1 ∷ g ∷ []) false false false source_actives states

-- a tree asked of the table of the examples, with an output of 124 octets of 255
abbrev pub tree_match : Asked → Changed Matched
tree_match asked = match_of some_table asked (replicate 124 255)

-- C is told as tier 3
abbrev pub answers_c : Changed Matched
answers_c = record { answer = record { number = 0; tier = 3; nlri_size = 20; attribute_size = 22 }; octets = output_with_c }

-- D is told as tier 4
abbrev pub answers_d : Changed Matched
answers_d = record { answer = record { number = 0; tier = 4; nlri_size = 16; attribute_size = 9 }; octets = output_with_d }

-- tier 0, both sizes 0, the output as it was
abbrev pub answers_none : Changed Matched
answers_none = record { answer = record { number = 0; tier = 0; nlri_size = 0; attribute_size = 0 }; octets = replicate 124 255 }

-- an S-PMSI NLRI (*, 239.1.1.1) of RD 100:6
abbrev pub lower_c : List ℕ
lower_c = 3 ∷ 18 ∷ 0 ∷ 0 ∷ 0 ∷ 100 ∷ 0 ∷ 0 ∷ 0 ∷ 6 ∷ 0 ∷ 32 ∷ 239 ∷ 1 ∷ 1 ∷ 1 ∷ 10 ∷ 0 ∷ 0 ∷ 1 ∷ []

-- a tree with no fact told of it, asked of a table of AFI 1 and no places, with an output of one octet
abbrev pub refused_match : (prefixes router group source_actives states : List ℕ) → Changed Matched
refused_match prefixes router group source_actives states =
    match_of (77 ∷ 86 ∷ 84 ∷ 0 ∷ 1 ∷ 1 ∷ 0 ∷ 0 ∷ []) (tree_with prefixes router group false false false source_actives states) (255 ∷ [])

-- the same for 239.1.1.1 asked of 10.0.0.1
abbrev pub refused_lists : (source_actives states : List ℕ) → Changed Matched
refused_lists source_actives states = refused_match no_items (10 ∷ 0 ∷ 0 ∷ 1 ∷ []) (239 ∷ 1 ∷ 1 ∷ 1 ∷ []) source_actives states

-- refused: empty fields, and the output as it was
abbrev pub tree_refused : (number : ℕ) (output : List ℕ) → Changed Matched
tree_refused number output = record { answer = record { number = number; tier = 0; nlri_size = 0; attribute_size = 0 }; octets = output }

-- each of these is so, by computation
pub record SharedTreeExamples : Type 0 where
  -- 239.1.1.1: no condition of section 3.2.2; then each of the four alone, in its order
  pub no_condition : tree_match (told_tree 1 false false false) ≡ answers_none
  pub is_upstream : tree_match (told_tree 1 true false false) ≡ answers_c
  pub is_without_state : tree_match (listed_tree 1 (0 ∷ 1 ∷ active_item 1 7 1 1) no_items) ≡ answers_c
  pub is_bidirectional : tree_match (told_tree 1 false true false) ≡ answers_c
  pub is_unused : tree_match (told_tree 1 false false true) ≡ answers_c
  -- 239.1.1.2, for which only D is there: the same
  pub wildcard_no_condition : tree_match (told_tree 2 false false false) ≡ answers_none
  pub wildcard_upstream : tree_match (told_tree 2 true false false) ≡ answers_d
  pub wildcard_without_state : tree_match (listed_tree 2 (0 ∷ 1 ∷ active_item 1 7 1 2) no_items) ≡ answers_d
  pub wildcard_bidirectional : tree_match (told_tree 2 false true false) ≡ answers_d
  pub wildcard_unused : tree_match (told_tree 2 false false true) ≡ answers_d
  -- a Source Active route whose state is there; a state of another source; of another group
  pub with_state : tree_match (listed_tree 1 (0 ∷ 1 ∷ active_item 1 7 1 1) (0 ∷ 1 ∷ state_item 1 1)) ≡ answers_none
  pub other_source : tree_match (listed_tree 1 (0 ∷ 1 ∷ active_item 1 7 1 1) (0 ∷ 1 ∷ state_item 2 1)) ≡ answers_c
  pub other_group : tree_match (listed_tree 1 (0 ∷ 1 ∷ active_item 1 7 1 1) (0 ∷ 1 ∷ state_item 1 2)) ≡ answers_c
  -- two Source Active routes: the states of both are there; that of the first alone
  pub both_states : tree_match (listed_tree 1 (0 ∷ 2 ∷ (active_item 1 7 1 1 ++ active_item 1 7 2 1)) (0 ∷ 2 ∷ (state_item 2 1 ++ state_item 1 1))) ≡ answers_none
  pub one_state : tree_match (listed_tree 1 (0 ∷ 2 ∷ (active_item 1 7 1 1 ++ active_item 1 7 2 1)) (0 ∷ 1 ∷ state_item 1 1)) ≡ answers_c
  -- one of another originator does not count, nor one for another group; its RD does not matter
  pub other_originator : tree_match (listed_tree 1 (0 ∷ 1 ∷ active_item 2 7 1 1) no_items) ≡ answers_none
  pub active_elsewhere : tree_match (listed_tree 1 (0 ∷ 1 ∷ active_item 1 7 1 2) no_items) ≡ answers_none
  pub other_rd : tree_match (listed_tree 1 (0 ∷ 1 ∷ active_item 1 9 1 1) no_items) ≡ answers_c
  -- asked of 10.0.0.2, which has no route
  pub other_router : tree_match (tree_with no_items (10 ∷ 0 ∷ 0 ∷ 2 ∷ []) (239 ∷ 1 ∷ 1 ∷ 1 ∷ []) true true true no_items no_items) ≡ answers_none
  -- an SSM group, though E is there for it: by the standard range, and 239.1.1.1 by the prefix 239.1.0.0/16; by that prefix 232.9.9.9 is ASM, and E is told
  pub ssm : tree_match (tree_with no_items (10 ∷ 0 ∷ 0 ∷ 1 ∷ []) (232 ∷ 9 ∷ 9 ∷ 9 ∷ []) true true true no_items no_items) ≡ answers_none
  pub prefixed_ssm : tree_match (tree_with (0 ∷ 1 ∷ 0 ∷ 5 ∷ 16 ∷ 239 ∷ 1 ∷ 0 ∷ 0 ∷ []) (10 ∷ 0 ∷ 0 ∷ 1 ∷ []) (239 ∷ 1 ∷ 1 ∷ 1 ∷ []) true true true no_items no_items) ≡ answers_none
  pub prefixed_asm : tree_match (tree_with (0 ∷ 1 ∷ 0 ∷ 5 ∷ 16 ∷ 239 ∷ 1 ∷ 0 ∷ 0 ∷ []) (10 ∷ 0 ∷ 0 ∷ 1 ∷ []) (232 ∷ 9 ∷ 9 ∷ 9 ∷ []) true false false no_items no_items)
      ≡ record {
        answer = record { number = 0; tier = 3; nlri_size = 20; attribute_size = 12 };
        octets = 3 ∷ 18 ∷ 0 ∷ 0 ∷ 0 ∷ 100 ∷ 0 ∷ 0 ∷ 0 ∷ 7 ∷ 0 ∷ 32 ∷ 232 ∷ 9 ∷ 9 ∷ 9 ∷ 10 ∷ 0 ∷ 0 ∷ 1 ∷ 0 ∷ 11 ∷ 0 ∷ 1 ∷ 0 ∷ 0 ∷ 0 ∷ 1 ∷ 10 ∷ 0 ∷ 0 ∷ 1 ∷ replicate 92 255;
      }
  -- C with tunnel type 0 and no identifier: D
  pub tunnelless : match_of (install_of some_table (nlri_of route_c) (0 ∷ 0 ∷ 0 ∷ 1 ∷ 0 ∷ [])).octets (told_tree 1 true false false) (replicate 124 255) ≡ answers_d
  -- in the place of A a second (*, 239.1.1.1) route, of the lower RD 100:6 and with the tunnel of D: it is told
  pub lowest_rd : match_of (install_of (withdraw_of some_table (nlri_of route_a)).octets lower_c (attribute_of route_d)).octets (told_tree 1 true false false) (replicate 124 255)
      ≡ record {
        answer = record { number = 0; tier = 3; nlri_size = 20; attribute_size = 9 };
        octets = 3 ∷ 18 ∷ 0 ∷ 0 ∷ 0 ∷ 100 ∷ 0 ∷ 0 ∷ 0 ∷ 6 ∷ 0 ∷ 32 ∷ 239 ∷ 1 ∷ 1 ∷ 1 ∷ 10 ∷ 0 ∷ 0 ∷ 1 ∷ 0 ∷ 6 ∷ 0 ∷ 1 ∷ 0 ∷ 10 ∷ 0 ∷ 0 ∷ 1 ∷ replicate 95 255;
      }
  -- refusals in their order, each beside what a later one would refuse: no table; nine prefixes; 257 items of either list, though the other list ends
  -- before its items; then a list that ends before its 256 items, or has no count
  pub table : match_of [] (tree_with (0 ∷ 9 ∷ []) [] [] false false false (1 ∷ 1 ∷ []) []) (255 ∷ []) ≡ tree_refused 11 (255 ∷ [])
  pub range : refused_match (0 ∷ 9 ∷ []) [] [] (1 ∷ 1 ∷ []) [] ≡ tree_refused 18 (255 ∷ [])
  pub long_actives : refused_match no_items [] [] (1 ∷ 1 ∷ []) [] ≡ tree_refused 8 (255 ∷ [])
  pub long_states : refused_match no_items [] [] [] (1 ∷ 1 ∷ []) ≡ tree_refused 8 (255 ∷ [])
  pub short_actives : refused_match no_items [] [] (1 ∷ 0 ∷ []) no_items ≡ tree_refused 1 (255 ∷ [])
  pub short_states : refused_match no_items [] [] no_items [] ≡ tree_refused 1 (255 ∷ [])
  -- FLOW: a router of 3 octets; a group that is not multicast, or of 3 octets; an originator of 3 octets, though its NLRI has an unknown type; a state's
  -- source of 3 octets, or group of 5, though the Source Active route has an unknown type
  pub router : refused_match no_items (10 ∷ 0 ∷ 0 ∷ []) (239 ∷ 1 ∷ 1 ∷ 1 ∷ []) (0 ∷ 1 ∷ item_with 2 (9 ∷ 0 ∷ [])) no_items ≡ tree_refused 15 (255 ∷ [])
  pub unicast : refused_match no_items (10 ∷ 0 ∷ 0 ∷ 1 ∷ []) (223 ∷ 1 ∷ 1 ∷ 1 ∷ []) (0 ∷ 1 ∷ item_with 2 (9 ∷ 0 ∷ [])) no_items ≡ tree_refused 15 (255 ∷ [])
  pub group_size : refused_match no_items (10 ∷ 0 ∷ 0 ∷ 1 ∷ []) (239 ∷ 1 ∷ 1 ∷ []) no_items no_items ≡ tree_refused 15 (255 ∷ [])
  pub originator_size : refused_lists (0 ∷ 1 ∷ 0 ∷ 3 ∷ 10 ∷ 0 ∷ 0 ∷ 0 ∷ 2 ∷ 9 ∷ 0 ∷ []) no_items ≡ tree_refused 15 (255 ∷ [])
  pub state_source : refused_lists (0 ∷ 1 ∷ item_with 2 (9 ∷ 0 ∷ [])) (0 ∷ 1 ∷ 0 ∷ 3 ∷ 192 ∷ 0 ∷ 2 ∷ 0 ∷ 4 ∷ 239 ∷ 1 ∷ 1 ∷ 1 ∷ []) ≡ tree_refused 15 (255 ∷ [])
  pub state_group : refused_lists (0 ∷ 1 ∷ item_with 2 (9 ∷ 0 ∷ [])) (0 ∷ 1 ∷ 0 ∷ 4 ∷ 192 ∷ 0 ∷ 2 ∷ 1 ∷ 0 ∷ 5 ∷ 239 ∷ 1 ∷ 1 ∷ 1 ∷ 1 ∷ []) ≡ tree_refused 15 (255 ∷ [])
  -- each Source Active route in turn: an unknown type before an Intra-AS route; that before an unknown type: KIND; a second one that has an octet more than
  -- its Length; one for an SSM group
  pub unread : refused_lists (0 ∷ 2 ∷ (item_with 2 (9 ∷ 0 ∷ []) ++ item_with 14 (1 ∷ 12 ∷ 0 ∷ 0 ∷ 0 ∷ 100 ∷ 0 ∷ 0 ∷ 0 ∷ 7 ∷ 10 ∷ 0 ∷ 0 ∷ 1 ∷ []))) no_items ≡ tree_refused 2 (255 ∷ [])
  pub kind : refused_lists (0 ∷ 2 ∷ (item_with 14 (1 ∷ 12 ∷ 0 ∷ 0 ∷ 0 ∷ 100 ∷ 0 ∷ 0 ∷ 0 ∷ 7 ∷ 10 ∷ 0 ∷ 0 ∷ 1 ∷ []) ++ item_with 2 (9 ∷ 0 ∷ []))) no_items ≡ tree_refused 12 (255 ∷ [])
  pub following : refused_lists (0 ∷ 2 ∷ (active_item 2 7 1 2 ++ item_with 21 (5 ∷ 18 ∷ 0 ∷ 0 ∷ 0 ∷ 100 ∷ 0 ∷ 0 ∷ 0 ∷ 7 ∷ 32 ∷ 192 ∷ 0 ∷ 2 ∷ 1 ∷ 32 ∷ 239 ∷ 1 ∷ 1 ∷ 1 ∷ 0 ∷ []))) no_items
      ≡ tree_refused 3 (255 ∷ [])
  pub discarded : refused_lists (0 ∷ 1 ∷ item_with 20 (5 ∷ 18 ∷ 0 ∷ 0 ∷ 0 ∷ 100 ∷ 0 ∷ 0 ∷ 0 ∷ 7 ∷ 32 ∷ 192 ∷ 0 ∷ 2 ∷ 1 ∷ 32 ∷ 232 ∷ 1 ∷ 1 ∷ 1 ∷ [])) no_items ≡ tree_refused 19 (255 ∷ [])
  -- an output of 123 octets, where C would be told, and where nothing would
  pub space : match_of some_table (told_tree 1 true false false) (replicate 123 255) ≡ tree_refused 16 (replicate 123 255)
  pub space_untold : match_of some_table (told_tree 1 false false false) (replicate 123 255) ≡ tree_refused 16 (replicate 123 255)
