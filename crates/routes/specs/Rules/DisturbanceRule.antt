-- What one change of a table can disturb (request W-213): when the answer of a match stays as it was, octet for octet, after a withdrawal, an install,
-- a mark or a sweep, and when it does not. The answer is all that a caller gets: number, tier, both sizes, and the output afterwards, for the same
-- output given. Of every table, every match of either kind with all its arguments, and every output. Stated here, proved in
-- proofs/Statements/DisturbanceRule.antt; the law behind it is `untaken` of MatchRule.antt.
use Rattle.std.specs.Prelude.{ℕ, ◌≤◌, ◌<◌, ◌≡◌, true, false, List, [], ◌∷◌, ◌↔◌, length}
use Rattle.octets.specs.Numbers.{DONE}
use Rattle.octets.specs.Octets.{part}
use Rattle.octets.specs.Order.{zeros}
use Rattle.nlri.specs.Fields.{Fields}
use Rattle.routes.specs.declared.Matched.{Matched}
use Rattle.routes.specs.Route.{Route, route, nlri_of, attribute_of, stale_of}
use Rattle.routes.specs.Query.{flow_of}
use Rattle.routes.specs.Asked.{Asked, of_flow, of_shared_tree, asked_router}
use Rattle.routes.specs.Table.{afi_in, routes_of, sound_of}
use Rattle.routes.specs.Restart.{RestartCall}
use Rattle.octets.specs.Outputs.{Changed}
use Rattle.routes.specs.Calls.{make_of, install_of, withdraw_of, restart_of, mark_of, sweep_of, match_of}
use Rattle.routes.specs.Rules.MatchRule.{InTier, NamesTunnel, Taken, Told}
use Rattle.routes.specs.Rules.SharedTreeRule.{InSharedTier}
use Rattle.routes.specs.Rules.Examples.{no_prefixes, some_router, some_source, tunnel_by, some_label, route_a, route_b, route_c, route_d, route_e, some_table, some_output, told_route, told_none}

-- the route answered has this NLRI, as a caller sees it: a tier is told, and the NLRI stands at the front of the output
pub record IsAnswered (nlri : List ℕ) (changed : Changed Matched) : Type 0 where
  pub some : 0 < changed.answer.tier
  pub named : part changed.octets 0 changed.answer.nlri_size ≡ nlri

-- the conditions of the tiers, by the kind of match
abbrev pub Conditions : (afi : ℕ) → Asked → (tier : ℕ) → Fields → Type 0
Conditions afi (of_flow flow) = InTier afi flow
Conditions afi (of_shared_tree tree) = InSharedTier afi tree

-- the route answered: taken of the routes that the table holds, so of the router asked and naming a tunnel, and told
pub record RouteAnswered (t : List ℕ) (asked : Asked) (output : List ℕ) (r : Route) : Type 0 where
  pub tier : ℕ
  pub taken : Taken (afi_in t) (asked_router asked) (Conditions (afi_in t) asked) (routes_of t) tier r
  pub told : Told tier r output (match_of t asked output)

-- what an install does to an answer
pub data Effect (t nlri attribute : List ℕ) (asked : Asked) (output : List ℕ) : Type 0 where
  -- nothing
  unchanged : match_of (install_of t nlri attribute).octets asked output ≡ match_of t asked output → Effect t nlri attribute asked output
  -- it replaces the route answered
  replaces : IsAnswered nlri (match_of t asked output) → (install_of t nlri attribute).answer ≡ record { number = DONE; outcome = 2 } → Effect t nlri attribute asked output
  -- its route is the one answered afterwards
  becomes : (install_of t nlri attribute).answer.number ≡ DONE → RouteAnswered (install_of t nlri attribute).octets asked output (route nlri attribute) → Effect t nlri attribute asked output

-- no withdrawal and no install of this NLRI changes the answer, on any sound table of the family and with any output
pub record Undisturbed (afi : ℕ) (nlri : List ℕ) (asked : Asked) : Type 0 where
  pub withdrawn : (t output : List ℕ) → sound_of t ≡ true → afi_in t ≡ afi → match_of (withdraw_of t nlri).octets asked output ≡ match_of t asked output
  pub installed : (t attribute output : List ℕ) → sound_of t ≡ true → afi_in t ≡ afi → match_of (install_of t nlri attribute).octets asked output ≡ match_of t asked output

-- what one change can disturb
pub record DisturbanceRule : Type 0 where
  -- what a caller sees to be answered is the route that is taken and told
  pub answered : (t nlri : List ℕ) (asked : Asked) (output : List ℕ) → IsAnswered nlri (match_of t asked output) ↔ ((r : Route) × (nlri_of r ≡ nlri) × RouteAnswered t asked output r)
  -- withdrawing any route but the one answered leaves the answer
  pub withdrawn : (t nlri : List ℕ) (asked : Asked) (output : List ℕ) → (IsAnswered nlri (match_of t asked output) → ⊥)
      → match_of (withdraw_of t nlri).octets asked output ≡ match_of t asked output
  -- withdrawing that one is done, and it is answered no more; so a refused withdrawal leaves every answer
  pub gone : (t nlri : List ℕ) (asked : Asked) (output : List ℕ) → IsAnswered nlri (match_of t asked output)
      → ((withdraw_of t nlri).answer ≡ DONE) × (IsAnswered nlri (match_of (withdraw_of t nlri).octets asked output) → ⊥)
  -- an install changes the answer only if it is done, and replaces the route answered, or its route is the one answered afterwards
  pub installed : (t nlri attribute : List ℕ) (asked : Asked) (output : List ℕ) → Effect t nlri attribute asked output
  -- a mark or a sweep leaves the answer, unless the router named is the one asked, and the route answered is marked; that others get marks, or lose
  -- them, or go, disturbs nothing
  pub restarted : (which : RestartCall) (t router : List ℕ) (asked : Asked) (output : List ℕ)
      → ((r : Route) → RouteAnswered t asked output r → router ≡ asked_router asked → stale_of r ≡ true → ⊥)
      → match_of (restart_of which t router).octets asked output ≡ match_of t asked output
  -- then it is done, and that route is answered no more
  pub went : (which : RestartCall) (t : List ℕ) (asked : Asked) (output : List ℕ) (r : Route) → RouteAnswered t asked output r → stale_of r ≡ true
      → ((restart_of which t (asked_router asked)).answer.number ≡ DONE) × (IsAnswered (nlri_of r) (match_of (restart_of which t (asked_router asked)).octets asked output) → ⊥)
  -- which matches to ask again after a change of an NLRI, by a table just made in which it stands alone, with any attribute that names a tunnel: a
  -- match there, in an output of 124 octets or more, says tier 0 exactly when no change of that NLRI disturbs its answer
  pub ask_again : (afi : ℕ) (memory nlri attribute : List ℕ) (asked : Asked) (output : List ℕ) → 124 ≤ length output
      → (make_of afi memory).answer ≡ DONE → (install_of (make_of afi memory).octets nlri attribute).answer.number ≡ DONE → NamesTunnel attribute
      → ((match_of (install_of (make_of afi memory).octets nlri attribute).octets asked output).answer.tier ≡ 0) ↔ Undisturbed afi nlri asked

-- (192.0.2.1, 232.1.1.1) asked of 10.0.0.1
abbrev pub some_flow : Asked
some_flow = of_flow (flow_of no_prefixes some_router some_source (232 ∷ 1 ∷ 1 ∷ 1 ∷ []))

-- the shared tree of 239.1.1.1 asked of 10.0.0.1, which is upstream
abbrev pub some_tree : Asked
some_tree =
    of_shared_tree
    (record {
      prefixes = no_prefixes;
      router = some_router;
      group = 239 ∷ 1 ∷ 1 ∷ 1 ∷ [];
      upstream = true;
      bidirectional = false;
      unused = false;
      source_actives = 0 ∷ 0 ∷ [];
      states = 0 ∷ 0 ∷ [];
    })

-- changes that do disturb, and some that do not, on the table of the examples (Examples.antt), where A is answered to that flow and C to that tree
pub record DisturbanceExamples : Type 0 where
  pub flow : match_of some_table some_flow some_output ≡ told_route 1 route_a 24 17 83
  pub tree : match_of some_table some_tree some_output ≡ told_route 3 route_c 20 22 82
  -- A withdrawn: B; and C withdrawn: D
  pub gone : match_of (withdraw_of some_table (nlri_of route_a)).octets some_flow some_output ≡ told_route 2 route_b 20 13 91
  pub tree_gone : match_of (withdraw_of some_table (nlri_of route_c)).octets some_tree some_output ≡ told_route 4 route_d 16 9 99
  -- B withdrawn: A still
  pub left : match_of (withdraw_of some_table (nlri_of route_b)).octets some_flow some_output ≡ told_route 1 route_a 24 17 83
  -- A replaced: A with the attribute of E; by one of tunnel type 0: B
  pub replaced : match_of (install_of some_table (nlri_of route_a) (attribute_of route_e)).octets some_flow some_output ≡ told_route 1 (route (nlri_of route_a) (attribute_of route_e)) 24 12 88
  pub tunnelless : match_of (install_of some_table (nlri_of route_a) (tunnel_by 0 some_label [])).octets some_flow some_output ≡ told_route 2 route_b 20 13 91
  -- A withdrawn, and installed again: it becomes the answer
  pub become : match_of (install_of (withdraw_of some_table (nlri_of route_a)).octets (nlri_of route_a) (attribute_of route_a)).octets some_flow some_output ≡ told_route 1 route_a 24 17 83
  -- all marked: A still; then swept: none
  pub marked : match_of (mark_of some_table some_router).octets some_flow some_output ≡ told_route 1 route_a 24 17 83
  pub swept : match_of (sweep_of (mark_of some_table some_router).octets some_router).octets some_flow some_output ≡ told_none
  -- A alone in a table of one place: to be asked again after a change of A are that flow, and not that tree
  pub again : (match_of (install_of (make_of 1 (zeros 136)).octets (nlri_of route_a) (attribute_of route_a)).octets some_flow some_output).answer.tier ≡ 1
  pub never : (match_of (install_of (make_of 1 (zeros 136)).octets (nlri_of route_a) (attribute_of route_a)).octets some_tree some_output).answer.tier ≡ 0
