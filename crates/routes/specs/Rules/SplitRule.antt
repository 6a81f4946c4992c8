-- Routes kept in several tables (request W-213): one match over all of them by two calls, each on a small table. Stated here, proved in
-- proofs/Statements/SplitRule.antt.
use Rattle.std.specs.Prelude.{ℕ, ◌≡◌, true, List, [], ◌≢◌, ◌⊎◌, eqb}
use Rattle.octets.specs.Numbers.{DONE}
use Rattle.octets.specs.Choice.{pick}
use Rattle.octets.specs.Outcome.{given, and_then}
use Rattle.octets.specs.Lists.{Among}
use Rattle.routes.specs.declared.Matched.{Matched}
use Rattle.routes.specs.Route.{Route, nlri_of, Distinct}
use Rattle.routes.specs.Query.{Flow}
use Rattle.routes.specs.SharedTree.{SharedTree}
use Rattle.routes.specs.Asked.{Asked, of_flow, of_shared_tree, asked_router, read_asked}
use Rattle.routes.specs.Place.{AllAcceptable}
use Rattle.routes.specs.Table.{afi_in, routes_of, sound_of}
use Rattle.routes.specs.Matching.{match_in}
use Rattle.octets.specs.Outputs.{Changed}
use Rattle.routes.specs.Answers.{matched_by}
use Rattle.routes.specs.Calls.{match_of}
use Rattle.routes.specs.Rules.ArgumentRules.{SPmsi}
use Rattle.routes.specs.Rules.MatchRule.{Eligible, MatchAnswer}
use Rattle.routes.specs.Rules.DisturbanceRule.{Conditions}

-- what a match answers over any routes of a family, however many, and the output afterwards
unfoldable pub match_over : (afi : ℕ) → List Route → Asked → (output : List ℕ) → Changed Matched
match_over afi rs asked output = matched_by (and_then (read_asked afi asked output) (λ q. given (match_in afi q rs))) output

-- routes that are some of all
abbrev pub SomeOf : (rs all : List Route) → Type 0
SomeOf rs all = (r : Route) → Among r rs → Among r all

-- two lists that serve a match: of all routes that are eligible for it each of tier 1 stands in the first, each of another tier in the second. Either
-- may hold more
pub record SplitRoutes (afi : ℕ) (asked : Asked) (all one two : List Route) : Type 0 where
  pub exact : (r : Route) → Among r all → Eligible afi (asked_router asked) (Conditions afi asked) 1 r → Among r one
  pub others : (tier : ℕ) (r : Route) → tier ≢ 1 → Among r all → Eligible afi (asked_router asked) (Conditions afi asked) tier r → Among r two

-- a sound table of the family whose routes are some of all
pub record TableWithin (afi : ℕ) (all : List Route) (t : List ℕ) : Type 0 where
  pub sound : sound_of t ≡ true
  pub family : afi_in t ≡ afi
  pub within : SomeOf (routes_of t) all

-- all routes in tables by their fields: one for each originator, source and group, where it keeps those that have both, and one for each originator,
-- where it keeps the others. The same table may serve many, as where a hash of the fields names it
pub record KeptByFields (afi : ℕ) (all : List Route) (exact : (originator source group : List ℕ) → List ℕ) (wild : (originator : List ℕ) → List ℕ) : Type 0 where
  pub exact_table : (originator source group : List ℕ) → TableWithin afi all (exact originator source group)
  pub wild_table : (originator : List ℕ) → TableWithin afi all (wild originator)
  pub exact_route : (r : Route) → Among r all → (n : SPmsi afi (nlri_of r)) → n.fields.source ≢ [] → n.fields.group ≢ []
      → Among r (routes_of (exact n.fields.originator n.fields.source n.fields.group))
  pub wild_route : (r : Route) → Among r all → (n : SPmsi afi (nlri_of r)) → (n.fields.source ≡ []) ⊎ (n.fields.group ≡ [])
      → Among r (routes_of (wild n.fields.originator))

-- the match over all routes: the first one's answer where that is of tier 1, else the second's, number, tier, sizes and the output's octets
pub record SplitRule : Type 0 where
  -- over a sound table it is the call
  pub table : (t : List ℕ) (asked : Asked) (output : List ℕ) → sound_of t ≡ true → match_over (afi_in t) (routes_of t) asked output ≡ match_of t asked output
  -- over any routes with no NLRI twice, each as install would accept it, it tells the route taken of them
  pub answers : (afi : ℕ) (all : List Route) (asked : Asked) (output : List ℕ) → Distinct all → AllAcceptable afi all → (match_over afi all asked output).answer.number ≡ DONE
      → MatchAnswer afi (asked_router asked) (Conditions afi asked) output all (match_over afi all asked output)
  -- by two lists with no NLRI twice, of any number of routes, all in any order
  pub lists : (afi : ℕ) (all one two : List Route) (asked : Asked) (output : List ℕ) → Distinct one → Distinct two → SomeOf one all → SomeOf two all → SplitRoutes afi asked all one two
      → match_over afi all asked output ≡ pick (eqb (match_over afi one asked output).answer.tier 1) (match_over afi one asked output) (match_over afi two asked output)
  -- by two tables
  pub tables : (afi : ℕ) (all : List Route) (t u : List ℕ) (asked : Asked) (output : List ℕ) → TableWithin afi all t → TableWithin afi all u → SplitRoutes afi asked all (routes_of t) (routes_of u)
      → match_over afi all asked output ≡ pick (eqb (match_of t asked output).answer.tier 1) (match_of t asked output) (match_of u asked output)
  -- so a daemon may keep (C-S,C-G) routes in small tables by a hash of originator, source and group, with no limit on their number, and the others in
  -- a table for each originator; a shared tree is asked of the latter alone
  pub flows : (afi : ℕ) (all : List Route) (exact : (originator source group : List ℕ) → List ℕ) (wild : (originator : List ℕ) → List ℕ) → KeptByFields afi all exact wild
      → (flow : Flow) (output : List ℕ) → match_over afi all (of_flow flow) output
      ≡ pick (eqb (match_of (exact flow.router flow.source flow.group) (of_flow flow) output).answer.tier 1)
      (match_of (exact flow.router flow.source flow.group) (of_flow flow) output) (match_of (wild flow.router) (of_flow flow) output)
  pub trees : (afi : ℕ) (all : List Route) (exact : (originator source group : List ℕ) → List ℕ) (wild : (originator : List ℕ) → List ℕ) → KeptByFields afi all exact wild
      → (tree : SharedTree) (output : List ℕ) → match_over afi all (of_shared_tree tree) output ≡ match_of (wild tree.router) (of_shared_tree tree) output
  -- with one output for both calls: a first answer of tier 0 leaves it as it was
  pub in_turn : (t u : List ℕ) (asked : Asked) (output : List ℕ) → (match_of t asked output).answer.tier ≡ 0 → match_of u asked (match_of t asked output).octets ≡ match_of u asked output
