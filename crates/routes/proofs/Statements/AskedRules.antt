-- The rules of match, of whatever kind it is.
use Prim.Native.Nat.{ℕ, ◌≤◌, ◌<◌}
use mathlib.Core.Path.{◌≡◌, refl}
use mathlib.Core.Bool.{true}
use mathlib.Core.List.{List}
use mathlib.Core.Logic.{◌≢◌}
use native.Mathlib.Omega.{arith}
use lib.ListN.{length}
use Rattle.octets.specs.Numbers.{DONE}
use Rattle.octets.specs.Outcome.{Outcome, given, refused, on_outcome, and_then}
use Rattle.nlri.specs.Fields.{Fields}
use Rattle.routes.specs.declared.Matched.{Matched}
use Rattle.routes.specs.Route.{Route, Distinct}
use Rattle.routes.specs.Place.{AllAcceptable}
use Rattle.routes.specs.Query.{Query}
use Rattle.routes.specs.Asked.{Asked, of_flow, of_shared_tree, asked_router, read_asked}
use Rattle.routes.specs.Table.{afi_in, routes_of, sound_of}
use Rattle.routes.specs.Matching.{match_in}
use Rattle.octets.specs.Outputs.{Changed}
use Rattle.routes.specs.Answers.{matched_by}
use Rattle.routes.specs.Calls.{match_of}
use Rattle.routes.specs.Rules.ArgumentRules.{RouterSized}
use Rattle.routes.specs.Rules.MatchRule.{both_equal, source_equal, group_equal, both_wildcard, Untold, MatchAnswer}
use Rattle.routes.specs.Rules.SharedTreeRule.{shared_group, shared_wildcard}
use Rattle.routes.specs.Rules.DisturbanceRule.{Conditions}
use Rattle.routes.specs.Rules.SplitRule.{match_over}
use Rattle.routes.proofs.Definitions.ByArguments.{number-asked}
use Rattle.routes.proofs.Statements.MatchRule.{Asks, asks-answer, served-flow, match_rule}
use Rattle.routes.proofs.Statements.SharedTreeRule.{served-tree, shared_tree_rule}

-- good arguments ask what the conditions say
pub asks-asked : (afi : ℕ) (asked : Asked) (output : List ℕ) (q : Query) → read_asked afi asked output ≡ given q → Asks afi (asked_router asked) (Conditions afi asked) q
unfolding asked_router
asks-asked afi (of_flow flow) output q e = (served-flow flow).asks afi output q e
asks-asked afi (of_shared_tree tree) output q e = (served-tree tree).asks afi output q e

-- in an output that has room
enough : (afi : ℕ) (asked : Asked) (output : List ℕ) (q : Query) → read_asked afi asked output ≡ given q → 124 ≤ length output
enough afi (of_flow flow) output q e = (((served-flow flow).takes afi output).0 (q, e)).1
enough afi (of_shared_tree tree) output q e = (((served-tree tree).takes afi output).0 (q, e)).1

-- tiers are numbered from 1
pub some-tier : (afi : ℕ) (asked : Asked) (tier : ℕ) (f : Fields) → Conditions afi asked tier f → 0 < tier
some-tier afi (of_flow flow) tier f (both_equal s g) = omega arith
some-tier afi (of_flow flow) tier f (source_equal s g c) = omega arith
some-tier afi (of_flow flow) tier f (group_equal s g c) = omega arith
some-tier afi (of_flow flow) tier f (both_wildcard s g) = omega arith
some-tier afi (of_shared_tree tree) tier f (shared_group s g c d) = omega arith
some-tier afi (of_shared_tree tree) tier f (shared_wildcard s g c d) = omega arith

-- over any routes
pub over-answers : (afi : ℕ) (rs : List Route) (asked : Asked) (output : List ℕ) → Distinct rs → AllAcceptable afi rs → (match_over afi rs asked output).answer.number ≡ DONE
    → MatchAnswer afi (asked_router asked) (Conditions afi asked) output rs (match_over afi rs asked output)
unfolding match_over and_then matched_by on_outcome
over-answers afi rs asked output d a = go (read_asked afi asked output) refl
  where
    answer : (o : Outcome Query) → Changed Matched
    answer o = matched_by (and_then o (λ q. given (match_in afi q rs))) output

    go : (o : Outcome Query) → read_asked afi asked output ≡ o → (answer o).answer.number ≡ DONE → MatchAnswer afi (asked_router asked) (Conditions afi asked) output rs (answer o)
    go (given q) e done = asks-answer (asks-asked afi asked output q e) rs output (enough afi asked output q e) d a
    go (refused n) e done = absurd ((number-asked afi asked output n e).0 done)

-- over a table

pub table-answers : (asked : Asked) (t output : List ℕ) → (match_of t asked output).answer.number ≡ DONE
    → MatchAnswer (afi_in t) (asked_router asked) (Conditions (afi_in t) asked) output (routes_of t) (match_of t asked output)
unfolding asked_router
table-answers (of_flow flow) = (match_rule.table flow).answers
table-answers (of_shared_tree tree) = (shared_tree_rule.table tree).answers

pub table-untold : (asked : Asked) (t output : List ℕ) → (match_of t asked output).answer.number ≢ DONE → Untold output (match_of t asked output)
table-untold (of_flow flow) = (match_rule.table flow).untold
table-untold (of_shared_tree tree) = (shared_tree_rule.table tree).untold

pub table-sound : (asked : Asked) (t output : List ℕ) → (match_of t asked output).answer.number ≡ DONE → (sound_of t ≡ true) × RouterSized (asked_router asked)
unfolding asked_router
table-sound (of_flow flow) t output e = let p = ((match_rule.table flow).done t output).0 e in (p.0, p.1.addressed)
table-sound (of_shared_tree tree) t output e = let p = ((shared_tree_rule.table tree).done t output).0 e in (p.0, p.1.addressed.router)

-- good arguments are good on every sound table of the family, with every output that has room
pub table_done : (asked : Asked) (t u other output : List ℕ) → afi_in t ≡ afi_in u → sound_of u ≡ true → 124 ≤ length output → (match_of t asked other).answer.number ≡ DONE → (match_of u asked output).answer.number ≡ DONE
table_done (of_flow flow) t u other output e s room d = ((match_rule.table flow).done u output).1 (s, rw (← e) (((match_rule.table flow).done t other).0 d).1, room)
table_done (of_shared_tree tree) t u other output e s room d = ((shared_tree_rule.table tree).done u output).1 (s, rw (← e) (((shared_tree_rule.table tree).done t other).0 d).1, room)
