-- The claim on mixed calls (document 01, "Mixed calls and each router's book"; demand 3: on one table each router's calls get the answers of
-- its own book, as if no other router had called). Stated here over what specs/Rules/BookRules.antt says of owners, premise and
-- books; proved in proofs/Statements/Mixed/MixedCalls.antt.
use Rattle.std.specs.Prelude.{ℕ, ◌≡◌, List, [], ◌∷◌, ◌++◌, ◌≢◌}
use Rattle.octets.specs.Numbers.{DONE}
use Rattle.octets.specs.Order.{zeros}
use Rattle.octets.specs.Lists.{Rearranged}
use Rattle.routes.specs.Table.{places_in}
use Rattle.routes.specs.Asked.{Asked}
use Rattle.routes.specs.Restart.{marking, sweeping}
use Rattle.routes.specs.Calls.{make_of, install_of, withdraw_of, mark_of, sweep_of, match_of}
use Rattle.routes.specs.Call.{Call, install, withdraw, restart, match, installed, withdrawn, restarted, matched}
use Rattle.routes.specs.Book.{own_calls, nobodys_calls, once_each, routers_of, due_answer}
use Rattle.routes.specs.Run.{Step, step_of, run_from, end_of, answers_in, own_answers, image_of_books, Fits}
use Rattle.routes.specs.Rules.ArgumentRules.{KnownFamily}
use Rattle.routes.specs.Rules.BookRules.{BelongsTo, OwnerRule, PremiseRule, BookRule, ImageRule}

-- a run of calls on a table
pub record RunRule : Type 0 where
  -- an install answers and leaves what the definition says that its contract cites
  pub installs : (t nlri attribute : List ℕ)
      → step_of t (install nlri attribute) ≡ record { call = install nlri attribute; answer = installed (install_of t nlri attribute).answer; octets = (install_of t nlri attribute).octets }
  -- so does a withdrawal
  pub withdrawals : (t nlri : List ℕ) → step_of t (withdraw nlri) ≡ record { call = withdraw nlri; answer = withdrawn (withdraw_of t nlri).answer; octets = (withdraw_of t nlri).octets }
  -- so does a mark
  pub marks : (t router : List ℕ) → step_of t (restart marking router) ≡ record { call = restart marking router; answer = restarted (mark_of t router).answer; octets = (mark_of t router).octets }
  -- so does a sweep
  pub sweeps : (t router : List ℕ) → step_of t (restart sweeping router) ≡ record { call = restart sweeping router; answer = restarted (sweep_of t router).answer; octets = (sweep_of t router).octets }
  -- so does a match, which leaves the table
  pub matches : (t : List ℕ) (asked : Asked) (output : List ℕ) → step_of t (match asked output) ≡ record { call = match asked output; answer = matched (match_of t asked output); octets = t }
  -- the octets after no call are those before
  pub start : (t : List ℕ) → end_of t [] ≡ t
  -- after one more call they are those that it leaves
  pub end : (t : List ℕ) (earlier : List Call) (c : Call) → end_of t (earlier ++ (c ∷ [])) ≡ (step_of (end_of t earlier) c).octets
  -- no call, no step
  pub none : (t : List ℕ) → run_from t [] ≡ []
  -- each call is answered on the octets that the last one left, which are the end of the calls before it
  pub each : (t : List ℕ) (earlier : List Call) (c : Call) (later : List Call)
      → run_from t (earlier ++ (c ∷ later)) ≡ run_from t earlier ++ (step_of (end_of t earlier) c ∷ run_from (end_of t (earlier ++ (c ∷ []))) later)
  -- no step, no answer
  pub unanswered : answers_in [] ≡ []
  -- the answers of a run, each with its call, in order
  pub answers : (t : List ℕ) (c : Call) (cs : List Call)
      → answers_in (run_from t (c ∷ cs)) ≡ record { call = c; answer = (step_of t c).answer } ∷ answers_in (run_from (step_of t c).octets cs)
  -- no step, no answer of a router's own
  pub none_own : (afi : ℕ) (router : List ℕ) → own_answers afi router [] ≡ []
  -- a step whose call belongs to the router gives its answer
  pub own : (afi : ℕ) (router : List ℕ) (s : Step) (steps : List Step) → BelongsTo afi router s.call
      → own_answers afi router (s ∷ steps) ≡ record { call = s.call; answer = s.answer } ∷ own_answers afi router steps
  -- any other step gives none
  pub foreign : (afi : ℕ) (router : List ℕ) (s : Step) (steps : List Step) → (BelongsTo afi router s.call → ⊥) → own_answers afi router (s ∷ steps) ≡ own_answers afi router steps

-- as if no other router had called: a router's own calls get the answers of a run of their own on the same table
pub record Alone (afi places : ℕ) (table : List ℕ) (calls : List Call) (router : List ℕ) : Type 0 where
  -- the premise holds of that run too
  pub fits : Fits afi places (own_calls afi router calls)
  pub answers : own_answers afi router (run_from table calls) ≡ answers_in (run_from table (own_calls afi router calls))

-- the same calls in another order that keeps each router's own; nobody's stand anywhere
pub record Reordered (afi : ℕ) (calls others : List Call) : Type 0 where
  pub rearranged : Rearranged calls others
  pub kept : (router : List ℕ) → own_calls afi router others ≡ own_calls afi router calls

-- they get the same answers, nobody's included, each router's own in the same order, and end in the same table octets
pub record Alike (afi places : ℕ) (table : List ℕ) (calls others : List Call) : Type 0 where
  -- the premise holds of that order too
  pub fits : Fits afi places others
  pub answers : Rearranged (answers_in (run_from table calls)) (answers_in (run_from table others))
  pub own : (router : List ℕ) → own_answers afi router (run_from table others) ≡ own_answers afi router (run_from table calls)
  pub end : end_of table others ≡ end_of table calls

-- each of these routers' own calls, one router after another
unfoldable pub turns : ℕ → (routers : List (List ℕ)) → List Call → List Call
turns afi [] calls = []
turns afi (router ∷ routers) calls = own_calls afi router calls ++ turns afi routers calls

-- one router after another, and then nobody's calls
abbrev pub in_turn : ℕ → (routers : List (List ℕ)) → List Call → List Call
in_turn afi routers calls = turns afi routers calls ++ nobodys_calls afi calls

-- what holds of calls on a table just made
pub record Claim (afi places : ℕ) (table : List ℕ) (calls : List Call) : Type 0 where
  -- each call, wherever it stands, gets exactly the answer of its own router's book, a call of no router its refusal (`BookRule`), and after it the
  -- table octets are the one image of the routes in all books (`image`, since the calls as far as that one are a list of calls)
  pub due : (earlier : List Call) (c : Call) (later : List Call) → calls ≡ earlier ++ (c ∷ later)
      → step_of (end_of table earlier) c ≡ record { call = c; answer = due_answer afi earlier c; octets = image_of_books afi places (earlier ++ (c ∷ [])) }
  pub image : ImageRule afi places calls
  -- as if no other router had called
  pub alone : (router : List ℕ) → Alone afi places table calls router
  -- the same calls in any other order that keeps each router's own, one router after another included, whichever comes first
  pub any_order : (others : List Call) → Reordered afi calls others → Alike afi places table calls others
  pub turn : (routers : List (List ℕ)) → Rearranged (once_each (routers_of afi calls)) routers → Reordered afi calls (in_turn afi routers calls)

-- demand 3: every list of calls, refused ones included, on a table just made, of either family and any number of places, whose installs
-- together name no more different well-formed S-PMSI NLRIs than there are places; and what its definitions are
pub record MixedCalls : Type 0 where
  pub claim : (afi : ℕ) (memory : List ℕ) (calls : List Call) → (make_of afi memory).answer ≡ DONE → Fits afi (places_in memory) calls
      → Claim afi (places_in memory) (make_of afi memory).octets calls
  pub run : RunRule
  pub owners : OwnerRule
  pub premise : PremiseRule
  pub books : (afi : ℕ) → KnownFamily afi → BookRule afi

-- (C-*,C-*) of the router 10.0.0.n, route distinguisher 100:7
unfoldable pub any_source : ℕ → List ℕ
any_source n = 3 ∷ (14 ∷ (0 ∷ (0 ∷ (0 ∷ (100 ∷ (0 ∷ (0 ∷ (0 ∷ (7 ∷ (0 ∷ (0 ∷ (10 ∷ (0 ∷ (0 ∷ (n ∷ [])))))))))))))))

-- an install of it, with no tunnel
unfoldable pub one_install : ℕ → Call
one_install n = install (any_source n) (zeros 5)

-- two routers install one route each
unfoldable pub two_installs : List Call
two_installs = one_install 1 ∷ (one_install 2 ∷ [])

-- the premise can be met, and it is needed: two installs of two routers on a table of two places, and of one
pub record Premise : Type 0 where
  -- on two places they fit
  pub made : (make_of 1 (zeros 264)).answer ≡ DONE
  pub met : Fits 1 (places_in (zeros 264)) two_installs
  -- on one the second does not get the answer that is due to it
  pub made_smaller : (make_of 1 (zeros 136)).answer ≡ DONE
  pub needed : (step_of (end_of (make_of 1 (zeros 136)).octets (one_install 1 ∷ [])) (one_install 2)).answer ≢ due_answer 1 (one_install 1 ∷ []) (one_install 2)
