-- Lists of calls on one table, the image of all books, and what the premise counts (document 01, "Mixed calls and each router's book").
use Rattle.std.specs.Prelude.{ℕ, ◌≤◌, List, [], ◌∷◌, ◌++◌, length}
use Rattle.octets.specs.Outcome.{on_outcome}
use Rattle.octets.specs.Lists.{chosen}
use Rattle.routes.specs.Route.{arranged}
use Rattle.routes.specs.Arguments.{read_s_pmsi}
use Rattle.routes.specs.Table.{image_of}
use Rattle.routes.specs.Calls.{install_of, withdraw_of, restart_of, match_of}
use Rattle.routes.specs.Call.{Call, install, withdraw, restart, match, Answer, installed, withdrawn, restarted, matched, owns}
use Rattle.routes.specs.Book.{once_each, all_books}

-- a call, its answer, and the table octets after it
pub record Step : Type 0 where
  pub call : Call
  pub answer : Answer
  pub octets : List ℕ

-- a call on a table: for each kind of call, the definition that its contract cites
unfoldable pub step_of : List ℕ → Call → Step
step_of t (install nlri attribute) = record { call = install nlri attribute; answer = installed (install_of t nlri attribute).answer; octets = (install_of t nlri attribute).octets }
step_of t (withdraw nlri) = record { call = withdraw nlri; answer = withdrawn (withdraw_of t nlri).answer; octets = (withdraw_of t nlri).octets }
step_of t (restart which router) = record { call = restart which router; answer = restarted (restart_of which t router).answer; octets = (restart_of which t router).octets }
step_of t (match asked output) = record { call = match asked output; answer = matched (match_of t asked output); octets = t }

-- calls one after the other, each on the octets that the last one left
unfoldable pub run_from : List ℕ → List Call → List Step
run_from t [] = []
run_from t (c ∷ cs) = step_of t c ∷ run_from (step_of t c).octets cs

-- the table octets after all of them
unfoldable pub end_of : List ℕ → List Call → List ℕ
end_of t [] = t
end_of t (c ∷ cs) = end_of (step_of t c).octets cs

-- a call with its answer
pub record Answered : Type 0 where
  pub call : Call
  pub answer : Answer

-- each call of a run with its answer, in order
unfoldable pub answers_in : List Step → List Answered
answers_in [] = []
answers_in (step ∷ steps) = record { call = step.call; answer = step.answer } ∷ answers_in steps

-- the answers to a router's own calls, in order
abbrev pub own_answers : (afi : ℕ) (router : List ℕ) → List Step → List Answered
own_answers afi router steps = chosen (λ a. owns afi router a.call) (answers_in steps)

-- the one image of the routes in all books
unfoldable pub image_of_books : (afi places : ℕ) → List Call → List ℕ
image_of_books afi places calls = image_of afi places (arranged (all_books afi calls))

-- the well-formed S-PMSI NLRI that an install names, a refused one included
unfoldable pub named_in : ℕ → Call → List (List ℕ)
named_in afi (install nlri attribute) = on_outcome (λ number. []) (λ f. nlri ∷ []) (read_s_pmsi afi nlri)
named_in afi (withdraw nlri) = []
named_in afi (restart which router) = []
named_in afi (match asked output) = []

-- those that calls name
unfoldable pub named_by : ℕ → List Call → List (List ℕ)
named_by afi [] = []
named_by afi (c ∷ cs) = named_in afi c ++ named_by afi cs

-- those that the premise counts: each once
abbrev pub counted : ℕ → List Call → List (List ℕ)
counted afi calls = once_each (named_by afi calls)

-- all installs together name no more different well-formed S-PMSI NLRIs than there are places
abbrev pub Fits : (afi places : ℕ) → List Call → Type 0
Fits afi places calls = length (counted afi calls) ≤ places
