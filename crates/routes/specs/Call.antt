-- Calls and answers, as lists of mixed calls have them (document 01, "Mixed calls and each router's book"): whom a call belongs to, and what its
-- arguments and the table's family come to.
use Rattle.std.specs.Prelude.{ℕ, Bool, true, false, List, length}
use Rattle.octets.specs.Choice.{pick}
use Rattle.octets.specs.Outcome.{Outcome, given, refused, on_outcome, and_then, number_of}
use Rattle.octets.specs.Order.{same}
use Rattle.nlri.specs.Family.{is_originator_size}
use Rattle.routes.specs.declared.Installed.{Installed}
use Rattle.routes.specs.declared.Matched.{Matched}
use Rattle.routes.specs.declared.Restarted.{Restarted}
use Rattle.routes.specs.Route.{Route}
use Rattle.routes.specs.Query.{Query}
use Rattle.routes.specs.Arguments.{read_s_pmsi, read_route}
use Rattle.routes.specs.Asked.{Asked, asked_router, read_asked}
use Rattle.routes.specs.Restart.{RestartCall, read_router}
use Rattle.octets.specs.Outputs.{Changed}
use Rattle.routes.specs.Answers.{installed_of, restarted_of, matched_by}

-- a call with every argument whole; a match with what its output holds beforehand
pub data Call : Type 0 where
  install : (nlri attribute : List ℕ) → Call
  withdraw : (nlri : List ℕ) → Call
  restart : RestartCall → (router : List ℕ) → Call
  match : Asked → (output : List ℕ) → Call

-- an answer: the number with its fields and, for a match, the output octets afterwards
pub data Answer : Type 0 where
  installed : Installed → Answer
  withdrawn : (number : ℕ) → Answer
  restarted : Restarted → Answer
  matched : Changed Matched → Answer

-- whom a call belongs to
pub data Owner : Type 0 where
  nobody : Owner
  owner : (router : List ℕ) → Owner

-- an install or withdrawal of a well-formed S-PMSI NLRI belongs to its originator
unfoldable pub originator_of : ℕ → (nlri : List ℕ) → Owner
originator_of afi nlri = on_outcome (λ number. nobody) (λ f. owner f.originator) (read_s_pmsi afi nlri)

-- an address is a router's if it has 4 or 16 octets
unfoldable pub address_owner : (router : List ℕ) → Owner
address_owner router = pick (is_originator_size (length router)) (owner router) nobody

-- a match, a mark or a sweep to the router address that it gives if that has 4 or 16 octets; any other call to nobody
unfoldable pub owner_of : ℕ → Call → Owner
owner_of afi (install nlri attribute) = originator_of afi nlri
owner_of afi (withdraw nlri) = originator_of afi nlri
owner_of afi (restart which router) = address_owner router
owner_of afi (match asked output) = address_owner (asked_router asked)

-- routers are the same when size and octets are
unfoldable pub owned_by : (router : List ℕ) → Owner → Bool
owned_by router nobody = false
owned_by router (owner other) = same router other

-- a call is one of a router's own
abbrev pub owns : (afi : ℕ) (router : List ℕ) → Call → Bool
owns afi router call = owned_by router (owner_of afi call)

-- the owner of a call of nobody
unfoldable pub is_nobody : Owner → Bool
is_nobody nobody = true
is_nobody (owner router) = false

-- what a call does where its arguments are accepted: a route is entered, an NLRI leaves, a router's routes are marked or swept, a query is asked
pub data Act : Type 0 where
  enter : Route → Act
  leave : (nlri : List ℕ) → Act
  renew : RestartCall → (router : List ℕ) → Act
  ask : Query → (output : List ℕ) → Act

-- what a call's arguments and the table's family come to: the call's act, or the first refusal in its order that they cause
unfoldable pub argued : ℕ → Call → Outcome Act
argued afi (install nlri attribute) = and_then (read_route afi nlri attribute) (λ r. given (enter r))
argued afi (withdraw nlri) = and_then (read_s_pmsi afi nlri) (λ f. given (leave nlri))
argued afi (restart which router) = and_then (read_router router) (λ named. given (renew which named))
argued afi (match asked output) = and_then (read_asked afi asked output) (λ q. given (ask q output))

-- that refusal; DONE where they cause none
unfoldable pub refusal_of : ℕ → Call → ℕ
refusal_of afi call = number_of (argued afi call)

-- what a call that is refused with a number answers: empty fields, and a match's output as it was
unfoldable pub refusal_answer : Call → ℕ → Answer
refusal_answer (install nlri attribute) number = installed (installed_of (refused number))
refusal_answer (withdraw nlri) number = withdrawn number
refusal_answer (restart which router) number = restarted (restarted_of (refused number))
refusal_answer (match asked output) number = matched (matched_by (refused number) output)
