-- A router's book (document 01, "Mixed calls and each router's book"; book is its term): NLRIs, each with one attribute, in order of
-- arrival. It knows nothing of the table: neither order of NLRIs, nor places, nor octets.
use Rattle.std.specs.Prelude.{ℕ, Bool, false, List, [], ◌∷◌, ◌++◌}
use Rattle.octets.specs.Numbers.{DONE, ABSENT}
use Rattle.octets.specs.Choice.{pick, either}
use Rattle.octets.specs.Outcome.{given, on_outcome}
use Rattle.octets.specs.Order.{same}
use Rattle.octets.specs.Lists.{chosen}
use Rattle.routes.specs.Route.{Route, nlri_of, holds, removed}
use Rattle.routes.specs.Matching.{match_in}
use Rattle.routes.specs.Restart.{renewed, gone_of}
use Rattle.routes.specs.Answers.{NEW, REPLACED, restarted_of, matched_by}
use Rattle.routes.specs.Call.{Call, Answer, installed, withdrawn, restarted, matched, Owner, nobody, owner, owner_of, owns, is_nobody, Act, enter, leave, renew, ask, argued, refusal_of, refusal_answer}

-- a book with an NLRI given this attribute
unfoldable pub entered : Route → List Route → List Route
entered r [] = r ∷ []
entered r (q ∷ rs) = pick (same (nlri_of r) (nlri_of q)) (r ∷ rs) (q ∷ entered r rs)

-- what a book answers to an act. Install: DONE, "replaced" if the book held the NLRI, else "new"; withdrawal: DONE, ABSENT if the book does
-- not hold it; mark and sweep: DONE with how many went; match: by the rule over the book's routes
unfoldable pub act_answer : (afi : ℕ) (book : List Route) → Act → Answer
act_answer afi book (enter r) = installed (record { number = DONE; outcome = pick (holds (nlri_of r) book) REPLACED NEW })
act_answer afi book (leave nlri) = withdrawn (pick (holds nlri book) DONE ABSENT)
act_answer afi book (renew which router) = restarted (restarted_of (given (gone_of afi router book)))
act_answer afi book (ask q output) = matched (matched_by (given (match_in afi q book)) output)

-- the book after an act: an install gives the NLRI this attribute, a withdrawal takes the NLRI out, a mark or sweep takes out those marked and
-- leaves its mark on the others, a match leaves the book
unfoldable pub act_after : (afi : ℕ) (book : List Route) → Act → List Route
act_after afi book (enter r) = entered r book
act_after afi book (leave nlri) = removed nlri book
act_after afi book (renew which router) = renewed afi which router book
act_after afi book (ask q output) = book

-- what a book answers to a call: the first refusal that arguments and family cause, else what it answers to the act
unfoldable pub book_answer : (afi : ℕ) (book : List Route) → Call → Answer
book_answer afi book c = on_outcome (refusal_answer c) (act_answer afi book) (argued afi c)

-- the book afterwards: a refusal leaves it
unfoldable pub book_after : (afi : ℕ) (book : List Route) → Call → List Route
book_after afi book c = on_outcome (λ number. book) (act_after afi book) (argued afi c)

-- a book fed calls, in order
unfoldable pub fed : (afi : ℕ) (book : List Route) → List Call → List Route
fed afi book [] = book
fed afi book (c ∷ cs) = fed afi (book_after afi book c) cs

-- a router's own calls, in order
abbrev pub own_calls : (afi : ℕ) (router : List ℕ) → List Call → List Call
own_calls afi router calls = chosen (owns afi router) calls

-- the calls of nobody, in order
abbrev pub nobodys_calls : ℕ → List Call → List Call
nobodys_calls afi calls = chosen (λ c. is_nobody (owner_of afi c)) calls

-- a router's book after calls of all routers: it is fed that router's calls, and holds nothing at first
unfoldable pub book_of : (afi : ℕ) (router : List ℕ) → List Call → List Route
book_of afi router calls = fed afi [] (own_calls afi router calls)

-- whether a list of octet lists has one
unfoldable pub is_among : List ℕ → List (List ℕ) → Bool
is_among x [] = false
is_among x (y ∷ ys) = either (same x y) (is_among x ys)

-- each element once
unfoldable pub once_each : List (List ℕ) → List (List ℕ)
once_each [] = []
once_each (x ∷ xs) = pick (is_among x xs) (once_each xs) (x ∷ once_each xs)

-- routers, and the one that a call belongs to
unfoldable pub with_owner : Owner → List (List ℕ) → List (List ℕ)
with_owner nobody routers = routers
with_owner (owner router) routers = router ∷ routers

-- the routers that calls belong to
unfoldable pub routers_of : ℕ → List Call → List (List ℕ)
routers_of afi [] = []
routers_of afi (c ∷ cs) = with_owner (owner_of afi c) (routers_of afi cs)

-- the routes in the books of these routers, one book after the other
unfoldable pub gathered : ℕ → (routers : List (List ℕ)) → List Call → List Route
gathered afi [] calls = []
gathered afi (router ∷ routers) calls = book_of afi router calls ++ gathered afi routers calls

-- the routes in all books
unfoldable pub all_books : ℕ → List Call → List Route
all_books afi calls = gathered afi (once_each (routers_of afi calls)) calls

-- by a call's owner: one answer where it is nobody's, one by the router where it is a router's
unfoldable pub due_by : Answer → (List ℕ → Answer) → Owner → Answer
due_by none some nobody = none
due_by none some (owner router) = some router

-- what is due to a call after the earlier ones
unfoldable pub due_answer : ℕ → (earlier : List Call) → Call → Answer
due_answer afi earlier c = due_by (refusal_answer c (refusal_of afi c)) (λ router. book_answer afi (book_of afi router earlier) c) (owner_of afi c)
