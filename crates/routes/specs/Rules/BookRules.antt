-- Whom calls belong to, what the premise counts, and what books answer and hold, in document 01's notions ("Mixed calls and each router's
-- book"). Stated here, proved in proofs/Statements/Mixed/BookRules.antt.
use Rattle.std.specs.Prelude.{ℕ, ◌≤◌, ◌≡◌, true, false, List, [], ◌∷◌, ◌++◌, ◌↔◌, ◌≢◌, length}
use Rattle.octets.specs.Numbers.{DONE, ABSENT, FLOW}
use Rattle.octets.specs.Lists.{Among, Once}
use Rattle.routes.specs.declared.Matched.{Matched}
use Rattle.routes.specs.Route.{Route, route, absent, held, lookup, Distinct}
use Rattle.routes.specs.Query.{Flow}
use Rattle.routes.specs.SharedTree.{SharedTree}
use Rattle.routes.specs.Asked.{of_flow, of_shared_tree}
use Rattle.routes.specs.Restart.{RestartCall, marking, sweeping}
use Rattle.octets.specs.Outputs.{Changed}
use Rattle.routes.specs.Call.{Call, install, withdraw, restart, match, Answer, installed, withdrawn, restarted, matched, nobody, owner, owner_of}
use Rattle.routes.specs.Book.{own_calls, book_of, all_books, due_answer}
use Rattle.routes.specs.Run.{image_of_books, counted}
use Rattle.routes.specs.Rules.ArgumentRules.{RouterSized, SPmsi, SPmsiOf, Labelled, GoodFlow, NlriRefusal, RouteRefusal, FlowRefusal}
use Rattle.routes.specs.Rules.Images.{Holdable, TableOf}
use Rattle.routes.specs.Rules.CallRules.{IsHeld, HeldNow, Renewed}
use Rattle.routes.specs.Rules.MatchRule.{InTier, Untold, MatchAnswer}
use Rattle.routes.specs.Rules.SharedTreeRule.{InSharedTier, GoodTree, SharedTreeRefusal}

-- a call belongs to a router: an install or withdrawal of a well-formed S-PMSI NLRI to its originator; a mark, a sweep, and a match, of a flow or for
-- a shared tree, to the router address that it gives, if that has 4 or 16 octets
pub data BelongsTo (afi : ℕ) (router : List ℕ) : Call → Type 0 where
  own_install : {nlri attribute : List ℕ} → SPmsiOf afi router nlri → BelongsTo afi router (install nlri attribute)
  own_withdrawal : {nlri : List ℕ} → SPmsiOf afi router nlri → BelongsTo afi router (withdraw nlri)
  own_restart : {which : RestartCall} → RouterSized router → BelongsTo afi router (restart which router)
  own_match : {flow : Flow} {output : List ℕ} → flow.router ≡ router → RouterSized router → BelongsTo afi router (match (of_flow flow) output)
  own_shared_match : {tree : SharedTree} {output : List ℕ} → tree.router ≡ router → RouterSized router → BelongsTo afi router (match (of_shared_tree tree) output)

-- any other call belongs to nobody
abbrev pub Nobodys : ℕ → Call → Type 0
Nobodys afi c = (router : List ℕ) → BelongsTo afi router c → ⊥

-- owners, and a router's own calls: those that belong to it, in order
pub record OwnerRule : Type 0 where
  pub belongs : (afi : ℕ) (router : List ℕ) (c : Call) → (owner_of afi c ≡ owner router) ↔ BelongsTo afi router c
  pub nobodys : (afi : ℕ) (c : Call) → (owner_of afi c ≡ nobody) ↔ Nobodys afi c
  pub none : (afi : ℕ) (router : List ℕ) → own_calls afi router [] ≡ []
  pub own : (afi : ℕ) (router : List ℕ) (c : Call) (cs : List Call) → BelongsTo afi router c → own_calls afi router (c ∷ cs) ≡ c ∷ own_calls afi router cs
  pub foreign : (afi : ℕ) (router : List ℕ) (c : Call) (cs : List Call) → (BelongsTo afi router c → ⊥) → own_calls afi router (c ∷ cs) ≡ own_calls afi router cs

-- the premise counts an NLRI exactly when it is well-formed S-PMSI and one of the installs, refused or not, names it; however often, once
pub record PremiseRule : Type 0 where
  pub exactly : (afi : ℕ) (calls : List Call) (nlri : List ℕ)
      → Among nlri (counted afi calls) ↔ (SPmsi afi nlri × ((attribute : List ℕ) × Among (install nlri attribute) calls))
  pub once : (afi : ℕ) (calls : List Call) → Once (counted afi calls)

-- a call that its arguments and the family refuse: the first such number in its order, empty fields, and a match's output as it was
pub data RefusedCall (afi : ℕ) : Call → Answer → Type 0 where
  refused_install : {nlri attribute : List ℕ} {n : ℕ} → n ≢ DONE → RouteRefusal afi nlri attribute n
      → RefusedCall afi (install nlri attribute) (installed (record { number = n; outcome = 0 }))
  refused_withdrawal : {nlri : List ℕ} {n : ℕ} → n ≢ DONE → NlriRefusal afi nlri n → RefusedCall afi (withdraw nlri) (withdrawn n)
  refused_restart : {which : RestartCall} {router : List ℕ} → (RouterSized router → ⊥) → RefusedCall afi (restart which router) (restarted (record { number = FLOW; gone = 0 }))
  refused_flow : {flow : Flow} {output : List ℕ} {changed : Changed Matched} → FlowRefusal afi flow output changed.answer.number → Untold output changed
      → RefusedCall afi (match (of_flow flow) output) (matched changed)
  refused_tree : {tree : SharedTree} {output : List ℕ} {changed : Changed Matched} → SharedTreeRefusal afi tree output changed.answer.number → Untold output changed
      → RefusedCall afi (match (of_shared_tree tree) output) (matched changed)

-- what a book answers to a call, and the book afterwards
pub data BookStep (afi : ℕ) (book : List Route) : Call → Answer → (after : List Route) → Type 0 where
  -- a call that its arguments and the family refuse gets the first such number in its order; the book stays
  refusal : {c : Call} {answer : Answer} → RefusedCall afi c answer → BookStep afi book c answer book
  -- any other install gives the NLRI this attribute: DONE with 2, "replaced", if the book held the NLRI, else with 1, "new"
  replaced_route : {nlri attribute : List ℕ} {after : List Route} → SPmsi afi nlri → Labelled attribute → IsHeld nlri book → HeldNow nlri (held (route nlri attribute)) book after
      → BookStep afi book (install nlri attribute) (installed (record { number = DONE; outcome = 2 })) after
  new_route : {nlri attribute : List ℕ} {after : List Route} → SPmsi afi nlri → Labelled attribute → lookup nlri book ≡ absent → HeldNow nlri (held (route nlri attribute)) book after
      → BookStep afi book (install nlri attribute) (installed (record { number = DONE; outcome = 1 })) after
  -- any other withdrawal takes the NLRI out: DONE; if the book does not hold it: ABSENT
  taken_out : {nlri : List ℕ} {after : List Route} → SPmsi afi nlri → IsHeld nlri book → HeldNow nlri absent book after
      → BookStep afi book (withdraw nlri) (withdrawn DONE) after
  not_in_book : {nlri : List ℕ} → SPmsi afi nlri → lookup nlri book ≡ absent → BookStep afi book (withdraw nlri) (withdrawn ABSENT) book
  -- any other mark takes out those already marked, and marks the others; any other sweep takes out those marked: DONE with how many went
  marked_book : {router : List ℕ} {after : List Route} {gone : ℕ} → RouterSized router → Renewed afi router true book after gone
      → BookStep afi book (restart marking router) (restarted (record { number = DONE; gone = gone })) after
  swept_book : {router : List ℕ} {after : List Route} {gone : ℕ} → RouterSized router → Renewed afi router false book after gone
      → BookStep afi book (restart sweeping router) (restarted (record { number = DONE; gone = gone })) after
  -- any other match answers by the rule over the book's routes; the book stays
  matched_flow : {flow : Flow} {output : List ℕ} {changed : Changed Matched} → GoodFlow afi flow → 124 ≤ length output
      → MatchAnswer afi flow.router (InTier afi flow) output book changed → BookStep afi book (match (of_flow flow) output) (matched changed) book
  -- and one for a shared tree by its rule, what the daemon tells among its arguments
  matched_tree : {tree : SharedTree} {output : List ℕ} {changed : Changed Matched} → GoodTree afi tree → 124 ≤ length output
      → MatchAnswer afi tree.router (InSharedTier afi tree) output book changed → BookStep afi book (match (of_shared_tree tree) output) (matched changed) book

-- the books, under a family that a table can have
pub record BookRule (afi : ℕ) : Type 0 where
  -- a book holds nothing at first, is fed its router's calls in order, and no other call changes it
  pub none : (router : List ℕ) → book_of afi router [] ≡ []
  pub own : (router : List ℕ) (earlier : List Call) (c : Call) → BelongsTo afi router c
      → BookStep afi (book_of afi router earlier) c (due_answer afi earlier c) (book_of afi router (earlier ++ (c ∷ [])))
  pub foreign : (router : List ℕ) (earlier : List Call) (c : Call) → (BelongsTo afi router c → ⊥) → book_of afi router (earlier ++ (c ∷ [])) ≡ book_of afi router earlier
  -- to a call of nobody its refusal is due
  pub nobodys : (earlier : List Call) (c : Call) → Nobodys afi c → RefusedCall afi c (due_answer afi earlier c)
  -- a book has one attribute for each NLRI, and no NLRI stands in two books
  pub distinct : (router : List ℕ) (calls : List Call) → Distinct (book_of afi router calls)
  pub apart : (calls : List Call) → Distinct (all_books afi calls)

-- the one image of the routes in all books: a sound table of the family and so many places, which can hold these routes: they fit the places
-- and are acceptable; and they are exactly those in some router's book
pub record ImageRule (afi places : ℕ) (calls : List Call) : Type 0 where
  pub routes : List Route
  pub holdable : Holdable afi places routes
  pub table : TableOf afi places routes (image_of_books afi places calls)
  pub exactly : (r : Route) → Among r routes ↔ ((router : List ℕ) × Among r (book_of afi router calls))
