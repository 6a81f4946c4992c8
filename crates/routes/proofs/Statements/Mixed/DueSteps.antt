-- A call on the image of all books gets what is due to it, and leaves the image of all books after it.
use Prim.Native.Nat.{ℕ, suc, ◌≤◌, ◌<◌}
use mathlib.Core.Path.{◌≡◌, refl, sym, ap, ◌∙◌}
use mathlib.Core.Bool.{Bool, true, false}
use mathlib.Core.List.{List, [], ◌∷◌, ◌++◌}
use native.Mathlib.Omega.{arith}
use borrow.Author.Tests.{lt-ltb}
use lib.ListN.{length}
use lib.Dec.{ltb}
use Rattle.octets.specs.Numbers.{DONE, ROOM, ABSENT}
use Rattle.octets.specs.Choice.{pick}
use Rattle.octets.specs.Outcome.{Outcome, given, refused, on_outcome, and_then, number_of}
use Rattle.octets.proofs.Choice.{pick_true, tested}
use Rattle.nlri.specs.Fields.{Fields}
use Rattle.routes.specs.Route.{Route, nlri_of, lookup, holds, inserted, removed, arranged, Increasing}
use Rattle.routes.specs.Query.{Query}
use Rattle.routes.specs.Arguments.{read_s_pmsi, read_route}
use Rattle.routes.specs.Asked.{Asked, read_asked}
use Rattle.routes.specs.Table.{image_of}
use Rattle.routes.specs.Place.{acceptable}
use Rattle.routes.specs.Rules.ArgumentRules.{KnownFamily}
use Rattle.routes.specs.Rules.Images.{TableOf}
use Rattle.routes.specs.Matching.{match_in}
use Rattle.routes.specs.Restart.{RestartCall, renewed, gone_of, read_router}
use Rattle.routes.specs.Answers.{NEW, REPLACED, installed_of, restarted_of, matched_by}
use Rattle.routes.specs.Calls.{entering, install_outcome, install_of, leaving, withdraw_outcome, withdraw_of, restart_outcome, restart_of, match_outcome, match_of}
use Rattle.routes.specs.Call.{Call, install, withdraw, restart, match, Answer, installed, withdrawn, restarted, matched, Owner, nobody, owner, originator_of, owner_of, Act, enter, leave, renew, ask, argued, refusal_of, refusal_answer}
use Rattle.routes.specs.Book.{book_of, act_answer, book_answer, all_books, due_by, due_answer}
use Rattle.routes.specs.Run.{Step, step_of, Answered, image_of_books, Fits}
use Rattle.routes.proofs.Definitions.Lookups.{lookup-inserted, lookup-removed, lookup-arranged, holds-alike, absent-holds, removed-absent}
use Rattle.routes.proofs.Definitions.Increases.{increasing-equal, increasing-inserted, increasing-removed, distinct-increasing, length-inserted-new}
use Rattle.routes.proofs.Definitions.Bounds.{route-read}
use Rattle.routes.proofs.Statements.Images.{images}
use Rattle.routes.proofs.Definitions.Matching.MatchSame.{match-same}
use Rattle.routes.proofs.Definitions.Ownership.{acceptable-after-none, owned-by, router-read}
use Rattle.routes.proofs.Definitions.Restarts.{lookup-renewed, increasing-renewed, gone_same}
use Rattle.routes.proofs.Definitions.Acts.{Known, enters, leaves, renews, asks, argued-cases}
use Rattle.routes.proofs.Definitions.Books.{held_by, held_after}
use Rattle.routes.proofs.Definitions.AllBooks.{distinct-book, lookup-all, lookup-all-next, increasing-books, holdable-books}

-- what is due to a call that comes after others: its due answer, and the image of all books
unfoldable pub due_step : (afi places : ℕ) (earlier : List Call) → Call → Step
due_step afi places earlier c = record { call = c; answer = due_answer afi earlier c; octets = image_of_books afi places (earlier ++ (c ∷ [])) }

-- calls that come one after the other after others, each with the answer that is due to it
unfoldable pub due_answers : ℕ → (earlier : List Call) → List Call → List Answered
due_answers afi earlier [] = []
due_answers afi earlier (c ∷ cs) = record { call = c; answer = due_answer afi earlier c } ∷ due_answers afi (earlier ++ (c ∷ [])) cs

-- the routes of all books, as the table holds them
abbrev table_routes : ℕ → List Call → List Route
table_routes afi calls = arranged (all_books afi calls)

-- calls on octets, over a table's routes

-- what an act does on a table with these routes
act_step : (afi places : ℕ) (rs : List Route) (t : List ℕ) → Call → Act → Step
act_step afi places rs t c (enter r) =
    record { call = c; answer = installed (installed_of (entering places rs r)); octets = on_outcome (λ number. t) (λ o. image_of afi places (inserted r rs)) (entering places rs r) }
act_step afi places rs t c (leave nlri) =
    record { call = c; answer = withdrawn (number_of (leaving rs nlri)); octets = on_outcome (λ number. t) (λ n. image_of afi places (removed n rs)) (leaving rs nlri) }
act_step afi places rs t c (renew which router) =
    record { call = c; answer = restarted (restarted_of (given (gone_of afi router rs))); octets = image_of afi places (renewed afi which router rs) }
act_step afi places rs t c (ask q output) = record { call = c; answer = matched (matched_by (given (match_in afi q rs)) output); octets = t }

module _ (afi places : ℕ) (rs : List Route) (t : List ℕ) (of : TableOf afi places rs t) where
  install-on : (nlri attribute : List ℕ) → install_outcome t nlri attribute ≡ and_then (read_route afi nlri attribute) (λ r. entering places rs r)
  unfolding install_outcome
  install-on nlri attribute = rw (of.family, of.size, of.routes) (pick_true _ _ _ of.sound)

  withdraw-on : (nlri : List ℕ) → withdraw_outcome t nlri ≡ and_then (read_s_pmsi afi nlri) (λ f. leaving rs nlri)
  unfolding withdraw_outcome
  withdraw-on nlri = rw (of.family, of.routes) (pick_true _ _ _ of.sound)

  -- a mark or sweep on a sound table
  restart_on : (router : List ℕ) → restart_outcome t router ≡ and_then (read_router router) (λ named. given (gone_of afi named rs))
  unfolding restart_outcome
  restart_on router = rw (of.family, of.routes) (pick_true _ _ _ of.sound)

  match-on : (asked : Asked) (output : List ℕ) → match_outcome t asked output ≡ and_then (read_asked afi asked output) (λ q. given (match_in afi q rs))
  unfolding match_outcome
  match-on asked output = rw (of.family, of.routes) (pick_true _ _ _ of.sound)

  -- a call is refused by its arguments, and leaves the octets, or does its act
  abbrev argued-step : Call → Outcome Act → Step
  argued-step c o = on_outcome (λ number. record { call = c; answer = refusal_answer c number; octets = t }) (act_step afi places rs t c) o

  step-on : (c : Call) → step_of t c ≡ argued-step c (argued afi c)
  unfolding step_of install_of withdraw_of restart_of match_of argued and_then on_outcome number_of act_step refusal_answer
  step-on (install nlri attribute) = go (read_route afi nlri attribute) refl
    where
      go : (o : Outcome Route) → read_route afi nlri attribute ≡ o → step_of t (install nlri attribute) ≡ argued-step (install nlri attribute) (and_then o (λ r. given (enter r)))
      go (given r) e =
          let x : install_outcome t nlri attribute ≡ entering places rs r = install-on nlri attribute ∙ rw e in
          rw (x, of.family, of.size, of.routes, route-read afi nlri attribute r e)
      go (refused n) e = let x : install_outcome t nlri attribute ≡ refused n = install-on nlri attribute ∙ rw e in rw x
  step-on (withdraw nlri) = go (read_s_pmsi afi nlri) refl
    where
      go : (o : Outcome Fields) → read_s_pmsi afi nlri ≡ o → step_of t (withdraw nlri) ≡ argued-step (withdraw nlri) (and_then o (λ f. given (leave nlri)))
      go (given f) e = let x : withdraw_outcome t nlri ≡ leaving rs nlri = withdraw-on nlri ∙ rw e in rw (x, of.family, of.size, of.routes)
      go (refused n) e = let x : withdraw_outcome t nlri ≡ refused n = withdraw-on nlri ∙ rw e in rw x
  step-on (restart which router) = go (read_router router) refl
    where
      go : (o : Outcome (List ℕ)) → read_router router ≡ o → step_of t (restart which router) ≡ argued-step (restart which router) (and_then o (λ named. given (renew which named)))
      go (given named) e =
          let x : restart_outcome t router ≡ given (gone_of afi named rs) = restart_on router ∙ rw e in
          rw (x, of.family, of.size, of.routes, (router-read router named e).0)
      go (refused n) e = let x : restart_outcome t router ≡ refused n = restart_on router ∙ rw e in rw x
  step-on (match asked output) = go (read_asked afi asked output) refl
    where
      go : (o : Outcome Query) → read_asked afi asked output ≡ o
          → step_of t (match asked output) ≡ argued-step (match asked output) (and_then o (λ q. given (ask q output)))
      go (given q) e = let x : match_outcome t asked output ≡ given (match_in afi q rs) = match-on asked output ∙ rw e in rw x
      go (refused n) e = let x : match_outcome t asked output ≡ refused n = match-on asked output ∙ rw e in rw x

-- what is due, by whom the call belongs to

pub due-owned : (afi : ℕ) (earlier : List Call) (c : Call) (router : List ℕ) → owner_of afi c ≡ owner router → due_answer afi earlier c ≡ book_answer afi (book_of afi router earlier) c
unfolding due_answer due_by
due-owned afi earlier c router e = rw e

pub due-nobody : (afi : ℕ) (earlier : List Call) (c : Call) → owner_of afi c ≡ nobody → due_answer afi earlier c ≡ refusal_answer c (refusal_of afi c)
unfolding due_answer due_by
due-nobody afi earlier c e = rw e

-- an acceptable route is refused only for room
with-room : (b : Bool) (size places : ℕ) → (b ≡ false → size < places) → pick b (given REPLACED) (pick (ltb size places) (given NEW) (refused ROOM)) ≡ given (pick b REPLACED NEW)
unfolding pick
with-room true size places h = refl
with-room false size places h = pick_true _ _ _ (lt-ltb size places (h refl))

module _ (afi places : ℕ) (earlier : List Call) (c : Call) where
  -- routes in increasing order that hold what is held after a call are those of all books after it
  table-next : (us : List Route) → Increasing [] us → ((nlri : List ℕ) → lookup nlri us ≡ held_after afi c nlri (lookup nlri (table_routes afi earlier)))
      → us ≡ table_routes afi (earlier ++ (c ∷ []))
  table-next us i h =
      increasing-equal i (increasing-books afi (earlier ++ (c ∷ [])))
      (λ nlri.
      h nlri
      ∙ ap (held_after afi c nlri) (lookup-arranged nlri (all_books afi earlier))
      ∙ sym (lookup-all-next afi nlri earlier c)
      ∙ sym (lookup-arranged nlri (all_books afi (earlier ++ (c ∷ [])))))

  as-due : (answer : Answer) (rs : List Route) (octets : List ℕ) → due_answer afi earlier c ≡ answer → rs ≡ table_routes afi (earlier ++ (c ∷ [])) → octets ≡ image_of afi places rs
      → record { call = c; answer = answer; octets = octets } ≡ due_step afi places earlier c
  unfolding due_step image_of_books
  as-due answer rs octets p q e = let z : octets ≡ image_of afi places (table_routes afi (earlier ++ (c ∷ []))) = e ∙ ap (image_of afi places) q in λ i. record { call = c; answer = sym p i; octets = z i }

  -- arguments and family refuse, whoever owns the call

  kept-refused : (n : ℕ) → argued afi c ≡ refused n → table_routes afi earlier ≡ table_routes afi (earlier ++ (c ∷ []))
  unfolding held_after on_outcome
  kept-refused n e = table-next (table_routes afi earlier) (increasing-books afi earlier) (λ nlri. rw e)

  due-refused : (n : ℕ) → argued afi c ≡ refused n → due_answer afi earlier c ≡ refusal_answer c n
  unfolding refusal_of number_of book_answer on_outcome
  due-refused n e = go (owner_of afi c) refl
    where
      go : (o : Owner) → owner_of afi c ≡ o → due_answer afi earlier c ≡ refusal_answer c n
      go nobody w = due-nobody afi earlier c w ∙ rw e
      go (owner router) w = due-owned afi earlier c router w ∙ rw e

  -- routes in increasing order that hold what an act leaves
  next-act : (act : Act) → argued afi c ≡ given act → (us : List Route) → Increasing [] us → ((nlri : List ℕ) → lookup nlri us ≡ held_by afi act nlri (lookup nlri (table_routes afi earlier)))
      → us ≡ table_routes afi (earlier ++ (c ∷ []))
  unfolding held_after on_outcome
  next-act act e us i h = table-next us i (λ nlri. rw e (h nlri))

  next-entered : (r : Route) → argued afi c ≡ given (enter r) → acceptable afi r ≡ true → inserted r (table_routes afi earlier) ≡ table_routes afi (earlier ++ (c ∷ []))
  unfolding held_by lookup
  next-entered r e a =
      next-act (enter r) e (inserted r (table_routes afi earlier)) (increasing-inserted r (acceptable-after-none afi r a) (increasing-books afi earlier))
      (λ nlri. lookup-inserted nlri r (table_routes afi earlier))

  next-left : (nlri : List ℕ) → argued afi c ≡ given (leave nlri) → removed nlri (table_routes afi earlier) ≡ table_routes afi (earlier ++ (c ∷ []))
  unfolding held_by
  next-left nlri e =
      next-act (leave nlri) e (removed nlri (table_routes afi earlier)) (increasing-removed nlri (increasing-books afi earlier)) (λ n. lookup-removed n nlri (distinct-increasing (increasing-books afi earlier)))

  -- the routes of all books after a mark or sweep
  next-renewed : (which : RestartCall) (router : List ℕ) → argued afi c ≡ given (renew which router) → renewed afi which router (table_routes afi earlier) ≡ table_routes afi (earlier ++ (c ∷ []))
  unfolding held_by
  next-renewed which router e =
      next-act (renew which router) e (renewed afi which router (table_routes afi earlier)) (increasing-renewed afi which router (increasing-books afi earlier))
      (λ nlri. lookup-renewed afi which router nlri (distinct-increasing (increasing-books afi earlier)))

  next-asked : (q : Query) (output : List ℕ) → argued afi c ≡ given (ask q output) → table_routes afi earlier ≡ table_routes afi (earlier ++ (c ∷ []))
  unfolding held_by
  next-asked q output e = next-act (ask q output) e (table_routes afi earlier) (increasing-books afi earlier) (λ nlri. refl)

  -- the table has room for every route
  room : (r : Route) → argued afi c ≡ given (enter r) → acceptable afi r ≡ true → KnownFamily afi → places ≤ 500 → Fits afi places (earlier ++ (c ∷ []))
      → entering places (table_routes afi earlier) r ≡ given (pick (holds (nlri_of r) (table_routes afi earlier)) REPLACED NEW)
  unfolding entering
  room r e a bits most fits =
      with-room (holds (nlri_of r) (table_routes afi earlier)) (length (table_routes afi earlier)) places
      (λ h.
      let new : length (inserted r (table_routes afi earlier)) ≡ suc (length (table_routes afi earlier)) = length-inserted-new r (table_routes afi earlier) (absent-holds (nlri_of r) (table_routes afi earlier) h) in
      let within = (holdable-books afi places (earlier ++ (c ∷ [])) bits most fits).within in
      omega (arith, ap length (next-entered r e a)))

  module _ (router : List ℕ) (own : owner_of afi c ≡ owner router) where
    due-act : (act : Act) → argued afi c ≡ given act → due_answer afi earlier c ≡ act_answer afi (book_of afi router earlier) act
    unfolding book_answer on_outcome
    due-act act e = due-owned afi earlier c router own ∙ rw e

    -- the table holds of a router's NLRI what its book holds
    table-book : (nlri : List ℕ) → originator_of afi nlri ≡ owner router → holds nlri (book_of afi router earlier) ≡ holds nlri (table_routes afi earlier)
    table-book nlri mine =
        sym (holds-alike nlri (table_routes afi earlier) (book_of afi router earlier) (lookup-arranged nlri (all_books afi earlier) ∙ lookup-all afi router nlri earlier mine))

    -- the table's routes and the asked router's book give one match
    match-book : (q : Query) → q.router ≡ router → match_in afi q (book_of afi router earlier) ≡ match_in afi q (table_routes afi earlier)
    match-book q mine =
        match-same afi q (book_of afi router earlier) (table_routes afi earlier) (distinct-book afi router earlier) (distinct-increasing (increasing-books afi earlier))
        (λ nlri h. sym (lookup-arranged nlri (all_books afi earlier) ∙ lookup-all afi router nlri earlier (owned-by q.router (originator_of afi nlri) h ∙ ap owner mine)))

    -- as many went of its book as of the table
    gone-book : gone_of afi router (book_of afi router earlier) ≡ gone_of afi router (table_routes afi earlier)
    gone-book =
        gone_same afi router (book_of afi router earlier) (table_routes afi earlier) (distinct-book afi router earlier) (distinct-increasing (increasing-books afi earlier))
        (λ nlri h. sym (lookup-arranged nlri (all_books afi earlier) ∙ lookup-all afi router nlri earlier (owned-by router (originator_of afi nlri) h)))

    acted : {act : Act} (t : List ℕ) → t ≡ image_of afi places (table_routes afi earlier) → KnownFamily afi → places ≤ 500 → Fits afi places (earlier ++ (c ∷ [])) → argued afi c ≡ given act → Known afi c router act
        → act_step afi places (table_routes afi earlier) t c act ≡ due_step afi places earlier c
    unfolding act_step act_answer leaving installed_of on_outcome number_of pick
    acted t is bits most fits e (enters {r} a mine m) =
        let due : due_answer afi earlier c ≡ installed (record { number = DONE; outcome = pick (holds (nlri_of r) (table_routes afi earlier)) REPLACED NEW }) =
        due-act (enter r) e ∙ rw (table-book (nlri_of r) mine) in
        rw (room r e a bits most fits) (as-due _ (inserted r (table_routes afi earlier)) _ due (next-entered r e a) refl)
    acted t is bits most fits e (leaves {nlri} mine) =
        tested (holds nlri (table_routes afi earlier))
        (λ y.
        let due : due_answer afi earlier c ≡ withdrawn DONE = due-act (leave nlri) e ∙ rw (table-book nlri mine, y) in
        rw y (as-due _ (removed nlri (table_routes afi earlier)) _ due (next-left nlri e) refl))
        (λ n.
        let due : due_answer afi earlier c ≡ withdrawn ABSENT = due-act (leave nlri) e ∙ rw (table-book nlri mine, n) in
        rw n (as-due _ (table_routes afi earlier) t due (sym (removed-absent nlri (table_routes afi earlier) (absent-holds nlri (table_routes afi earlier) n)) ∙ next-left nlri e) is))
    acted t is bits most fits e (renews {which}) =
        let due : due_answer afi earlier c ≡ restarted (restarted_of (given (gone_of afi router (table_routes afi earlier)))) = due-act (renew which router) e ∙ rw gone-book in
        as-due _ (renewed afi which router (table_routes afi earlier)) _ due (next-renewed which router e) refl
    acted t is bits most fits e (asks {q} {output} mine) =
        let due : due_answer afi earlier c ≡ matched (matched_by (given (match_in afi q (table_routes afi earlier))) output) =
        due-act (ask q output) e ∙ rw (match-book q mine) in
        as-due _ (table_routes afi earlier) t due (next-asked q output e) is

-- a call on the image of all books
pub due-step : (afi places : ℕ) (earlier : List Call) (c : Call) → KnownFamily afi → places ≤ 500 → Fits afi places earlier → Fits afi places (earlier ++ (c ∷ []))
    → step_of (image_of_books afi places earlier) c ≡ due_step afi places earlier c
unfolding image_of_books on_outcome
due-step afi places earlier c bits most before after =
    step-on afi places (table_routes afi earlier) t (images.imaged afi places (table_routes afi earlier) (holdable-books afi places earlier bits most before)) c
    ∙ argued-cases (λ (o : Outcome Act). on_outcome (λ number. record { call = c; answer = refusal_answer c number; octets = t }) (act_step afi places (table_routes afi earlier) t c) o ≡ due_step afi places earlier c) afi c
    (λ n e. as-due afi places earlier c _ (table_routes afi earlier) t (due-refused afi places earlier c n e) (kept-refused afi places earlier c n e) refl)
    (λ act e k. acted afi places earlier c k.router k.own t refl bits most after e k.known)
  where
    t : List ℕ
    t = image_of afi places (table_routes afi earlier)
