-- Laws of books fed calls: what one router's book and all books together hold of an NLRI, and that a table can hold all of them.
use Prim.Native.Nat.{ℕ, ◌≤◌}
use mathlib.Core.Path.{◌≡◌, refl, sym, ap, ◌∙◌}
use mathlib.Core.List.{List, [], ◌∷◌, ◌++◌}
use mathlib.Core.Logic.{⊎_elim}
use native.Mathlib.Nat.{le_trans}
use lib.ListN.{length}
use Rattle.octets.proofs.Choice.{opposite, tested, is_true}
use Rattle.octets.proofs.Orders.{same-equal, same-of-equal, other-unequal}
use Rattle.routes.specs.Route.{Route, nlri_of, Held, absent, held, lookup, arranged, Distinct, Increasing}
use Rattle.routes.specs.Place.{AllAcceptable}
use Rattle.routes.specs.Rules.ArgumentRules.{KnownFamily}
use Rattle.routes.specs.Rules.Images.{Holdable}
use Rattle.routes.specs.Call.{Call, Owner, nobody, owner, originator_of, owner_of, owns}
use Rattle.routes.specs.Book.{book_after, fed, own_calls, book_of, is_among, once_each, with_owner, routers_of, gathered, all_books}
use Rattle.routes.specs.Run.{named_in, named_by, Fits}
use Rattle.octets.specs.Lists.{Among, first, later, Once, chosen}
use Rattle.routes.proofs.Definitions.Lookups.{lookup-none, lookup_first, lookup-later, lookup-own, lookup-cases, lookup-arranged, held-or-absent, held-absent, held-holds}
use Rattle.routes.proofs.Definitions.Increases.{increasing-arranged, distinct-increasing, acceptable-arranged, acceptable-member}
use Rattle.octets.proofs.Among.{among-left, among-right, among_cases}
use Rattle.routes.proofs.Definitions.OnceEach.{is-among-true, among-is-among, among-once-each, once-once-each, routes-fewer}
use Rattle.octets.proofs.Chosen.{chosen-first, chosen-later}
use Rattle.routes.proofs.Definitions.Ownership.{owner-nobody, owners-same, acceptable-after-none, owned-itself, owned-by}
use Rattle.routes.proofs.Definitions.Books.{held_after, held_after_all, lookup-after, distinct-after, acceptable-after, held-apart, installed-held}

-- whose calls

-- a router among some stays among them and a call's owner
beside-owner : {router : List ℕ} {routers : List (List ℕ)} (o : Owner) → Among router routers → Among router (with_owner o routers)
unfolding with_owner
beside-owner nobody m = m
beside-owner (owner other) m = later m

pub own-none : (afi : ℕ) (router : List ℕ) (calls : List Call) → (Among router (routers_of afi calls) → ⊥) → own_calls afi router calls ≡ []
unfolding routers_of chosen with_owner
own-none afi router [] h = refl
own-none afi router (c ∷ cs) h =
    tested (owns afi router c)
    (λ t. absurd (h (rw (owned-by router (owner_of afi c) t) (first refl))))
    (λ f. chosen-later _ c cs f ∙ own-none afi router cs (λ m. h (beside-owner (owner_of afi c) m)))

-- fed books

fed-kept : (P : List Route → Type 0) (afi : ℕ) → ((c : Call) (book : List Route) → P book → P (book_after afi book c)) → (book : List Route) (calls : List Call) → P book → P (fed afi book calls)
unfolding fed
fed-kept P afi step book [] p = p
fed-kept P afi step book (c ∷ cs) p = fed-kept P afi step (book_after afi book c) cs (step c book p)

pub distinct-book : (afi : ℕ) (router : List ℕ) (calls : List Call) → Distinct (book_of afi router calls)
unfolding book_of
distinct-book afi router calls = fed-kept Distinct afi (λ c book d. distinct-after afi c d) [] (own_calls afi router calls) Distinct.none

pub acceptable-book : (afi : ℕ) (router : List ℕ) (calls : List Call) → AllAcceptable afi (book_of afi router calls)
unfolding book_of
acceptable-book afi router calls = fed-kept (AllAcceptable afi) afi (λ c book a. acceptable-after afi c a) [] (own_calls afi router calls) AllAcceptable.none

-- of its own NLRIs a router's book holds what its calls, and so all calls, leave
fed-own : (afi : ℕ) (router nlri : List ℕ) → originator_of afi nlri ≡ owner router → (calls : List Call) {book : List Route} → Distinct book
    → lookup nlri (fed afi book (own_calls afi router calls)) ≡ held_after_all afi calls nlri (lookup nlri book)
unfolding fed held_after_all chosen
fed-own afi router nlri own [] d = refl
fed-own afi router nlri own (c ∷ cs) {book} d =
    tested (owns afi router c)
    (λ t.
    ap (λ (l : List Call). lookup nlri (fed afi book l)) (chosen-first _ c cs t)
    ∙ fed-own afi router nlri own cs (distinct-after afi c d)
    ∙ ap (held_after_all afi cs nlri) (lookup-after afi nlri c d))
    (λ f.
    ap (λ (l : List Call). lookup nlri (fed afi book l)) (chosen-later _ c cs f)
    ∙ fed-own afi router nlri own cs d
    ∙ ap (held_after_all afi cs nlri) (sym (held-apart afi nlri c (lookup nlri book) (λ other p q. opposite (owned-itself router (owner_of afi c) (rw (owners-same own p) q)) f))))

lookup-book : (afi : ℕ) (router nlri : List ℕ) (calls : List Call) → originator_of afi nlri ≡ owner router → lookup nlri (book_of afi router calls) ≡ held_after_all afi calls nlri absent
unfolding book_of
lookup-book afi router nlri calls own = fed-own afi router nlri own calls Distinct.none ∙ ap (held_after_all afi calls nlri) (lookup-none nlri)

-- and nothing of the others
fed-foreign : (afi : ℕ) (router nlri : List ℕ) → (originator_of afi nlri ≡ owner router → ⊥) → (calls : List Call) {book : List Route} → Distinct book
    → lookup nlri (fed afi book (own_calls afi router calls)) ≡ lookup nlri book
unfolding fed chosen
fed-foreign afi router nlri foreign [] d = refl
fed-foreign afi router nlri foreign (c ∷ cs) {book} d =
    tested (owns afi router c)
    (λ t.
    ap (λ (l : List Call). lookup nlri (fed afi book l)) (chosen-first _ c cs t)
    ∙ fed-foreign afi router nlri foreign cs (distinct-after afi c d)
    ∙ lookup-after afi nlri c d
    ∙ held-apart afi nlri c (lookup nlri book) (λ other p q. foreign (rw (owners-same (owned-by router (owner_of afi c) t) q) p)))
    (λ f. ap (λ (l : List Call). lookup nlri (fed afi book l)) (chosen-later _ c cs f) ∙ fed-foreign afi router nlri foreign cs d)

pub lookup-foreign : (afi : ℕ) (router nlri : List ℕ) (calls : List Call) → (originator_of afi nlri ≡ owner router → ⊥) → lookup nlri (book_of afi router calls) ≡ absent
unfolding book_of
lookup-foreign afi router nlri calls foreign = fed-foreign afi router nlri foreign calls Distinct.none ∙ lookup-none nlri

-- all books together

lookup-append-held : (nlri : List ℕ) (a : Route) (xs ys : List Route) → lookup nlri xs ≡ held a → lookup nlri (xs ++ ys) ≡ held a
lookup-append-held nlri a [] ys h = absurd (held-absent h (lookup-none nlri))
lookup-append-held nlri a (r ∷ xs) ys h =
    lookup-cases nlri r xs (λ t e. lookup_first nlri r (xs ++ ys) (same-of-equal _ _ t) ∙ sym e ∙ h) (λ f e. lookup-later nlri r (xs ++ ys) f ∙ lookup-append-held nlri a xs ys (sym e ∙ h))

lookup-append-absent : (nlri : List ℕ) (xs ys : List Route) → lookup nlri xs ≡ absent → lookup nlri (xs ++ ys) ≡ lookup nlri ys
lookup-append-absent nlri [] ys h = refl
lookup-append-absent nlri (r ∷ xs) ys h =
    lookup-cases nlri r xs (λ t e. absurd (held-absent e h)) (λ f e. lookup-later nlri r (xs ++ ys) f ∙ lookup-append-absent nlri xs ys (sym e ∙ h))

lookup-gathered-foreign : (afi : ℕ) (nlri : List ℕ) (routers : List (List ℕ)) (calls : List Call) → ((router : List ℕ) → Among router routers → originator_of afi nlri ≡ owner router → ⊥)
    → lookup nlri (gathered afi routers calls) ≡ absent
unfolding gathered
lookup-gathered-foreign afi nlri [] calls h = lookup-none nlri
lookup-gathered-foreign afi nlri (router ∷ routers) calls h =
    lookup-append-absent nlri (book_of afi router calls) (gathered afi routers calls) (lookup-foreign afi router nlri calls (h router (first refl)))
    ∙ lookup-gathered-foreign afi nlri routers calls (λ other m. h other (later m))

-- no NLRI stands in two books

distinct_append : {xs ys : List Route} → Distinct xs → Distinct ys → ((nlri : List ℕ) → (lookup nlri xs ≡ absent → ⊥) → lookup nlri ys ≡ absent) → Distinct (xs ++ ys)
distinct_append Distinct.none b apart = b
distinct_append {ys = ys} (Distinct.one {r} {rs} h a) b apart =
    Distinct.one (lookup-append-absent (nlri_of r) rs ys h ∙ apart (nlri_of r) (held-absent (lookup-own r rs)))
    (distinct_append a b (λ nlri m. apart nlri (λ n. lookup-cases nlri r rs (λ t e. held-absent e n) (λ f e. m (sym e ∙ n)))))

distinct-gathered : (afi : ℕ) {routers : List (List ℕ)} (calls : List Call) → Once routers → Distinct (gathered afi routers calls)
unfolding gathered
distinct-gathered afi calls Once.none = Distinct.none
distinct-gathered afi calls (Once.one {x = router} {xs = routers} n o) =
    distinct_append (distinct-book afi router calls) (distinct-gathered afi calls o)
    (λ nlri m. lookup-gathered-foreign afi nlri routers calls (λ other a q. m (lookup-foreign afi router nlri calls (λ p. n (rw (owners-same p q) a)))))

pub distinct-all : (afi : ℕ) (calls : List Call) → Distinct (all_books afi calls)
unfolding all_books
distinct-all afi calls = distinct-gathered afi calls (once-once-each (routers_of afi calls))

-- what all books hold of a router's NLRI

lookup-gathered-own : (afi : ℕ) (router nlri : List ℕ) (routers : List (List ℕ)) (calls : List Call) → originator_of afi nlri ≡ owner router → Among router routers
    → lookup nlri (gathered afi routers calls) ≡ lookup nlri (book_of afi router calls)
unfolding gathered
lookup-gathered-own afi router nlri [] calls own m = elim m [ ]
lookup-gathered-own afi router nlri (other ∷ routers) calls own m =
    ⊎_elim
    (λ p.
    let e : other ≡ router = same-equal other router (is_true _ (λ f. held-absent p.1 (lookup-foreign afi other nlri calls (λ q. other-unequal other router f (owners-same q own))))) in
    rw (← e) (lookup-append-held nlri p.0 (book_of afi other calls) (gathered afi routers calls) p.1 ∙ sym p.1))
    (λ p.
    lookup-append-absent nlri (book_of afi other calls) (gathered afi routers calls) p
    ∙ tested (is_among router routers)
    (λ t. lookup-gathered-own afi router nlri routers calls own (is-among-true routers t))
    (λ f.
    let e : router ≡ other = ⊎_elim (λ q. q) (λ a. absurd (opposite (among-is-among a) f)) (among_cases m) in
    lookup-gathered-foreign afi nlri routers calls (λ x a q. opposite (among-is-among (rw (owners-same own q) a)) f) ∙ sym p ∙ rw e))
    (held-or-absent nlri (book_of afi other calls))

-- all books hold of an NLRI what its router's book holds
pub lookup-all : (afi : ℕ) (router nlri : List ℕ) (calls : List Call) → originator_of afi nlri ≡ owner router → lookup nlri (all_books afi calls) ≡ lookup nlri (book_of afi router calls)
unfolding all_books book_of fed
lookup-all afi router nlri calls own =
    tested (is_among router (once_each (routers_of afi calls)))
    (λ t. lookup-gathered-own afi router nlri (once_each (routers_of afi calls)) calls own (is-among-true _ t))
    (λ f.
    let nowhere : own_calls afi router calls ≡ [] = own-none afi router calls (λ m. opposite (among-is-among (among-once-each (routers_of afi calls) m)) f) in
    lookup-gathered-foreign afi nlri (once_each (routers_of afi calls)) calls (λ x a q. opposite (among-is-among (rw (owners-same own q) a)) f)
    ∙ sym (lookup-none nlri)
    ∙ ap (λ (l : List Call). lookup nlri (fed afi [] l)) (sym nowhere))

pub lookup-nobody : (afi : ℕ) (nlri : List ℕ) (calls : List Call) → originator_of afi nlri ≡ nobody → lookup nlri (all_books afi calls) ≡ absent
unfolding all_books
lookup-nobody afi nlri calls h = lookup-gathered-foreign afi nlri (once_each (routers_of afi calls)) calls (λ router m q. owner-nobody h q)

-- whatever the owner, what all calls leave
held-nobody : (afi : ℕ) (nlri : List ℕ) (calls : List Call) (h : Held) → originator_of afi nlri ≡ nobody → held_after_all afi calls nlri h ≡ h
unfolding held_after_all
held-nobody afi nlri [] h own = refl
held-nobody afi nlri (c ∷ cs) h own = held-nobody afi nlri cs (held_after afi c nlri h) own ∙ held-apart afi nlri c h (λ router p q. owner-nobody own p)

lookup-all-after : (afi : ℕ) (nlri : List ℕ) (calls : List Call) → lookup nlri (all_books afi calls) ≡ held_after_all afi calls nlri absent
lookup-all-after afi nlri calls = go (originator_of afi nlri) refl
  where
    go : (o : Owner) → originator_of afi nlri ≡ o → lookup nlri (all_books afi calls) ≡ held_after_all afi calls nlri absent
    go nobody e = lookup-nobody afi nlri calls e ∙ sym (held-nobody afi nlri calls absent e)
    go (owner router) e = lookup-all afi router nlri calls e ∙ lookup-book afi router nlri calls e

held-append : (afi : ℕ) (nlri : List ℕ) (xs ys : List Call) (h : Held) → held_after_all afi (xs ++ ys) nlri h ≡ held_after_all afi ys nlri (held_after_all afi xs nlri h)
unfolding held_after_all
held-append afi nlri [] ys h = refl
held-append afi nlri (c ∷ xs) ys h = held-append afi nlri xs ys (held_after afi c nlri h)

-- one call more
pub lookup-all-next : (afi : ℕ) (nlri : List ℕ) (earlier : List Call) (c : Call) → lookup nlri (all_books afi (earlier ++ (c ∷ []))) ≡ held_after afi c nlri (lookup nlri (all_books afi earlier))
unfolding held_after_all
lookup-all-next afi nlri earlier c =
    lookup-all-after afi nlri (earlier ++ (c ∷ [])) ∙ held-append afi nlri earlier (c ∷ []) absent ∙ ap (held_after afi c nlri) (sym (lookup-all-after afi nlri earlier))

-- what is held was named by an install

held-named : (afi : ℕ) (nlri : List ℕ) (calls : List Call) (a : Route) → held_after_all afi calls nlri absent ≡ held a → Among nlri (named_by afi calls)
unfolding held_after_all named_by
held-named afi nlri [] a h = absurd (held-absent h refl)
held-named afi nlri (c ∷ cs) a h = go (held_after afi c nlri absent) refl h (held-named afi nlri cs a)
  where
    go : (x : Held) → held_after afi c nlri absent ≡ x → held_after_all afi cs nlri x ≡ held a → (held_after_all afi cs nlri absent ≡ held a → Among nlri (named_by afi cs)) → Among nlri (named_by afi (c ∷ cs))
    go absent e k again = among-right (named_in afi c) (again k)
    go (held b) e k again = among-left (named_by afi cs) (installed-held afi nlri c b e)

-- a table can hold all books

acceptable-append : {afi : ℕ} {xs ys : List Route} → AllAcceptable afi xs → AllAcceptable afi ys → AllAcceptable afi (xs ++ ys)
acceptable-append AllAcceptable.none b = b
acceptable-append (AllAcceptable.one h a) b = AllAcceptable.one h (acceptable-append a b)

acceptable-gathered : (afi : ℕ) (routers : List (List ℕ)) (calls : List Call) → AllAcceptable afi (gathered afi routers calls)
unfolding gathered
acceptable-gathered afi [] calls = AllAcceptable.none
acceptable-gathered afi (router ∷ routers) calls = acceptable-append (acceptable-book afi router calls) (acceptable-gathered afi routers calls)

acceptable-all : (afi : ℕ) (calls : List Call) → AllAcceptable afi (all_books afi calls)
unfolding all_books
acceptable-all afi calls = acceptable-gathered afi (once_each (routers_of afi calls)) calls

pub increasing-books : (afi : ℕ) (calls : List Call) → Increasing [] (arranged (all_books afi calls))
increasing-books afi calls = increasing-arranged [] (all_books afi calls) (λ r m. acceptable-after-none afi r (acceptable-member (acceptable-all afi calls) m))

length-books : (afi : ℕ) (calls : List Call) → length (arranged (all_books afi calls)) ≤ length (once_each (named_by afi calls))
length-books afi calls =
    routes-fewer (named_by afi calls) (distinct-increasing (increasing-books afi calls))
    (λ nlri h.
    let p = held-holds nlri (arranged (all_books afi calls)) h in
    held-named afi nlri calls p.0 (sym (lookup-all-after afi nlri calls) ∙ sym (lookup-arranged nlri (all_books afi calls)) ∙ p.1))

pub holdable-books : (afi places : ℕ) (calls : List Call) → KnownFamily afi → places ≤ 500 → Fits afi places calls → Holdable afi places (arranged (all_books afi calls))
holdable-books afi places calls bits most fits =
    record {
      family = bits;
      most = most;
      within = le_trans (length-books afi calls) fits;
      acceptable = acceptable-arranged (acceptable-all afi calls);
      increasing = increasing-books afi calls;
    }
