-- Owners, the premise, and the books with their image (specs/Rules/BookRules.antt).
use Prim.Native.Nat.{ℕ, ◌≤◌}
use mathlib.Core.Path.{◌≡◌, refl, sym, ap, subst, subst₂, ◌∙◌}
use mathlib.Core.Bool.{true, false}
use mathlib.Core.List.{List, [], ◌∷◌, ◌++◌}
use mathlib.Core.Logic.{⊎_elim}
use lib.ListN.{length}
use Rattle.octets.specs.Outcome.{Outcome, given, refused, number_of}
use Rattle.octets.specs.Lists.{Among, chosen}
use Rattle.octets.proofs.Choice.{opposite, tested, picked, is_false}
use Rattle.nlri.proofs.Theorems.{lengths}
use Rattle.routes.specs.Route.{Route, nlri_of, held, lookup, arranged}
use Rattle.routes.specs.Rules.ArgumentRules.{KnownFamily}
use Rattle.routes.specs.Asked.{of_flow, of_shared_tree, asked_router}
use Rattle.routes.specs.Call.{Call, install, withdraw, restart, match, Owner, nobody, owner, originator_of, address_owner, owner_of, owned_by, owns, Act, argued, refusal_of}
use Rattle.routes.specs.Book.{book_after, fed, own_calls, book_of, all_books, due_answer}
use Rattle.routes.specs.Run.{image_of_books, named_by, Fits}
use Rattle.routes.specs.Rules.BookRules.{BelongsTo, own_install, own_withdrawal, own_restart, own_match, own_shared_match, Nobodys, OwnerRule, PremiseRule, RefusedCall, BookStep, BookRule, ImageRule}
use Rattle.routes.proofs.Definitions.Lookups.{held-absent, lookup-arranged, lookup-member, lookup-of-member}
use Rattle.routes.proofs.Definitions.Increases.{distinct-increasing}
use Rattle.routes.proofs.Statements.Images.{images}
use Rattle.routes.proofs.Definitions.OnceEach.{once-each-among, among-once-each, once-once-each}
use Rattle.octets.proofs.Chosen.{chosen-first, chosen-later}
use Rattle.routes.proofs.Definitions.Ownership.{owner-nobody, owners-same, owned-by, owned-itself, address-owner, match-owner, originated, originator}
use Rattle.routes.proofs.Definitions.Acts.{owned}
use Rattle.routes.proofs.Definitions.Named.{named-exactly}
use Rattle.routes.proofs.Definitions.AllBooks.{distinct-book, acceptable-book, lookup-foreign, lookup-all, lookup-nobody, distinct-all, increasing-books, holdable-books}
use Rattle.routes.proofs.Statements.Mixed.DueSteps.{due-owned, due-nobody}
use Rattle.routes.proofs.Statements.Mixed.Reorders.{own-then, own-not}
use Rattle.routes.proofs.Statements.Mixed.BookSteps.{refused-call, book-step}

-- owners

pub belongs : (afi : ℕ) (router : List ℕ) (c : Call) → owner_of afi c ≡ owner router → BelongsTo afi router c
unfolding owner_of asked_router address_owner
belongs afi router (install nlri attribute) h = own_install (originated afi router nlri h)
belongs afi router (withdraw nlri) h = own_withdrawal (originated afi router nlri h)
belongs afi router (restart which named) h =
    ⊎_elim
    (λ p.
    let is : named ≡ router = owners-same refl p.1 in
    subst (λ (x : List ℕ). BelongsTo afi router (restart which x)) (sym is) (own_restart (rw is at ((lengths.originators (length named)).0 p.0))))
    (λ p. absurd (owner-nobody refl p.1))
    (picked _ _ _ _ h)
belongs afi router (match (of_flow flow) output) h =
    ⊎_elim
    (λ p. let is : flow.router ≡ router = owners-same refl p.1 in own_match is (rw is at ((lengths.originators (length flow.router)).0 p.0)))
    (λ p. absurd (owner-nobody refl p.1))
    (picked _ _ _ _ h)
belongs afi router (match (of_shared_tree tree) output) h =
    ⊎_elim
    (λ p. let is : tree.router ≡ router = owners-same refl p.1 in own_shared_match is (rw is at ((lengths.originators (length tree.router)).0 p.0)))
    (λ p. absurd (owner-nobody refl p.1))
    (picked _ _ _ _ h)

belonging : {afi : ℕ} {router : List ℕ} {c : Call} → BelongsTo afi router c → owner_of afi c ≡ owner router
unfolding owner_of asked_router
belonging {afi} {router} (own_install {nlri} s) = originator afi router nlri s
belonging {afi} {router} (own_withdrawal {nlri} s) = originator afi router nlri s
belonging {afi} {router} (own_restart size) = address-owner router ((lengths.originators (length router)).1 size)
belonging {afi} {router} (own_match {flow} {output} is size) = match-owner afi (of_flow flow) output (rw is ((lengths.originators (length router)).1 size)) ∙ ap owner is
belonging {afi} {router} (own_shared_match {tree} {output} is size) = match-owner afi (of_shared_tree tree) output (rw is ((lengths.originators (length router)).1 size)) ∙ ap owner is

nobodys-owner : (afi : ℕ) (c : Call) → Nobodys afi c → owner_of afi c ≡ nobody
nobodys-owner afi c h = go (owner_of afi c) refl
  where
    go : (o : Owner) → owner_of afi c ≡ o → owner_of afi c ≡ nobody
    go nobody e = e
    go (owner router) e = absurd (h router (belongs afi router c e))

-- a call that belongs to a router is one of its own
pub owns-true : {afi : ℕ} {router : List ℕ} {c : Call} → BelongsTo afi router c → owns afi router c ≡ true
owns-true {afi} {router} {c} b = owned-itself router (owner_of afi c) (belonging b)

-- and one that does not is not
pub owns-false : (afi : ℕ) (router : List ℕ) (c : Call) → (BelongsTo afi router c → ⊥) → owns afi router c ≡ false
owns-false afi router c h = is_false _ (λ t. h (belongs afi router c (owned-by router (owner_of afi c) t)))

pub owner_rule : OwnerRule
unfolding chosen
owner_rule =
    record {
      belongs = λ afi router c. (belongs afi router c, belonging);
      nobodys = λ afi c. (λ h router b. owner-nobody h (belonging b), nobodys-owner afi c);
      none = λ afi router. refl;
      own = λ afi router c cs b. chosen-first _ c cs (owns-true b);
      foreign = λ afi router c cs h. chosen-later _ c cs (owns-false afi router c h);
    }

-- the premise

pub premise_rule : PremiseRule
premise_rule =
    record {
      exactly = λ afi calls nlri. (λ m. (named-exactly afi nlri calls).0 (once-each-among (named_by afi calls) m), λ p. among-once-each (named_by afi calls) ((named-exactly afi nlri calls).1 p));
      once = λ afi calls. once-once-each (named_by afi calls);
    }

-- books

fed_then : (afi : ℕ) (book : List Route) (calls : List Call) (c : Call) → fed afi book (calls ++ (c ∷ [])) ≡ book_after afi (fed afi book calls) c
unfolding fed
fed_then afi book [] c = refl
fed_then afi book (b ∷ calls) c = fed_then afi (book_after afi book b) calls c

module _ (afi : ℕ) (bits : KnownFamily afi) where
  book-none : (router : List ℕ) → book_of afi router [] ≡ []
  unfolding book_of fed chosen
  book-none router = refl

  book-own : (router : List ℕ) (earlier : List Call) (c : Call) → BelongsTo afi router c
      → BookStep afi (book_of afi router earlier) c (due_answer afi earlier c) (book_of afi router (earlier ++ (c ∷ [])))
  unfolding book_of
  book-own router earlier c b =
      subst₂ (BookStep afi (book_of afi router earlier) c) (sym (due-owned afi earlier c router (belonging b)))
      (sym (ap (fed afi []) (own-then afi router earlier c (owns-true b)) ∙ fed_then afi [] (own_calls afi router earlier) c))
      (book-step afi bits (distinct-book afi router earlier) (acceptable-book afi router earlier) c)

  book-foreign : (router : List ℕ) (earlier : List Call) (c : Call) → (BelongsTo afi router c → ⊥) → book_of afi router (earlier ++ (c ∷ [])) ≡ book_of afi router earlier
  unfolding book_of
  book-foreign router earlier c h = ap (fed afi []) (own-not afi router earlier c (owns-false afi router c h))

  nobodys-due : (earlier : List Call) (c : Call) → Nobodys afi c → RefusedCall afi c (due_answer afi earlier c)
  unfolding refusal_of number_of
  nobodys-due earlier c h = go (argued afi c) refl
    where
      go : (o : Outcome Act) → argued afi c ≡ o → RefusedCall afi c (due_answer afi earlier c)
      go (given act) e = absurd (owner-nobody (nobodys-owner afi c h) (owned afi c act e).own)
      go (refused n) e = subst (RefusedCall afi c) (sym (due-nobody afi earlier c (nobodys-owner afi c h) ∙ rw e)) (refused-call afi bits c n e)

  pub book_rule : BookRule afi
  book_rule =
      record {
        none = book-none;
        own = book-own;
        foreign = book-foreign;
        nobodys = nobodys-due;
        distinct = λ router calls. distinct-book afi router calls;
        apart = distinct-all afi;
      }

-- their image

module _ (afi : ℕ) (calls : List Call) where
  gathered-from : (r : Route) → Among r (arranged (all_books afi calls)) → (router : List ℕ) × Among r (book_of afi router calls)
  gathered-from r m = go (originator_of afi (nlri_of r)) refl
    where
      all : lookup (nlri_of r) (all_books afi calls) ≡ held r
      all = sym (lookup-arranged (nlri_of r) (all_books afi calls)) ∙ lookup-of-member (distinct-increasing (increasing-books afi calls)) m

      go : (o : Owner) → originator_of afi (nlri_of r) ≡ o → (router : List ℕ) × Among r (book_of afi router calls)
      go nobody e = absurd (held-absent all (lookup-nobody afi (nlri_of r) calls e))
      go (owner router) e = (router, (lookup-member (book_of afi router calls) (sym (lookup-all afi router (nlri_of r) calls e) ∙ all)).0)

  gathered-in : (r : Route) (router : List ℕ) → Among r (book_of afi router calls) → Among r (arranged (all_books afi calls))
  gathered-in r router m =
      let book : lookup (nlri_of r) (book_of afi router calls) ≡ held r = lookup-of-member (distinct-book afi router calls) m in
      tested (owned_by router (originator_of afi (nlri_of r)))
      (λ t.
      let own = owned-by router (originator_of afi (nlri_of r)) t in
      (lookup-member (arranged (all_books afi calls)) (lookup-arranged (nlri_of r) (all_books afi calls) ∙ lookup-all afi router (nlri_of r) calls own ∙ book)).0)
      (λ f. absurd (held-absent book (lookup-foreign afi router (nlri_of r) calls (λ e. opposite (owned-itself router _ e) f))))

  pub image-rule : (places : ℕ) → KnownFamily afi → places ≤ 500 → Fits afi places calls → ImageRule afi places calls
  unfolding image_of_books
  image-rule places bits most fits =
      let h = holdable-books afi places calls bits most fits in
      record {
        routes = arranged (all_books afi calls);
        holdable = h;
        table = images.imaged afi places (arranged (all_books afi calls)) h;
        exactly = λ r. (gathered-from r, λ p. gathered-in r p.0 p.1);
      }
