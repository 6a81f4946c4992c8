-- Answers: a router's own do not depend on the other calls, so that another order that keeps each router's own gives the same answers and
-- the same end.
use Prim.Native.Nat.{ℕ}
use mathlib.Core.Path.{◌≡◌, refl, sym, ap, ap₂, subst₂, ◌∙◌}
use mathlib.Core.Bool.{true, false}
use mathlib.Core.List.{List, [], ◌∷◌, ◌++◌, append-nil}
use Rattle.octets.proofs.Choice.{tested}
use Rattle.octets.specs.Lists.{PutIn, front, behind, Rearranged, chosen}
use Rattle.routes.specs.Route.{lookup}
use Rattle.routes.specs.Table.{image_of}
use Rattle.routes.specs.Call.{Call, Answer, Owner, nobody, owner, originator_of, owner_of, owns, is_nobody, refusal_of, refusal_answer}
use Rattle.routes.specs.Book.{fed, own_calls, nobodys_calls, book_of, book_answer, all_books, due_answer}
use Rattle.routes.specs.Run.{Answered, image_of_books}
use Rattle.routes.proofs.Definitions.Lookups.{lookup-arranged}
use Rattle.routes.proofs.Definitions.Increases.{increasing-equal}
use Rattle.routes.proofs.Definitions.Ownership.{owned-by}
use Rattle.routes.proofs.Definitions.AllBooks.{lookup-all, lookup-nobody, increasing-books}
use Rattle.routes.proofs.Statements.Mixed.DueSteps.{due_answers, due-owned, due-nobody}
use Rattle.octets.proofs.Chosen.{chosen-first, chosen-later, chosen-append, chosen-passes, chosen-all, chosen-rearranged}
use Rattle.routes.proofs.Definitions.ByOwner.{is-nobody, by-owner}

module _ (afi : ℕ) (router : List ℕ) where
  pub own-again : (calls : List Call) → own_calls afi router (own_calls afi router calls) ≡ own_calls afi router calls
  own-again calls = chosen-all _ (own_calls afi router calls) (λ c m. chosen-passes _ calls m)

  due-own : (earlier : List Call) (c : Call) → owns afi router c ≡ true → due_answer afi earlier c ≡ due_answer afi (own_calls afi router earlier) c
  unfolding book_of
  due-own earlier c t =
      due-owned afi earlier c router (owned-by router (owner_of afi c) t)
      ∙ ap (λ (l : List Call). book_answer afi (fed afi [] l) c) (sym (own-again earlier))
      ∙ sym (due-owned afi (own_calls afi router earlier) c router (owned-by router (owner_of afi c) t))

  pub own-then : (earlier : List Call) (c : Call) → owns afi router c ≡ true → own_calls afi router (earlier ++ (c ∷ [])) ≡ own_calls afi router earlier ++ (c ∷ [])
  unfolding chosen
  own-then earlier c t = chosen-append _ earlier (c ∷ []) ∙ ap (λ (l : List Call). own_calls afi router earlier ++ l) (chosen-first (owns afi router) c [] t)

  pub own-not : (earlier : List Call) (c : Call) → owns afi router c ≡ false → own_calls afi router (earlier ++ (c ∷ [])) ≡ own_calls afi router earlier
  unfolding chosen
  own-not earlier c f = chosen-append _ earlier (c ∷ []) ∙ ap (λ (l : List Call). own_calls afi router earlier ++ l) (chosen-later (owns afi router) c [] f) ∙ append-nil (own_calls afi router earlier)

  -- what is due to a router's own calls is what is due to them alone
  pub own-answers : (earlier calls : List Call)
      → chosen (λ a. owns afi router a.call) (due_answers afi earlier calls) ≡ due_answers afi (own_calls afi router earlier) (own_calls afi router calls)
  unfolding due_answers chosen
  own-answers earlier [] = refl
  own-answers earlier (c ∷ cs) =
      let rest = own-answers (earlier ++ (c ∷ [])) cs in
      tested (owns afi router c)
      (λ t.
      chosen-first _ (record { call = c; answer = due_answer afi earlier c }) (due_answers afi (earlier ++ (c ∷ [])) cs) t
      ∙ ap₂ (λ (a : Answer) (l : List Answered). record { call = c; answer = a } ∷ l) (due-own earlier c t)
      (rest ∙ ap (λ (l : List Call). due_answers afi l (own_calls afi router cs)) (own-then earlier c t))
      ∙ sym (ap (due_answers afi (own_calls afi router earlier)) (chosen-first _ c cs t)))
      (λ f.
      chosen-later _ (record { call = c; answer = due_answer afi earlier c }) (due_answers afi (earlier ++ (c ∷ [])) cs) f
      ∙ rest
      ∙ ap (λ (l : List Call). due_answers afi l (own_calls afi router cs)) (own-not earlier c f)
      ∙ sym (ap (due_answers afi (own_calls afi router earlier)) (chosen-later _ c cs f)))

-- nobody's answers are their refusals

refusals : ℕ → List Call → List Answered
refusals afi [] = []
refusals afi (c ∷ cs) = record { call = c; answer = refusal_answer c (refusal_of afi c) } ∷ refusals afi cs

put-refusals : (afi : ℕ) {c : Call} {xs ys : List Call} → PutIn c xs ys → PutIn (record { call = c; answer = refusal_answer c (refusal_of afi c) }) (refusals afi xs) (refusals afi ys)
unfolding refusals
put-refusals afi front = front
put-refusals afi (behind p) = behind (put-refusals afi p)

rearranged-refusals : (afi : ℕ) {xs ys : List Call} → Rearranged xs ys → Rearranged (refusals afi xs) (refusals afi ys)
unfolding refusals
rearranged-refusals afi Rearranged.none = Rearranged.none
rearranged-refusals afi (Rearranged.one p r) = Rearranged.one (put-refusals afi p) (rearranged-refusals afi r)

nobodys-answers : (afi : ℕ) (earlier calls : List Call) → chosen (λ a. is_nobody (owner_of afi a.call)) (due_answers afi earlier calls) ≡ refusals afi (nobodys_calls afi calls)
unfolding due_answers chosen refusals
nobodys-answers afi earlier [] = refl
nobodys-answers afi earlier (c ∷ cs) =
    let rest = nobodys-answers afi (earlier ++ (c ∷ [])) cs in
    tested (is_nobody (owner_of afi c))
    (λ t.
    chosen-first _ (record { call = c; answer = due_answer afi earlier c }) (due_answers afi (earlier ++ (c ∷ [])) cs) t
    ∙ ap₂ (λ (a : Answer) (l : List Answered). record { call = c; answer = a } ∷ l) (due-nobody afi earlier c (is-nobody (owner_of afi c) t)) rest
    ∙ sym (ap (refusals afi) (chosen-first _ c cs t)))
    (λ f. chosen-later _ (record { call = c; answer = due_answer afi earlier c }) (due_answers afi (earlier ++ (c ∷ [])) cs) f ∙ rest ∙ sym (ap (refusals afi) (chosen-later _ c cs f)))

-- another order

module _ (afi : ℕ) (calls others : List Call) (kept : (router : List ℕ) → own_calls afi router others ≡ own_calls afi router calls) where
  -- the same is due to each router's own calls
  pub same-own : (router : List ℕ) → chosen (λ a. owns afi router a.call) (due_answers afi [] others) ≡ chosen (λ a. owns afi router a.call) (due_answers afi [] calls)
  same-own router =
      own-answers afi router [] others
      ∙ ap (due_answers afi (own_calls afi router [])) (kept router)
      ∙ sym (own-answers afi router [] calls)

  -- and to all calls, rearranged
  pub same-answers : Rearranged calls others → Rearranged (due_answers afi [] calls) (due_answers afi [] others)
  same-answers order =
      by-owner (λ (a : Answered). owner_of afi a.call) _ _ (λ router. sym (same-own router))
      (subst₂ (λ (x y : List Answered). Rearranged x y) (sym (nobodys-answers afi [] calls)) (sym (nobodys-answers afi [] others)) (rearranged-refusals afi (chosen-rearranged _ order)))

-- calls with the same own calls for every router have the same books
pub same_books : (afi places : ℕ) (xs ys : List Call) → ((router : List ℕ) → own_calls afi router xs ≡ own_calls afi router ys) → image_of_books afi places xs ≡ image_of_books afi places ys
unfolding image_of_books book_of
same_books afi places xs ys h =
    ap (image_of afi places)
    (increasing-equal (increasing-books afi xs) (increasing-books afi ys)
    (λ nlri. lookup-arranged nlri (all_books afi xs) ∙ alike nlri (originator_of afi nlri) refl ∙ sym (lookup-arranged nlri (all_books afi ys))))
  where
    alike : (nlri : List ℕ) (w : Owner) → originator_of afi nlri ≡ w → lookup nlri (all_books afi xs) ≡ lookup nlri (all_books afi ys)
    alike nlri nobody e = lookup-nobody afi nlri xs e ∙ sym (lookup-nobody afi nlri ys e)
    alike nlri (owner router) e =
        lookup-all afi router nlri xs e ∙ ap (λ (l : List Call). lookup nlri (fed afi [] l)) (h router) ∙ sym (lookup-all afi router nlri ys e)
