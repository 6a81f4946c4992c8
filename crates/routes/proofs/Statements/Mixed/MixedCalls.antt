-- The claim on mixed calls (specs/Rules/MixedCalls.antt).
use Prim.Native.Nat.{ℕ, ◌≤◌}
use mathlib.Core.Path.{◌≡◌, refl, sym, ap, subst₂, ◌∙◌}
use mathlib.Core.List.{List, [], ◌∷◌, ◌++◌}
use Rattle.octets.specs.Numbers.{DONE}
use Rattle.octets.specs.Lists.{Rearranged, chosen}
use Rattle.routes.specs.Route.{arranged}
use Rattle.routes.specs.Table.{image_of, places_in}
use Rattle.routes.specs.Calls.{make_of}
use Rattle.routes.specs.Call.{Call, install, withdraw, restart, match, owns}
use Rattle.routes.specs.Book.{own_calls, once_each, routers_of, gathered, all_books}
use Rattle.routes.specs.Run.{Step, step_of, run_from, end_of, Answered, answers_in, image_of_books, Fits}
use Rattle.routes.specs.Rules.ArgumentRules.{KnownFamily}
use Rattle.routes.specs.Rules.MixedCalls.{RunRule, Alone, Reordered, Alike, Claim, MixedCalls}
use Rattle.routes.proofs.Statements.Images.{images}
use Rattle.routes.proofs.Statements.MakeRules.{made-holdable}
use Rattle.octets.proofs.Chosen.{chosen-among, chosen-first, chosen-later}
use Rattle.octets.proofs.Among.{among-rearranged}
use Rattle.routes.proofs.Statements.Mixed.Runs.{fits-drawn, fits-earlier, next-step, answers-due, end-due}
use Rattle.routes.proofs.Statements.Mixed.DueSteps.{due_step, due_answers}
use Rattle.routes.proofs.Statements.Mixed.Reorders.{own-answers, same-own, same-answers, same_books}
use Rattle.routes.proofs.Statements.Mixed.BookRules.{owns-true, owns-false, owner_rule, premise_rule, book_rule, image-rule}
use Rattle.routes.proofs.Statements.Mixed.Turns.{in-turn}

-- a table just made holds the books of no call
made-books : (afi places : ℕ) → image_of afi places [] ≡ image_of_books afi places []
unfolding image_of_books arranged all_books gathered once_each routers_of
made-books afi places = refl

module _ (afi places : ℕ) (bits : KnownFamily afi) (most : places ≤ 500) (t : List ℕ) (is : t ≡ image_of_books afi places []) where
  -- the answers of calls are those that are due to them
  runs : (calls : List Call) → Fits afi places calls → answers_in (run_from t calls) ≡ due_answers afi [] calls
  runs calls fits = ap (λ (x : List ℕ). answers_in (run_from x calls)) is ∙ answers-due afi places bits most [] calls fits

  -- their end is the image of all books
  ends : (calls : List Call) → Fits afi places calls → end_of t calls ≡ image_of_books afi places calls
  ends calls fits = ap (λ (x : List ℕ). end_of x calls) is ∙ end-due afi places bits most [] calls fits

  module _ (calls : List Call) (fits : Fits afi places calls) where
    -- a call among them gets what is due to it
    due : (earlier : List Call) (c : Call) (later : List Call) → calls ≡ earlier ++ (c ∷ later) → step_of (end_of t earlier) c ≡ due_step afi places earlier c
    due earlier c later e =
        let more : Fits afi places (earlier ++ (c ∷ later)) = rw e at fits in
        ap (λ (x : List ℕ). step_of x c) (ends earlier (fits-earlier afi places earlier (c ∷ later) more)) ∙ next-step afi places bits most earlier c later more

    -- a router's own calls alone
    alone : (router : List ℕ) → Alone afi places t calls router
    unfolding chosen
    alone router =
        let own : Fits afi places (own_calls afi router calls) = fits-drawn afi places (own_calls afi router calls) calls (λ c m. chosen-among _ calls m) fits in
        record { fits = own; answers = ap (chosen (λ a. owns afi router a.call)) (runs calls fits) ∙ own-answers afi router [] calls ∙ sym (runs (own_calls afi router calls) own) }

    -- the same calls in another order
    any_order : (others : List Call) → Reordered afi calls others → Alike afi places t calls others
    any_order others order =
        let more : Fits afi places others = fits-drawn afi places others calls (λ c m. among-rearranged order.rearranged m) fits in
        let here = sym (runs calls fits) in
        let there = sym (runs others more) in
        record {
          fits = more;
          answers = subst₂ (λ (x y : List Answered). Rearranged x y) here there (same-answers afi calls others order.kept order.rearranged);
          own =
              λ router.
              subst₂ (λ (x y : List Answered). chosen (λ a. owns afi router a.call) y ≡ chosen (λ a. owns afi router a.call) x) here there
              (same-own afi calls others order.kept router);
          end = ends others more ∙ same_books afi places others calls order.kept ∙ sym (ends calls fits);
        }

    -- all of it
    claim : Claim afi places t calls
    unfolding due_step
    claim = record { due = due; image = image-rule afi calls places bits most fits; alone = alone; any_order = any_order; turn = in-turn afi calls }

-- on a table just made
mixed : (afi : ℕ) (memory : List ℕ) (calls : List Call) → (make_of afi memory).answer ≡ DONE → Fits afi (places_in memory) calls → Claim afi (places_in memory) (make_of afi memory).octets calls
mixed afi memory calls done fits =
    let made = made-holdable afi memory done in
    claim afi (places_in memory) made.family made.most (make_of afi memory).octets (images.made afi memory done ∙ made-books afi (places_in memory)) calls fits

-- one more call
end-then : (t : List ℕ) (earlier : List Call) (c : Call) → end_of t (earlier ++ (c ∷ [])) ≡ (step_of (end_of t earlier) c).octets
unfolding end_of
end-then t [] c = refl
end-then t (b ∷ earlier) c = end-then (step_of t b).octets earlier c

-- a list of calls as one call after others and before others
each : (t : List ℕ) (earlier : List Call) (c : Call) (later : List Call)
    → run_from t (earlier ++ (c ∷ later)) ≡ run_from t earlier ++ (step_of (end_of t earlier) c ∷ run_from (end_of t (earlier ++ (c ∷ []))) later)
unfolding run_from end_of
each t [] c later = refl
each t (b ∷ earlier) c later = ap (λ (l : List Step). step_of t b ∷ l) (each (step_of t b).octets earlier c later)

-- the first answer, and those that follow
answered : (t : List ℕ) (c : Call) (cs : List Call) → answers_in (run_from t (c ∷ cs)) ≡ record { call = c; answer = (step_of t c).answer } ∷ answers_in (run_from (step_of t c).octets cs)
unfolding run_from answers_in step_of
answered t (install nlri attribute) cs = refl
answered t (withdraw nlri) cs = refl
answered t (restart which router) cs = refl
answered t (match asked output) cs = refl

-- steps, ends and runs
run-rule : RunRule
unfolding step_of end_of run_from answers_in chosen
run-rule =
    record {
      installs = λ t nlri attribute. refl;
      withdrawals = λ t nlri. refl;
      marks = λ t router. refl;
      sweeps = λ t router. refl;
      matches = λ t asked output. refl;
      start = λ t. refl;
      end = end-then;
      none = λ t. refl;
      each = each;
      unanswered = refl;
      answers = answered;
      none_own = λ afi router. refl;
      own = λ afi router s steps b. chosen-first _ (record { call = s.call; answer = s.answer }) (answers_in steps) (owns-true b);
      foreign = λ afi router s steps h. chosen-later _ (record { call = s.call; answer = s.answer }) (answers_in steps) (owns-false afi router s.call h);
    }

pub mixed_calls : MixedCalls
mixed_calls = record { claim = mixed; run = run-rule; owners = owner_rule; premise = premise_rule; books = book_rule }
