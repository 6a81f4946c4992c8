-- Runs of calls: the premise holds of every list of calls drawn from one of which it holds, and under it each call gets what is due to it.
use Prim.Native.Nat.{ℕ, ◌≤◌}
use mathlib.Core.Path.{◌≡◌, refl, ap, ap₂, ◌∙◌}
use mathlib.Core.List.{List, [], ◌∷◌, ◌++◌, append_assoc, append-nil}
use native.Mathlib.Nat.{le_trans}
use Rattle.routes.specs.Rules.ArgumentRules.{KnownFamily}
use Rattle.routes.specs.Call.{Call, install}
use Rattle.routes.specs.Run.{Step, step_of, run_from, end_of, Answered, answers_in, image_of_books, named_by, Fits}
use Rattle.octets.specs.Lists.{Among}
use Rattle.octets.proofs.Among.{among-left}
use Rattle.routes.proofs.Definitions.OnceEach.{once-each-fewer}
use Rattle.routes.proofs.Definitions.Named.{named-exactly}
use Rattle.routes.proofs.Statements.Mixed.DueSteps.{due_step, due_answers, due-step}

-- the premise

named-drawn : (afi : ℕ) (xs ys : List Call) → ((c : Call) → Among c xs → Among c ys) → (nlri : List ℕ) → Among nlri (named_by afi xs) → Among nlri (named_by afi ys)
named-drawn afi xs ys h nlri m =
    let p = (named-exactly afi nlri xs).0 m in
    (named-exactly afi nlri ys).1 (p.0, (p.1.0, h (install nlri p.1.0) p.1.1))

-- calls that are all among others fit where those do
pub fits-drawn : (afi places : ℕ) (xs ys : List Call) → ((c : Call) → Among c xs → Among c ys) → Fits afi places ys → Fits afi places xs
fits-drawn afi places xs ys h fits = le_trans (once-each-fewer (named_by afi xs) (named_by afi ys) (named-drawn afi xs ys h)) fits

-- and so do the first of them
pub fits-earlier : (afi places : ℕ) (xs ys : List Call) → Fits afi places (xs ++ ys) → Fits afi places xs
fits-earlier afi places xs ys fits = fits-drawn afi places xs (xs ++ ys) (λ c m. among-left ys m) fits

-- a run on the image of all books

module _ (afi places : ℕ) (bits : KnownFamily afi) (most : places ≤ 500) where
  -- one call
  pub next-step : (earlier : List Call) (c : Call) (cs : List Call) → Fits afi places (earlier ++ (c ∷ cs)) → step_of (image_of_books afi places earlier) c ≡ due_step afi places earlier c
  next-step earlier c cs fits =
      due-step afi places earlier c bits most (fits-earlier afi places earlier (c ∷ cs) fits) (fits-earlier afi places (earlier ++ (c ∷ [])) cs (rw append_assoc fits))

  -- the octets after it
  next-octets : (earlier : List Call) (c : Call) (cs : List Call) → Fits afi places (earlier ++ (c ∷ cs)) → (step_of (image_of_books afi places earlier) c).octets ≡ image_of_books afi places (earlier ++ (c ∷ []))
  unfolding due_step
  next-octets earlier c cs fits = ap (λ (s : Step). s.octets) (next-step earlier c cs fits)

  -- the answers of all calls
  pub answers-due : (earlier calls : List Call) → Fits afi places (earlier ++ calls) → answers_in (run_from (image_of_books afi places earlier) calls) ≡ due_answers afi earlier calls
  unfolding run_from answers_in due_step due_answers
  answers-due earlier [] fits = refl
  answers-due earlier (c ∷ cs) fits =
      ap₂ (λ (x : Step) (l : List Answered). record { call = x.call; answer = x.answer } ∷ l) (next-step earlier c cs fits)
      (ap (λ (t : List ℕ). answers_in (run_from t cs)) (next-octets earlier c cs fits) ∙ answers-due (earlier ++ (c ∷ [])) cs (rw append_assoc fits))

  -- the octets after all calls
  pub end-due : (earlier calls : List Call) → Fits afi places (earlier ++ calls) → end_of (image_of_books afi places earlier) calls ≡ image_of_books afi places (earlier ++ calls)
  unfolding end_of
  end-due earlier [] fits = rw append-nil
  end-due earlier (c ∷ cs) fits =
      ap (λ (t : List ℕ). end_of t cs) (next-octets earlier c cs fits)
      ∙ end-due (earlier ++ (c ∷ [])) cs (rw append_assoc fits)
      ∙ ap (image_of_books afi places) (append_assoc earlier (c ∷ []) cs)
