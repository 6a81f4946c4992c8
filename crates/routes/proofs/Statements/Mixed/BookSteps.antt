-- What a book answers to a call, and the book after it (specs/Rules/BookRules.antt, `BookStep`).
use Prim.Native.Nat.{ℕ}
use mathlib.Core.Path.{◌≡◌, refl, sym, ap, subst, ◌∙◌}
use mathlib.Core.List.{List}
use mathlib.Core.Logic.{⊎_elim}
use Rattle.octets.specs.Numbers.{DONE, ABSENT, FLOW}
use Rattle.octets.specs.Outcome.{Outcome, given, refused, on_outcome, and_then}
use Rattle.octets.proofs.Choice.{opposite, pick_true, pick-false, tested}
use Rattle.octets.proofs.Outcome.{never, outcome, stopped, and-goes-on, and-stops, refuses-unless}
use lib.ListN.{length}
use Rattle.nlri.proofs.Theorems.{lengths}
use Rattle.routes.specs.Route.{Route, route, nlri_of, held, holds, Distinct}
use Rattle.routes.specs.Query.{Query}
use Rattle.routes.specs.Arguments.{read_s_pmsi, read_route}
use Rattle.routes.specs.Asked.{Asked, of_flow, of_shared_tree, read_asked}
use Rattle.routes.specs.Place.{AllAcceptable}
use Rattle.routes.specs.Restart.{RestartCall, marking, sweeping, mark_left, read_router}
use Rattle.routes.specs.Answers.{NEW, REPLACED, installed_of, restarted_of, matched_by}
use Rattle.routes.specs.Call.{Call, install, withdraw, restart, match, restarted, Act, enter, leave, renew, ask, argued, refusal_answer}
use Rattle.routes.specs.Book.{entered, act_answer, act_after, book_answer, book_after}
use Rattle.routes.specs.Rules.ArgumentRules.{KnownFamily, RouterSized, SPmsi, Labelled}
use Rattle.routes.specs.Rules.CallRules.{HeldNow}
use Rattle.routes.specs.Rules.BookRules.{RefusedCall, refused_install, refused_withdrawal, refused_restart, refused_flow, refused_tree, BookStep, refusal, replaced_route, new_route, taken_out, not_in_book, marked_book, swept_book, matched_flow, matched_tree}
use Rattle.routes.proofs.Definitions.Lookups.{lookup-entered, held-now, removed-now, held-holds, absent-holds, removed-absent}
use Rattle.routes.proofs.Definitions.Bounds.{route-read}
use Rattle.routes.proofs.Definitions.Ownership.{router-read}
use Rattle.routes.proofs.Definitions.Restarts.{is-renewed}
use Rattle.routes.proofs.Statements.ArgumentRules.{argument_rule, nlri-accepted}
use Rattle.routes.proofs.Definitions.ByArguments.{number-argued}
use Rattle.routes.proofs.Statements.MatchRule.{served-answer, served-flow}
use Rattle.routes.proofs.Statements.SharedTreeRule.{served-tree}

-- an install's NLRI has its attribute
held-entered : (nlri attribute : List ℕ) (book : List Route) → HeldNow nlri (held (route nlri attribute)) book (entered (route nlri attribute) book)
unfolding nlri_of
held-entered nlri attribute book = held-now (route nlri attribute) book _ (λ n. lookup-entered n (route nlri attribute) book)

-- arguments that only the first step refuses
first-refuses : {A B : Type 0} (o : Outcome A) (good : A → B) (n : ℕ) → and_then o (λ x. given (good x)) ≡ refused n → o ≡ refused n
first-refuses o good n e = ⊎_elim (λ first. first) (λ later. absurd (never refl later.second)) (stopped _ _ _ e)

module _ (afi : ℕ) (bits : KnownFamily afi) where
  -- what a call that its arguments refuse answers
  pub refused-call : (c : Call) (n : ℕ) → argued afi c ≡ refused n → RefusedCall afi c (refusal_answer c n)
  unfolding argued read_asked read_router refusal_answer installed_of restarted_of matched_by on_outcome
  refused-call (install nlri attribute) n e =
      refused_install (number-argued afi (install nlri attribute) n e).0 ((argument_rule.refused_route afi nlri attribute n).0 (first-refuses _ _ n e))
  refused-call (withdraw nlri) n e = refused_withdrawal (number-argued afi (withdraw nlri) n e).0 ((argument_rule.refused_nlri afi nlri n).0 (first-refuses _ _ n e))
  refused-call (restart which router) n e =
      let p = refuses-unless FLOW n _ _ (first-refuses _ _ n e) in
      subst (λ (k : ℕ). RefusedCall afi (restart which router) (restarted (record { number = k; gone = 0 }))) (sym p.1)
      (refused_restart (λ s. opposite ((lengths.originators (length router)).1 s) p.0))
  refused-call (match (of_flow flow) output) n e =
      refused_flow (((served-flow flow).refuses afi output n bits).0 (first-refuses _ _ n e)) (record { tierless = refl; sizes = (refl, refl); untouched = refl })
  refused-call (match (of_shared_tree tree) output) n e =
      refused_tree (((served-tree tree).refuses afi output n bits).0 (first-refuses _ _ n e)) (record { tierless = refl; sizes = (refl, refl); untouched = refl })

  module _ {book : List Route} (d : Distinct book) (a : AllAcceptable afi book) where
    by-refusal : (c : Call) (n : ℕ) → argued afi c ≡ refused n → BookStep afi book c (book_answer afi book c) (book_after afi book c)
    unfolding book_answer book_after on_outcome
    by-refusal c n e = rw e (refusal (refused-call c n e))

    by-act : (c : Call) (act : Act) → argued afi c ≡ given act → BookStep afi book c (act_answer afi book act) (act_after afi book act) → BookStep afi book c (book_answer afi book c) (book_after afi book c)
    unfolding book_answer book_after on_outcome
    by-act c act e s = rw e s

    enter_step : (nlri attribute : List ℕ) → SPmsi afi nlri → Labelled attribute
        → BookStep afi book (install nlri attribute) (act_answer afi book (enter (route nlri attribute))) (act_after afi book (enter (route nlri attribute)))
    unfolding act_answer act_after nlri_of
    enter_step nlri attribute s l =
        tested (holds nlri book)
        (λ y. rw (pick_true _ REPLACED NEW y) (replaced_route s l (held-holds nlri book y) (held-entered nlri attribute book)))
        (λ n. rw (pick-false _ REPLACED NEW n) (new_route s l (absent-holds nlri book n) (held-entered nlri attribute book)))

    leave-step : (nlri : List ℕ) → SPmsi afi nlri → BookStep afi book (withdraw nlri) (act_answer afi book (leave nlri)) (act_after afi book (leave nlri))
    unfolding act_answer act_after
    leave-step nlri s =
        tested (holds nlri book)
        (λ y. rw (pick_true _ DONE ABSENT y) (taken_out s (held-holds nlri book y) (removed-now nlri d)))
        (λ n. let missing = absent-holds nlri book n in rw (pick-false _ DONE ABSENT n, removed-absent nlri book missing) (not_in_book s missing))

    -- a mark or a sweep on a book
    renew-step : (which : RestartCall) (router : List ℕ) → RouterSized router
        → BookStep afi book (restart which router) (act_answer afi book (renew which router)) (act_after afi book (renew which router))
    unfolding act_answer act_after restarted_of on_outcome mark_left
    renew-step marking router s = marked_book s (is-renewed afi marking router d)
    renew-step sweeping router s = swept_book s (is-renewed afi sweeping router d)

    ask-step : (asked : Asked) (output : List ℕ) (q : Query) → read_asked afi asked output ≡ given q
        → BookStep afi book (match asked output) (act_answer afi book (ask q output)) (act_after afi book (ask q output))
    unfolding read_asked act_answer act_after
    ask-step (of_flow flow) output q e = let h = ((served-flow flow).takes afi output).0 (q, e) in matched_flow h.0 h.1 (served-answer (served-flow flow) afi output q e book d a)
    ask-step (of_shared_tree tree) output q e = let h = ((served-tree tree).takes afi output).0 (q, e) in matched_tree h.0 h.1 (served-answer (served-tree tree) afi output q e book d a)

    pub book-step : (c : Call) → BookStep afi book c (book_answer afi book c) (book_after afi book c)
    unfolding argued
    book-step (install nlri attribute) =
        ⊎_elim
        (λ p.
        let e : read_route afi nlri attribute ≡ given (route nlri attribute) = p.1 ∙ ap given (route-read afi nlri attribute p.0 p.1) in
        let ok = (argument_rule.accepted_route afi nlri attribute).0 e in
        by-act (install nlri attribute) (enter (route nlri attribute)) (sym (and-goes-on _ _ _ _ e refl)) (enter_step nlri attribute ok.0 ok.1))
        (λ p. by-refusal (install nlri attribute) p.0 (sym (and-stops _ _ _ p.1)))
        (outcome (read_route afi nlri attribute))
    book-step (withdraw nlri) =
        ⊎_elim
        (λ p. by-act (withdraw nlri) (leave nlri) (sym (and-goes-on _ _ _ _ p.1 refl)) (leave-step nlri (nlri-accepted afi nlri p.0 p.1)))
        (λ p. by-refusal (withdraw nlri) p.0 (sym (and-stops _ _ _ p.1)))
        (outcome (read_s_pmsi afi nlri))
    book-step (restart which router) =
        ⊎_elim
        (λ p.
        let r = router-read router p.0 p.1 in
        by-act (restart which router) (renew which router) (sym (and-goes-on _ _ _ _ (p.1 ∙ ap given r.0) refl)) (renew-step which router ((lengths.originators (length router)).0 r.1)))
        (λ p. by-refusal (restart which router) p.0 (sym (and-stops _ _ _ p.1)))
        (outcome (read_router router))
    book-step (match asked output) =
        ⊎_elim
        (λ p. by-act (match asked output) (ask p.0 output) (sym (and-goes-on _ _ _ _ p.1 refl)) (ask-step asked output p.0 p.1))
        (λ p. by-refusal (match asked output) p.0 (sym (and-stops _ _ _ p.1)))
        (outcome (read_asked afi asked output))
