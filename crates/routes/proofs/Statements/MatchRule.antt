-- Match (specs/Rules/MatchRule.antt): the route that a flow takes, each answer exactly when, and what is told.
use Prim.Native.Nat.{ℕ, ◌+◌, ◌≤◌, ◌<◌}
use mathlib.Core.Path.{◌≡◌, refl, sym, ◌∙◌, subst}
use mathlib.Core.Bool.{true}
use mathlib.Core.List.{List, ◌∷◌, ◌++◌, append_assoc}
use mathlib.Core.Logic.{◌↔◌, ◌≢◌, ⊎_elim}
use native.Mathlib.Omega.{arith}
use lib.ListN.{length, get_or, drop, length-append}
use lib.Seq.{take-append_seam, drop-append_seam}
use Rattle.octets.specs.Numbers.{DONE}
use Rattle.octets.specs.Outcome.{Outcome, given, refused, on_outcome, number_of}
use Rattle.octets.specs.Octets.{part, front}
use Rattle.octets.specs.Lists.{Among}
use Rattle.octets.proofs.Lists.{length_front, past-front}
use Rattle.octets.proofs.Choice.{pick_true, pick-false, picked}
use Rattle.octets.proofs.Outcome.{never, given-unless, passed, stopped, refused-same, and-goes-on, and-stops, refused-of, number-refused, number-given, done-given}
use Rattle.nlri.specs.Fields.{Fields}
use Rattle.routes.specs.Route.{Route, nlri_of, attribute_of, Distinct}
use Rattle.routes.specs.Place.{AllAcceptable}
use Rattle.routes.specs.Query.{meets, Query, Flow}
use Rattle.routes.specs.Arguments.{read_flow}
use Rattle.routes.specs.Asked.{Asked, of_flow, read_asked}
use Rattle.routes.specs.Table.{afi_in, routes_of, sound_of}
use Rattle.routes.specs.Matching.{Found, nothing, found, match_in}
use Rattle.routes.specs.Answers.{found_answer, found_output, matched_by}
use Rattle.routes.specs.Calls.{match_outcome, match_of}
use Rattle.routes.specs.Rules.ArgumentRules.{KnownFamily, GoodFlow, FlowRefusal}
use Rattle.routes.specs.Rules.MatchRule.{InTier, Eligible, Taken, NoneTaken, Told, Untold, MatchAnswer, one_told, none_told, MatchRefusal, match_unsound, bad_match, TableMatch, TablesDifferInMarks, MatchRule}
use Rattle.routes.proofs.Statements.ArgumentRules.{argument_rule, flow-passed}
use Rattle.routes.proofs.Definitions.ByArguments.{number-asked}
use Rattle.routes.proofs.Definitions.Increases.{acceptable-member, distinct-increasing}
use Rattle.routes.proofs.Definitions.Bounds.{Sized, sizes-of}
use Rattle.routes.proofs.Statements.Images.{sound-holdable}
use Rattle.routes.proofs.Definitions.Matching.Flows.{asked-router, flow-asked}
use Rattle.routes.proofs.Definitions.Matching.First.{wanted_at, match-without, put-behind, match-tunnel}
use Rattle.routes.proofs.Definitions.Matching.MatchMarks.{matched-marks}
use Rattle.routes.proofs.Statements.MatchOver.{tables-same}
use Rattle.routes.proofs.Statements.Taken.{found_first, found-taken, nothing-taken, flow-exactly}

-- two lists at the front of a third, one straight after the other
front-two : (n a d : List ℕ) → length n + length a ≤ length d
    → (length (front (n ++ a) d) ≡ length d)
    × (part (front (n ++ a) d) 0 (length n) ≡ n)
    × (part (front (n ++ a) d) (length n) (length a) ≡ a)
    × ((i : ℕ) → length n + length a ≤ i → get_or (front (n ++ a) d) i 0 ≡ get_or d i 0)
unfolding front part
front-two n a d h =
    let rest : List ℕ = drop (length (n ++ a)) d in (
      length_front (n ++ a) d (omega (arith, length-append n a)),
      rw append_assoc (take-append_seam n (a ++ rest)),
      rw (append_assoc, drop-append_seam n (a ++ rest)) (take-append_seam a rest),
      λ i low. past-front (n ++ a) d i (rw length-append low),
    )

pub found_number : (output : List ℕ) (f : Found) → (matched_by (given f) output).answer.number ≡ DONE
unfolding matched_by on_outcome found_answer
found_number output nothing = refl
found_number output (found tier r) = refl

-- the number by the outcome
pub matched-number : (output : List ℕ) (o : Outcome Found) → (matched_by o output).answer.number ≡ number_of o
unfolding matched_by on_outcome number_of
matched-number output (given f) = found_number output f
matched-number output (refused n) = refl

-- a query that asks of a router what the conditions of its tiers say
pub record Asks (afi : ℕ) (router : List ℕ) (In : (tier : ℕ) → Fields → Type 0) (q : Query) : Type 0 where
  pub of : q.router ≡ router
  pub exactly : (tier : ℕ) (f : Fields) → (meets (wanted_at 1 tier q.tiers) f ≡ true) ↔ In tier f

pub nothing-untold : (output : List ℕ) → Untold output (matched_by (given nothing) output)
unfolding matched_by on_outcome found_answer found_output
nothing-untold output = record { tierless = refl; sizes = (refl, refl); untouched = refl }

pub found-told : (output : List ℕ) → 124 ≤ length output → (tier : ℕ) (r : Route) → Sized r → Told tier r output (matched_by (given (found tier r)) output)
unfolding matched_by on_outcome found_answer found_output
found-told output enough tier r sized =
    let fits : length (nlri_of r) + length (attribute_of r) ≤ 124 = omega (arith, sized.nlri, sized.attribute) in
    let fronts = front-two (nlri_of r) (attribute_of r) output (omega arith) in
    record {
      number = refl;
      of_tier = refl;
      sizes = (refl, refl);
      most = fits;
      size = fronts.0;
      nlri = fronts.1;
      attribute = fronts.2;
      past = fronts.3;
    }

-- what a match of any kind comes to, over any routes that a table or a book may hold
module _ {afi : ℕ} {router : List ℕ} {In : (tier : ℕ) → Fields → Type 0} {q : Query} (asks : Asks afi router In q) (rs : List Route) where
  pub asks-found : Distinct rs → (tier : ℕ) (r : Route) → (match_in afi q rs ≡ found tier r) ↔ Taken afi router In rs tier r
  asks-found d tier r = subst (λ (x : List ℕ). (match_in afi q rs ≡ found tier r) ↔ Taken afi x In rs tier r) asks.of (found-taken afi q In asks.exactly rs d tier r)

  pub asks-first : (tier : ℕ) (r : Route) → match_in afi q rs ≡ found tier r
      → Among r rs × Eligible afi router In tier r × ((other : ℕ) (u : Route) → other < tier → Among u rs → Eligible afi router In other u → ⊥)
  asks-first tier r e =
      subst (λ (x : List ℕ). Among r rs × Eligible afi x In tier r × ((other : ℕ) (u : Route) → other < tier → Among u rs → Eligible afi x In other u → ⊥)) asks.of
      (found_first afi q In asks.exactly rs tier r e)

  pub asks_nothing : (match_in afi q rs ≡ nothing) ↔ NoneTaken afi router In rs
  asks_nothing = subst (λ (x : List ℕ). (match_in afi q rs ≡ nothing) ↔ NoneTaken afi x In rs) asks.of (nothing-taken afi q In asks.exactly rs)

  pub asks-answer : (output : List ℕ) → 124 ≤ length output → Distinct rs → AllAcceptable afi rs → MatchAnswer afi router In output rs (matched_by (given (match_in afi q rs)) output)
  asks-answer output enough d a = go (match_in afi q rs) refl
    where
      go : (f : Found) → match_in afi q rs ≡ f → MatchAnswer afi router In output rs (matched_by (given f) output)
      go nothing x = none_told (asks_nothing.0 x) (found_number output nothing) (nothing-untold output)
      go (found tier r) x =
          let taken = (asks-found d tier r).0 x in
          one_told tier r taken (found-told output enough tier r (sizes-of afi r (acceptable-member a taken.member)))

-- what is shown of a kind of match, from which its answers over a table and over a book follow
pub record Served (asked : Asked) (router : List ℕ) (Good : (afi : ℕ) → Type 0) (Refusal : (output : List ℕ) (afi : ℕ) → ℕ → Type 0) (In : (afi tier : ℕ) → Fields → Type 0) : Type 0 where
  pub refuses : (afi : ℕ) (output : List ℕ) (n : ℕ) → KnownFamily afi → (read_asked afi asked output ≡ refused n) ↔ Refusal output afi n
  pub takes : (afi : ℕ) (output : List ℕ) → ((q : Query) × (read_asked afi asked output ≡ given q)) ↔ (Good afi × (124 ≤ length output))
  pub asks : (afi : ℕ) (output : List ℕ) (q : Query) → read_asked afi asked output ≡ given q → Asks afi router (In afi) q

-- a match of any kind
module _ {asked : Asked} {router : List ℕ} {Good : (afi : ℕ) → Type 0} {Refusal : (output : List ℕ) (afi : ℕ) → ℕ → Type 0} {In : (afi tier : ℕ) → Fields → Type 0} (served : Served asked router Good Refusal In) where
  -- over routes that a table or a book holds
  pub served-answer : (afi : ℕ) (output : List ℕ) (q : Query) → read_asked afi asked output ≡ given q → (rs : List Route) → Distinct rs → AllAcceptable afi rs
      → MatchAnswer afi router (In afi) output rs (matched_by (given (match_in afi q rs)) output)
  served-answer afi output q e rs d a = asks-answer (served.asks afi output q e) rs output ((served.takes afi output).0 (q, e)).1 d a

  -- over a table
  module _ (t output : List ℕ) where
    number : (match_of t asked output).answer.number ≡ number_of (match_outcome t asked output)
    unfolding match_of
    number = matched-number output (match_outcome t asked output)

    refusal : (n : ℕ) → match_outcome t asked output ≡ refused n → MatchRefusal (Refusal output) t n
    unfolding match_outcome
    refusal n e =
        ⊎_elim
        (λ yes.
        ⊎_elim (λ first. bad_match yes.0 ((served.refuses (afi_in t) output n (sound-holdable t yes.0).family).0 first))
        (λ later. absurd (never refl later.second))
        (stopped _ _ _ yes.1))
        (λ no. subst (MatchRefusal (Refusal output) t) (refused-same {A = Found} no.1) (match_unsound no.0))
        (picked _ _ _ _ e)

    refuses : {n : ℕ} → MatchRefusal (Refusal output) t n → match_outcome t asked output ≡ refused n
    unfolding match_outcome
    refuses (match_unsound h) = pick-false _ _ _ h
    refuses (bad_match s r) = pick_true _ _ _ s ∙ sym (and-stops _ _ _ ((served.refuses (afi_in t) output _ (sound-holdable t s).family).1 r))

    not_done : {n : ℕ} → MatchRefusal (Refusal output) t n → n ≢ DONE
    not_done (match_unsound h) e = omega arith
    not_done (bad_match s r) e = (number-asked (afi_in t) asked output _ ((served.refuses (afi_in t) output _ (sound-holdable t s).family).1 r)).0 e

    -- good arguments, on a sound table
    served-outcome : (q : Query) → sound_of t ≡ true → read_asked (afi_in t) asked output ≡ given q → match_outcome t asked output ≡ given (match_in (afi_in t) q (routes_of t))
    unfolding match_outcome
    served-outcome q sound e = pick_true _ _ _ sound ∙ sym (and-goes-on _ _ _ _ e refl)

    -- a match that is done: on a sound table, with arguments that come to a query
    done : (match_of t asked output).answer.number ≡ DONE → (sound_of t ≡ true) × ((q : Query) × (read_asked (afi_in t) asked output ≡ given q))
    unfolding match_outcome
    done e =
        let p = done-given _ (λ n r. not_done (refusal n r)) (sym number ∙ e) in
        let s = given-unless _ _ _ _ p.1 in
        let q = passed _ _ _ s.1 in
        (s.0, (q.value, q.first))

    serves : sound_of t ≡ true → (q : Query) × (read_asked (afi_in t) asked output ≡ given q) → (match_of t asked output).answer.number ≡ DONE
    serves s q = number ∙ number-given (served-outcome q.0 s q.1)

    answered : (match_of t asked output).answer.number ≡ DONE → MatchAnswer (afi_in t) router (In (afi_in t)) output (routes_of t) (match_of t asked output)
    unfolding match_of
    answered e =
        let h = done e in
        let holdable = sound-holdable t h.0 in
        subst (λ (o : Outcome Found). MatchAnswer (afi_in t) router (In (afi_in t)) output (routes_of t) (matched_by o output)) (sym (served-outcome h.1.0 h.0 h.1.1))
        (served-answer (afi_in t) output h.1.0 h.1.1 (routes_of t) (distinct-increasing holdable.increasing) holdable.acceptable)

    refused-untold : (match_of t asked output).answer.number ≢ DONE → Untold output (match_of t asked output)
    unfolding match_of matched_by on_outcome
    refused-untold = go (match_outcome t asked output)
      where
        go : (o : Outcome Found) → (matched_by o output).answer.number ≢ DONE → Untold output (matched_by o output)
        go (given f) h = absurd (h (found_number output f))
        go (refused n) h = record { tierless = refl; sizes = (refl, refl); untouched = refl }

  pub table-match : TableMatch asked router Good Refusal In
  table-match =
      record {
        refuses = λ t output n h. (λ e. refusal t output n (refused-of _ n (sym e ∙ number t output) h), λ r. number t output ∙ number-refused (refuses t output r));
        done = λ t output. (
          λ e. let h = done t output e in let g = (served.takes (afi_in t) output).0 h.1 in (h.0, g.0, g.1),
          λ h. serves t output h.0 ((served.takes (afi_in t) output).1 (h.1, h.2)),
        );
        answers = answered;
        untold = refused-untold;
      }

flow-asks : (afi : ℕ) (flow : Flow) (q : Query) → read_flow afi flow ≡ given q → Asks afi flow.router (InTier afi flow) q
flow-asks afi flow q e = let a = flow-asked afi flow q e in record { of = asked-router a; exactly = λ tier f. flow-exactly afi flow q a f tier }

pub served-flow : (flow : Flow) → Served (of_flow flow) flow.router (λ afi. GoodFlow afi flow) (λ output afi. FlowRefusal afi flow output) (λ afi. InTier afi flow)
unfolding read_asked
served-flow flow =
    record {
      refuses = λ afi output n. argument_rule.refused_flow afi flow output n;
      takes = λ afi output. argument_rule.accepted_flow afi flow output;
      asks = λ afi output q e. flow-asks afi flow q (flow-passed afi flow output q e).0;
    }

-- marks change no answer
pub match-marks : (t u : List ℕ) (asked : Asked) (output : List ℕ) → TablesDifferInMarks t u → match_of t asked output ≡ match_of u asked output
match-marks t u asked output d = tables-same asked output t u d.sound.0 d.sound.1 d.family (λ q e. matched-marks (afi_in u) q output d.routes)

-- a route that is not taken may come or go
match-untaken : (afi : ℕ) (q : Query) (earlier later : List Route) (r : Route) → ((tier : ℕ) → match_in afi q (earlier ++ (r ∷ later)) ≢ found tier r)
    → match_in afi q (earlier ++ (r ∷ later)) ≡ match_in afi q (earlier ++ later)
match-untaken afi q earlier later r other = ⊎_elim (λ p. absurd (other p.0 p.1)) (λ same. same) (match-without afi q (put-behind r earlier later))

pub match_rule : MatchRule
match_rule =
    record {
      arguments = λ prefixes router source group. (refl, refl, refl, refl);
      untaken = match-untaken;
      ignored = λ afi q earlier later r none. match-untaken afi q earlier later r (λ tier e. none (match-tunnel afi q (earlier ++ (r ∷ later)) tier r e));
      marks = match-marks;
      chosen = λ afi flow q rs e. asks-found (flow-asks afi flow q e) rs;
      none = λ afi flow q rs e. asks_nothing (flow-asks afi flow q e) rs;
      table = λ flow. table-match (served-flow flow);
    }
