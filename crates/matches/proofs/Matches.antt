-- What a match answers, case by case.
use Prim.Native.Nat.{ℕ, ◌≤◌, ◌<◌}
use native.Mathlib.Omega.{arith}
use mathlib.Core.Path.{◌≡◌, refl, sym, ◌∙◌, ap}
use mathlib.Core.Bool.{true, false}
use mathlib.Core.List.{List}
use borrow.Author.Tests.{lt-ltb, le-ltb}
use lib.ListN.{length}
use Rattle.std.proofs.Common.{Option, Result, Ok, Err, IsErrAnd}
use Rattle.octets.specs.Numbers.{DONE, TABLE, SPACE}
use Rattle.octets.specs.declared.refusal.Refusal.{Refusal}
use Rattle.octets.specs.Refusals.{refusal_number}
use Rattle.routes.specs.declared.MatchedRoute.{MatchedRoute}
use Rattle.octets.specs.Outcome.{Outcome, given, refused, on_outcome, and_then}
use Rattle.octets.specs.Choice.{pick}
use Rattle.octets.proofs.Choice.{pick_true, pick-false, picks, skips, tested}
use Rattle.octets.proofs.Outcome.{and-goes-on, and-stops}
use Rattle.groups.specs.Classes.{class_by}
use Rattle.routes.specs.declared.Matched.{Matched}
use Rattle.routes.specs.Arguments.{read_match}
use Rattle.routes.specs.Asked.{Asked, of_flow, read_asked}
use Rattle.routes.specs.Query.{Query, Flow}
use Rattle.routes.specs.Table.{afi_in, routes_of, sound_of}
use Rattle.routes.specs.Matching.{Found, match_in}
use Rattle.routes.specs.Answers.{empty_match, matched_by, matched_told}
use Rattle.routes.specs.Calls.{match_outcome, match_of}
use Rattle.matches.specs.Scanning.{open_tiers, Sought, sought_of, sought_in, open_query, sized_fault, Taken, Asked as FlowAsked}
use Rattle.matches.specs.declared.tier.Sought.{Sought as Given}
use Rattle.octets.specs.Outputs.{Leaves}
use Rattle.matches.specs.declared.tier.Tiers.{Tiers}
use Rattle.matches.proofs.FlowClasses.{flow-unclassed, flow-missized, flow-taken, flow-some}

by-refusal : (o : Outcome Found) (n : ℕ) (output : List ℕ) (answer : Matched) → o ≡ refused n → answer ≡ empty_match n → Leaves (matched_by o output) answer output
unfolding matched_by on_outcome
by-refusal o n output answer e a = rw e (a, refl)

-- a match of any kind
module _ (t : List ℕ) (asked : Asked) (output : List ℕ) (answer : Matched) where
  -- TABLE
  pub match-unsound : sound_of t ≡ false → answer ≡ empty_match TABLE → Leaves (match_of t asked output) answer output
  unfolding match_of match_outcome
  match-unsound h a = by-refusal _ TABLE output answer (pick-false _ _ _ h) a

  module _ (is : sound_of t ≡ true) where
    judged : match_outcome t asked output ≡ and_then (read_asked (afi_in t) asked output) (λ q. given (match_in (afi_in t) q (routes_of t)))
    unfolding match_outcome
    judged = pick_true _ _ _ is

    -- its arguments
    pub match-stopped : (n : ℕ) → read_asked (afi_in t) asked output ≡ refused n → answer ≡ empty_match n → Leaves (match_of t asked output) answer output
    unfolding match_of
    match-stopped n e a = by-refusal _ n output answer (judged ∙ sym (and-stops _ _ _ e)) a

    -- the route that the rule takes, or none
    pub match-searched : (q : Query) → read_asked (afi_in t) asked output ≡ given q → (left : List ℕ)
        → Leaves (matched_by (given (match_in (afi_in t) q (routes_of t))) output) answer left → Leaves (match_of t asked output) answer left
    unfolding match_of
    match-searched q e left a = rw (judged ∙ sym (and-goes-on _ _ _ _ e refl)) a

-- what a call answers by a refusal
pub told-refused : (result : Result (Option MatchedRoute) Refusal) (r : Refusal) → IsErrAnd result (λ x. x ≡ r) → matched_told result ≡ empty_match (refusal_number r)
told-refused (Ok route) r h = absurd h
told-refused (Err x) r h = ap (λ (y : Refusal). empty_match (refusal_number y)) h

-- the branches of a match of a sound table, by what the class call and the test of sizes told
module _ (t : List ℕ) (flow : Flow) (is : sound_of t ≡ true) (afi : ℕ) (bits : afi ≡ afi_in t) (output : List ℕ) where
  pub answers-unclassed : (n : ℕ) → refused n ≡ class_by afi flow.prefixes flow.group → (answer : Matched) → answer ≡ empty_match n → Leaves (match_of t (of_flow flow) output) answer output
  unfolding read_asked read_match
  answers-unclassed n classed answer a =
      match-stopped t (of_flow flow) output answer is n
      (sym (and-stops _ _ _ (flow-unclassed (afi_in t) flow n (classed ∙ ap (λ (x : ℕ). class_by x flow.prefixes flow.group) bits)))) a

  module _ (class : ℕ) (classed : given class ≡ class_by afi flow.prefixes flow.group) where
    pub classed-its : given class ≡ class_by (afi_in t) flow.prefixes flow.group
    classed-its = classed ∙ ap (λ (x : ℕ). class_by x flow.prefixes flow.group) bits

    pub answers-missized : (fault : ℕ) → fault ≡ sized_fault DONE (length flow.router) (length flow.source) (length flow.group) → (fault ≡ DONE → ⊥)
        → (answer : Matched) → answer ≡ empty_match fault → Leaves (match_of t (of_flow flow) output) answer output
    unfolding read_asked read_match
    answers-missized fault told some answer a =
        match-stopped t (of_flow flow) output answer is fault (sym (and-stops _ _ _ (flow-missized (afi_in t) flow class classed-its fault told some))) a

    module _ (sized : DONE ≡ sized_fault DONE (length flow.router) (length flow.source) (length flow.group)) where
      pub answers-space : length output < 124 → (answer : Matched) → answer ≡ empty_match SPACE → Leaves (match_of t (of_flow flow) output) answer output
      unfolding read_asked read_match
      answers-space h answer a =
          match-stopped t (of_flow flow) output answer is SPACE (sym (and-goes-on _ _ _ _ (flow-taken (afi_in t) flow class classed-its sized) (picks _ _ _ _ (lt-ltb _ _ h) refl))) a

      pub answers-search : 124 ≤ length output → (tiers : Tiers) → tiers ≡ open_tiers class → (answer : Matched) (left : List ℕ)
          → Leaves (matched_by (given (match_in (afi_in t) (open_query (sought_of flow.router flow.source flow.group) tiers) (routes_of t))) output) answer left → Leaves (match_of t (of_flow flow) output) answer left
      unfolding read_asked read_match open_query
      answers-search h tiers shows answer left a =
          match-searched t (of_flow flow) output answer is _ (sym (and-goes-on _ _ _ _ (flow-taken (afi_in t) flow class classed-its sized) (skips _ _ _ _ (le-ltb _ _ h) refl))) left (rw shows at a)

-- a memory that is tested: no table where there is a refusal
module _ (t : List ℕ) (n : ℕ) (told : n ≡ pick (sound_of t) DONE TABLE) where
  pub told-sound : n ≡ DONE → sound_of t ≡ true
  told-sound none = tested (sound_of t) (λ is. is) (λ fails. let z : TABLE ≡ DONE = sym (pick-false _ _ _ fails) ∙ sym told ∙ none in absurd (omega arith))

  pub told-unsound : (n ≡ DONE → ⊥) → (asked : Asked) (output : List ℕ) (answer : Matched) → answer ≡ empty_match n → Leaves (match_of t asked output) answer output
  told-unsound some asked output answer a =
      tested (sound_of t) (λ is. absurd (some (told ∙ pick_true _ _ _ is))) (λ fails. match-unsound t asked output answer fails (a ∙ ap empty_match (told ∙ pick-false _ _ _ fails)))

-- what asking by a flow tells, by a refusal that is handed on
pub asked-refused : (t : List ℕ) (flow : Flow) (room : ℕ) (result : Result Given Refusal) (r : Refusal) → IsErrAnd result (λ x. x ≡ r)
    → ((output : List ℕ) → length output ≡ room → Leaves (match_of t (of_flow flow) output) (empty_match (refusal_number r)) output) → FlowAsked t flow room result
asked-refused t flow room (Ok sought) r h f = absurd h
asked-refused t flow room (Err x) r h f = λ output l. rw (ap refusal_number h) (f output l)

-- what is sought can be searched for
module _ (t : List ℕ) (flow : Flow) (room : ℕ) (sought : Given) (taken : Taken t flow room sought) where
  pub taken-some : (0 < length sought.source.now) × (0 < length sought.group.now) × (4 ≤ length sought.router.now)
  taken-some =
      let some = flow-some (afi_in t) flow.prefixes flow.group taken.class taken.classed _ _ taken.sized in
      let r : length sought.router.now ≡ length flow.router = ap (λ (s : Sought). length s.router) taken.its in
      let s : length sought.source.now ≡ length flow.source = ap (λ (s : Sought). length s.source) taken.its in
      let g : length sought.group.now ≡ length flow.group = ap (λ (s : Sought). length s.group) taken.its in
      (omega (arith, some.0), omega (arith, some.1), omega (arith, some.2))

  -- the search gives the answer
  pub taken-search : (output : List ℕ) → length output ≡ room → (answer : Matched) (left : List ℕ)
      → Leaves (matched_by (given (match_in (afi_in t) (open_query (sought_in sought) sought.tiers) (routes_of t))) output) answer left → Leaves (match_of t (of_flow flow) output) answer left
  taken-search output l answer left a =
      answers-search t flow taken.sound (afi_in t) refl output taken.class taken.classed taken.sized (omega (arith, taken.roomy)) sought.tiers taken.opens answer left (rw taken.its at a)
