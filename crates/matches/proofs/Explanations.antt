-- What an explanation answers, case by case: as a match, with its reasons.
use Prim.Native.Nat.{ℕ}
use mathlib.Core.Path.{◌≡◌, sym, ◌∙◌, ap}
use mathlib.Core.List.{List}
use borrow.Author.Tests.{eq-eqb, ne_eqb}
use lib.ListN.{length}
use Rattle.std.proofs.Common.{Result, Ok, Err, IsErrAnd}
use Rattle.octets.specs.declared.refusal.Refusal.{Refusal}
use Rattle.octets.specs.Refusals.{refusal_number}
use Rattle.routes.specs.declared.Explanation.{Explanation}
use Rattle.octets.specs.Outcome.{given, on_outcome}
use Rattle.octets.proofs.Choice.{pick_true, pick-false}
use Rattle.nlri.specs.Groups.{group_of}
use Rattle.routes.specs.declared.Matched.{Matched}
use Rattle.routes.specs.declared.Explained.{Explained}
use Rattle.routes.specs.Query.{Flow}
use Rattle.routes.specs.Asked.{of_flow}
use Rattle.routes.specs.Table.{afi_in, routes_of}
use Rattle.routes.specs.Matching.{match_in}
use Rattle.routes.specs.Answers.{empty_match, matched_by}
use Rattle.routes.specs.Calls.{match_of}
use Rattle.routes.specs.Reasons.{reasons_of, refused_explanation, explained, explain_of, explained_told}
use Rattle.routes.proofs.Statements.MatchRule.{found_number}
use Rattle.matches.specs.Scanning.{open_tiers, sought_in, open_query, reasons_by, Taken}
use Rattle.matches.specs.declared.tier.Sought.{Sought as Given}
use Rattle.octets.specs.Outputs.{Leaves}
use Rattle.matches.proofs.Matches.{taken-search}

module _ (t : List ℕ) (flow : Flow) (output : List ℕ) where
  -- by a match that refuses
  pub explains-refused : (n : ℕ) → (n ≡ 0 → ⊥) → (answer : Explained) → answer ≡ refused_explanation n → Leaves (match_of t (of_flow flow) output) (empty_match n) output → Leaves (explain_of t flow output) answer output
  unfolding explain_of explained
  explains-refused n some answer a m = (a ∙ rw (← m.0) (ap (λ (l : List ℕ). record { matched = empty_match n; reasons = l }) (sym (pick-false _ _ _ (ne_eqb _ _ some)))), m.1)

-- what was sought gives the route, and the reasons by the tiers that are open
module _ (t : List ℕ) (flow : Flow) (room : ℕ) (sought : Given) (taken : Taken t flow room sought) where
  pub explains-search : (output : List ℕ) → length output ≡ room → (matched : Matched) (left : List ℕ)
      → Leaves (matched_by (given (match_in (afi_in t) (open_query (sought_in sought) sought.tiers) (routes_of t))) output) matched left → (reasons : List ℕ) → reasons ≡ reasons_by matched.tier sought.tiers
      → Leaves (explain_of t flow output) (record { matched = matched; reasons = reasons }) left
  unfolding explain_of explained group_of on_outcome reasons_of
  explains-search output l matched left a reasons why =
      let m = taken-search t flow room sought taken output l matched left a in
      let number : matched.number ≡ 0 = ap (λ (x : Matched). x.number) a.0 ∙ found_number output _ in
      let its : reasons ≡ reasons_by matched.tier (open_tiers taken.class) = why ∙ ap (reasons_by matched.tier) taken.opens in
      (rw (← m.0, ← taken.classed) (ap (λ (x : List ℕ). record { matched = matched; reasons = x }) (its ∙ sym (pick_true _ _ _ (eq-eqb _ _ number)))), m.1)

-- what a call answers by a refusal
pub told-unexplained : (result : Result Explanation Refusal) (r : Refusal) → IsErrAnd result (λ x. x ≡ r) → explained_told result ≡ refused_explanation (refusal_number r)
told-unexplained (Ok told) r h = absurd h
told-unexplained (Err x) r h = ap (λ (y : Refusal). refused_explanation (refusal_number y)) h
