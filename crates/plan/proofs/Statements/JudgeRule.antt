-- What is stated of the judge.
use Prim.Native.Nat.{ℕ}
use mathlib.Core.Path.{◌≡◌, refl, sym, ap, ◌∙◌, subst}
use mathlib.Core.Bool.{Bool, false}
use mathlib.Core.List.{List}
use mathlib.Core.Logic.{◌↔◌, ◌⊎◌, inl, inr, ⊎_elim}
use lib.ListN.{length}
use lib.Dec.{leb}
use borrow.Author.Tests.{leb-false, lt-leb}
use Rattle.octets.specs.Choice.{both}
use Rattle.octets.specs.Outcome.{Outcome, given, refused, on_outcome, number_of}
use Rattle.octets.specs.Rules.Answering.{Answering}
use Rattle.octets.specs.Lists.{Among}
use Rattle.octets.proofs.Choice.{tested, opposite, both_true, both_left, both_right, pick_true, pick-false}
use Rattle.octets.proofs.Outcome.{never, given-same, and-goes-on, and-stops, passed, stopped}
use Rattle.octets.proofs.Answering.{answering}
use Rattle.lists.specs.LentLists.{Item, list_count}
use Rattle.routes.specs.Rules.ArgumentRules.{GoodFlow}
use Rattle.plan.specs.Flows.{Vrf, ListedFlow, asking, flows_in}
use Rattle.plan.specs.Judging.{accepts_places}
use Rattle.plan.specs.Calls.{judge_outcome, judged_by, judge_of}
use Rattle.plan.specs.Rules.FlowsRule.{GoodFlows, FlowsRefusal}
use Rattle.plan.specs.Rules.JudgeRule.{Accepted, JudgeLong, JudgeDone, JudgeRule}
use Rattle.plan.proofs.Items.{list-threes, among-listed}
use Rattle.plan.proofs.Reading.{flows-why, why-flows, why-some, flows-good, good-flows}
use Rattle.plan.proofs.Proposals.{accepted-places}
use Rattle.plan.proofs.Statements.ProposedTables.{proposed-told}

-- each of the good flows is one that a match takes
pub flow-good : (afi : ℕ) (vrf : Vrf) (flows : List ℕ) (Long : Type 0) (items : List Item) → GoodFlows afi vrf flows Long items → (f : ListedFlow) → Among f (flows_in items) → GoodFlow afi (asking vrf f)
flow-good afi vrf flows Long items g f m =
    let l = among-listed (list-threes flows items g.taken.read) f m in
    record { prefixed = g.taken.prefixed; addressed = g.sizes.originator; sourced = g.sizes.sources _ _ _ l; multicast = g.sizes.groups _ _ _ l }

number-judged : (o : Outcome Bool) → (judged_by o).number ≡ number_of o
unfolding judged_by on_outcome number_of
number-judged (given b) = refl
number-judged (refused n) = refl

none-judged : (n : ℕ) → (judged_by (refused n)).accepted ≡ 0
unfolding judged_by on_outcome
none-judged n = refl

module _ (afi : ℕ) (vrf : Vrf) (flows places : List ℕ) where
  -- LONG as it is tested
  tested-long : (both (leb (list_count flows) 64) (leb (length places) 8192) ≡ false) ↔ JudgeLong flows places
  tested-long = (
    λ h. tested (leb (list_count flows) 64) (λ t. inr (tested (leb (length places) 8192) (λ u. absurd (opposite (both_true _ _ t u) h)) (λ v. leb-false _ _ v))) (λ f. inl (leb-false _ _ f)),
    λ l. ⊎_elim (λ a. both_left _ _ (lt-leb _ _ a)) (λ b. tested (leb (list_count flows) 64) (λ t. both_right _ _ t (lt-leb _ _ b)) (λ f. both_left _ _ f)) l,
  )

  abbrev outcome : Outcome Bool
  outcome = judge_outcome afi vrf flows places

  why : (n : ℕ) → (outcome ≡ refused n) ↔ FlowsRefusal afi vrf flows (JudgeLong flows places) n
  unfolding judge_outcome
  why n = (
    λ h. flows-why afi vrf flows _ (JudgeLong flows places) tested-long n (⊎_elim (λ r. r) (λ l. absurd (never refl l.second)) (stopped _ _ _ h)),
    λ r. sym (and-stops _ _ _ (why-flows afi vrf flows _ (JudgeLong flows places) tested-long r)),
  )

  -- the outcome for good flows
  pub judged-places : (items : List Item) → GoodFlows afi vrf flows (JudgeLong flows places) items → outcome ≡ given (accepts_places afi vrf (flows_in items) places)
  unfolding judge_outcome
  judged-places items g = sym (and-goes-on _ _ _ _ (good-flows afi vrf flows _ (JudgeLong flows places) tested-long items g) refl)

  told : (items : List Item) → GoodFlows afi vrf flows (JudgeLong flows places) items → (flag : Bool) → flag ≡ accepts_places afi vrf (flows_in items) places
      → (((judged_by (given flag)).accepted ≡ 1) × Accepted afi vrf items places) ⊎ (((judged_by (given flag)).accepted ≡ 0) × (Accepted afi vrf items places → ⊥))
  unfolding judged_by on_outcome
  told items g flag e =
      let exactly = accepted-places afi vrf items (list-threes flows items g.taken.read) (flow-good afi vrf flows _ items g) places in
      tested flag (λ t. inl (pick_true _ _ _ t, exactly.0 (sym e ∙ t))) (λ f. inr (pick-false _ _ _ f, λ a. opposite (exactly.1 a) (sym e ∙ f)))

  done : (flag : Bool) → outcome ≡ given flag → JudgeDone afi vrf flows places (judge_of afi vrf flows places)
  unfolding judge_of judge_outcome
  done flag e =
      let p = passed _ _ _ e in
      let g = flows-good afi vrf flows _ (JudgeLong flows places) tested-long p.value p.first in
      record {
        items = g.0;
        takes = g.1;
        told =
            subst (λ (o : Outcome Bool). (((judged_by o).accepted ≡ 1) × Accepted afi vrf g.0 places) ⊎ (((judged_by o).accepted ≡ 0) × (Accepted afi vrf g.0 places → ⊥))) (sym e)
            (told g.0 g.1 flag (sym (given-same p.second) ∙ ap (λ (fs : List ListedFlow). accepts_places afi vrf fs places) g.2));
      }

  answers : Answering (judge_of afi vrf flows places).number (FlowsRefusal afi vrf flows (JudgeLong flows places)) (JudgeDone afi vrf flows places (judge_of afi vrf flows places))
      ((judge_of afi vrf flows places).accepted ≡ 0)
  unfolding judge_of
  answers =
      answering outcome _ (FlowsRefusal afi vrf flows (JudgeLong flows places)) (number-judged outcome) why (λ r. why-some afi vrf flows _ (JudgeLong flows places) tested-long r refl) _ _
      done (λ d. (_, judged-places d.items d.takes)) (λ n e. ap (λ (o : Outcome Bool). (judged_by o).accepted) e ∙ none-judged n)

pub judge_rule : JudgeRule
judge_rule = record { arguments = λ p o d. (refl, refl, refl); answers = answers; in_table = proposed-told }
