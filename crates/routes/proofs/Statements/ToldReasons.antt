-- The reasons that are told, by the definition's own text: those of the class by the prefixes given. Marks change none.
use mathlib.Core.Path.{◌≡◌}
use mathlib.Core.List.{List}
use Prim.Native.Nat.{ℕ}
use borrow.Author.Tests.{eq-eqb}
use Rattle.octets.specs.Numbers.{DONE}
use Rattle.octets.proofs.Choice.{pick_true}
use Rattle.nlri.specs.Groups.{group_of}
use Rattle.groups.specs.Classes.{class_by}
use Rattle.routes.specs.Query.{Flow}
use Rattle.routes.specs.Asked.{of_flow}
use Rattle.routes.specs.Table.{afi_in}
use Rattle.routes.specs.Calls.{match_of}
use Rattle.routes.specs.Reasons.{reasons_of, explained, explain_of}
use Rattle.routes.specs.Rules.MatchRule.{TablesDifferInMarks}
use Rattle.routes.proofs.Statements.MatchRule.{match-marks}

-- the class that the reasons are told by
abbrev pub told_class : (afi : ℕ) → Flow → ℕ
told_class afi flow = (group_of (class_by afi flow.prefixes flow.group)).group_class

pub are : (t : List ℕ) (flow : Flow) (output : List ℕ) → (match_of t (of_flow flow) output).answer.number ≡ DONE
    → (explain_of t flow output).answer.reasons ≡ reasons_of (match_of t (of_flow flow) output).answer.tier (told_class (afi_in t) flow)
unfolding explain_of explained
are t flow output done = pick_true _ _ _ (eq-eqb _ _ done)

-- marks change no reason
pub marks : (t u : List ℕ) (flow : Flow) (output : List ℕ) → TablesDifferInMarks t u → explain_of t flow output ≡ explain_of u flow output
unfolding explain_of
marks t u flow output d =
    let changed = match-marks t u (of_flow flow) output d in
    λ i. record { answer = explained (told_class (d.family i) flow) (changed i).answer; octets = (changed i).octets }
