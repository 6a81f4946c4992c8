-- Why each tier of a flow was taken or not (request W-204): a reason for each of the tiers 1 to 4, beside match's whole answer.
use Rattle.std.specs.Prelude.{ℕ, Result, Ok, Err, Bool, true, List, [], ◌∷◌, ltb, eqb}
use Rattle.octets.specs.Numbers.{DONE}
use Rattle.octets.specs.Choice.{pick, both}
use Rattle.octets.specs.declared.refusal.Refusal.{Refusal}
use Rattle.octets.specs.Refusals.{refusal_number}
use Rattle.nlri.specs.Groups.{ASM, SSM, group_of}
use Rattle.groups.specs.Classes.{class_by}
use Rattle.routes.specs.declared.Matched.{Matched}
use Rattle.routes.specs.declared.Reason.{Reason}
use Rattle.routes.specs.declared.Reason.TheVariants.{Taken, NoSuchRoute, WrongGroupClass, EarlierTierWon}
use Rattle.routes.specs.declared.Reasons.{Reasons}
use Rattle.routes.specs.declared.Explanation.{Explanation}
use Rattle.routes.specs.declared.Explained.{Explained}
use Rattle.routes.specs.Query.{Flow}
use Rattle.routes.specs.Asked.{of_flow}
use Rattle.routes.specs.Table.{afi_in}
use Rattle.octets.specs.Outputs.{Changed}
use Rattle.routes.specs.Answers.{empty_match, matched_told}
use Rattle.routes.specs.Calls.{match_of}

-- the reasons: the tier was taken
abbrev pub TAKEN : ℕ
TAKEN = 1

-- no candidate meets its condition, which the group's class allows
abbrev pub NO_SUCH_ROUTE : ℕ
NO_SUCH_ROUTE = 2

-- the group's class rules the tier out
abbrev pub WRONG_GROUP_CLASS : ℕ
WRONG_GROUP_CLASS = 3

-- an earlier tier already won
abbrev pub EARLIER_TIER_WON : ℕ
EARLIER_TIER_WON = 4

-- the number of each
abbrev pub reason_number : Reason → ℕ
reason_number Taken = TAKEN
reason_number NoSuchRoute = NO_SUCH_ROUTE
reason_number WrongGroupClass = WRONG_GROUP_CLASS
reason_number EarlierTierWon = EARLIER_TIER_WON

-- the reason of a tier, by the tier that won, 0 where none did, and by whether the group's class lets the tier. Every tier after the winner says that
-- it won; elsewhere the wrong class is said before no such route
unfoldable pub reason_of : (won tier : ℕ) (allowed : Bool) → ℕ
reason_of won tier allowed =
    pick (eqb won tier) TAKEN
    (pick (both (ltb 0 won) (ltb won tier)) EARLIER_TIER_WON
    (pick allowed NO_SUCH_ROUTE WRONG_GROUP_CLASS))

-- of tiers 1 to 4 in turn: tier 2 is for an SSM group, tier 3 for an ASM group, 1 and 4 are for both
unfoldable pub reasons_of : (won class : ℕ) → List ℕ
reasons_of won class = reason_of won 1 true ∷ (reason_of won 2 (eqb class SSM) ∷ (reason_of won 3 (eqb class ASM) ∷ (reason_of won 4 true ∷ [])))

-- no reason is told
abbrev pub no_reasons : List ℕ
no_reasons = 0 ∷ (0 ∷ (0 ∷ (0 ∷ [])))

-- a refusal's number, empty fields, and no reason
abbrev pub refused_explanation : ℕ → Explained
refused_explanation number = record { matched = empty_match number; reasons = no_reasons }

-- the numbers of the reasons, in the order of the tiers
abbrev pub reason_numbers : Reasons → List ℕ
reason_numbers reasons =
    reason_number reasons.exact ∷ (reason_number reasons.any_group ∷ (reason_number reasons.any_source ∷ (reason_number reasons.any ∷ [])))

-- what explain answers, by a result
abbrev pub explained_told : Result Explanation Refusal → Explained
explained_told (Ok explanation) = record { matched = matched_told (Ok explanation.route); reasons = reason_numbers explanation.reasons }
explained_told (Err refusal) = refused_explanation (refusal_number refusal)

-- a match's whole answer, with its reasons by the class of the group asked; on a refusal none is told
unfoldable pub explained : (class : ℕ) → Matched → Explained
explained class matched = record { matched = matched; reasons = pick (eqb matched.number DONE) (reasons_of matched.tier class) no_reasons }

-- the answer, and the output afterwards, which is match's
unfoldable pub explain_of : (table : List ℕ) → Flow → (output : List ℕ) → Changed Explained
explain_of t flow output =
    record {
      answer = explained (group_of (class_by (afi_in t) flow.prefixes flow.group)).group_class (match_of t (of_flow flow) output).answer;
      octets = (match_of t (of_flow flow) output).octets;
    }
