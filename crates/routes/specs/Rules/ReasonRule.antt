-- What holds of the reasons (request W-204): what each says of table and flow, and that of a tier no other can be told. Stated here, proved in
-- proofs/Statements/ReasonRule.antt.
use Rattle.std.specs.Prelude.{ℕ, ◌+◌, ◌-◌, ◌≤◌, ◌<◌, ◌≡◌, List, [], ◌∷◌, ◌≢◌, length, get_or}
use Rattle.octets.specs.Numbers.{DONE}
use Rattle.octets.specs.Lists.{Among}
use Rattle.groups.specs.Rules.ClassRule.{Specific}
use Rattle.routes.specs.declared.Matched.{Matched}
use Rattle.routes.specs.Route.{Route}
use Rattle.routes.specs.Query.{Flow}
use Rattle.routes.specs.Asked.{of_flow}
use Rattle.routes.specs.Table.{afi_in, routes_of}
use Rattle.octets.specs.Outputs.{Changed}
use Rattle.routes.specs.Calls.{match_of}
use Rattle.routes.specs.Reasons.{explain_of}
use Rattle.routes.specs.Rules.MatchRule.{InTier, Eligible, Taken, Told, TablesDifferInMarks}

-- the class of a group rules a tier out: tier 2 where it is not SSM, tier 3 where it is
pub data RuledOut (afi : ℕ) (prefixes group : List ℕ) : (tier : ℕ) → Type 0 where
  any_group : (Specific afi prefixes group → ⊥) → RuledOut afi prefixes group 2
  any_source : Specific afi prefixes group → RuledOut afi prefixes group 3

module _ (afi : ℕ) (flow : Flow) (rs : List Route) where
  -- a candidate meets the condition of a tier
  pub record Met (tier : ℕ) : Type 0 where
    pub route : Route
    pub member : Among route rs
    pub eligible : Eligible afi flow.router (InTier afi flow) tier route

  -- a candidate meets the condition of an earlier tier
  pub record MetEarlier (tier : ℕ) : Type 0 where
    pub earlier : ℕ
    pub less : earlier < tier
    pub met : Met earlier

  -- what each reason says of a tier, beside what the match answered and left in the output
  pub data Reason (output : List ℕ) (changed : Changed Matched) (tier : ℕ) : (reason : ℕ) → Type 0 where
    -- a route is taken with this tier, and it is the one told
    was_taken : (r : Route) → Taken afi flow.router (InTier afi flow) rs tier r → Told tier r output changed → Reason output changed tier 1
    -- no earlier tier won, the class lets the tier, and no candidate meets its condition
    no_such_route : (MetEarlier tier → ⊥) → (RuledOut afi flow.prefixes flow.group tier → ⊥) → (Met tier → ⊥) → Reason output changed tier 2
    -- no earlier tier won, and the class rules the tier out
    wrong_class : (MetEarlier tier → ⊥) → RuledOut afi flow.prefixes flow.group tier → Reason output changed tier 3
    -- an earlier tier won
    earlier_won : MetEarlier tier → Reason output changed tier 4

-- the reasons beside a match's answer
pub record ReasonRule : Type 0 where
  -- the answer has match's own, and the output is match's
  pub match : (t : List ℕ) (flow : Flow) (output : List ℕ)
      → ((explain_of t flow output).answer.matched ≡ (match_of t (of_flow flow) output).answer) × ((explain_of t flow output).octets ≡ (match_of t (of_flow flow) output).octets)
  -- marks change nothing of it (request W-208)
  pub marks : (t u : List ℕ) (flow : Flow) (output : List ℕ) → TablesDifferInMarks t u → explain_of t flow output ≡ explain_of u flow output
  -- there are four reasons
  pub four : (t : List ℕ) (flow : Flow) (output : List ℕ) → length (explain_of t flow output).answer.reasons ≡ 4
  -- on a refusal each is 0
  pub refused : (t : List ℕ) (flow : Flow) (output : List ℕ) → (match_of t (of_flow flow) output).answer.number ≢ DONE
      → (explain_of t flow output).answer.reasons ≡ 0 ∷ (0 ∷ (0 ∷ (0 ∷ [])))
  -- else each is true of its tier, the first of tier 1
  pub told : (t : List ℕ) (flow : Flow) (output : List ℕ) → (match_of t (of_flow flow) output).answer.number ≡ DONE
      → (i : ℕ) → i < 4 → Reason (afi_in t) flow (routes_of t) output (match_of t (of_flow flow) output) (i + 1) (get_or (explain_of t flow output).answer.reasons i 0)
  -- of the tier that the match answers it is 1, and of every tier after that 4
  pub taken : (t : List ℕ) (flow : Flow) (output : List ℕ) → 0 < (match_of t (of_flow flow) output).answer.tier
      → get_or (explain_of t flow output).answer.reasons ((match_of t (of_flow flow) output).answer.tier - 1) 0 ≡ 1
  pub after : (t : List ℕ) (flow : Flow) (output : List ℕ) (tier : ℕ) → 0 < (match_of t (of_flow flow) output).answer.tier → (match_of t (of_flow flow) output).answer.tier < tier → tier ≤ 4
      → get_or (explain_of t flow output).answer.reasons (tier - 1) 0 ≡ 4
  -- and no other is, whatever the routes
  pub only : (afi : ℕ) (flow : Flow) (rs : List Route) (output : List ℕ) (changed : Changed Matched) (tier m n : ℕ)
      → Reason afi flow rs output changed tier m → Reason afi flow rs output changed tier n → m ≡ n
