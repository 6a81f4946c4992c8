-- The reasons (specs/Rules/ReasonRule.antt): each is true of its tier, and no other is.
use Prim.Native.Nat.{ℕ, zero, suc, ◌+◌, ◌-◌, ◌≤◌, ◌<◌}
use mathlib.Core.Path.{◌≡◌, refl, sym, ◌∙◌, subst}
use mathlib.Core.Bool.{Bool, true, false}
use mathlib.Core.List.{List}
use mathlib.Core.Logic.{◌≢◌, ◌⊎◌, ⊎_elim}
use native.Mathlib.Omega.{arith}
use lib.Dec.{eqb}
use lib.ListN.{length, get_or}
use borrow.Author.Tests.{eqb-true, eqb-false, ne_eqb, lt-ltb, ltb-true}
use Rattle.octets.specs.Numbers.{DONE}
use Rattle.octets.specs.Choice.{pick}
use Rattle.octets.specs.Outcome.{given, on_outcome}
use Rattle.octets.proofs.Choice.{opposite, tested, pick-false, pick-case, both-held, both_true}
use Rattle.nlri.specs.Fields.{Fields}
use Rattle.nlri.specs.Groups.{ASM, SSM, Multicast, group_of}
use Rattle.groups.specs.Classes.{class_by}
use Rattle.groups.specs.Rules.ClassRule.{GoodPrefixes}
use Rattle.groups.proofs.ClassRule.{Classed, has}
use Rattle.routes.specs.declared.Matched.{Matched}
use Rattle.routes.specs.Route.{Route}
use Rattle.routes.specs.Query.{Flow}
use Rattle.routes.specs.Asked.{of_flow}
use Rattle.routes.specs.Table.{afi_in, routes_of}
use Rattle.octets.specs.Outputs.{Changed}
use Rattle.routes.specs.Calls.{match_of}
use Rattle.routes.specs.Reasons.{reason_of, reasons_of, no_reasons, explained, explain_of}
use Rattle.routes.specs.Rules.ArgumentRules.{GoodFlow}
use Rattle.routes.specs.Rules.MatchRule.{InTier, both_equal, source_equal, group_equal, both_wildcard, Taken, Told, MatchAnswer, one_told, none_told}
use Rattle.routes.specs.Rules.ReasonRule.{RuledOut, any_group, any_source, Met, MetEarlier, Reason, was_taken, no_such_route, wrong_class, earlier_won, ReasonRule}
use Rattle.routes.proofs.Statements.MatchRule.{match_rule}
use Rattle.routes.proofs.Statements.ToldReasons.{told_class, are, marks}

-- a tier whose condition is met is one of the tiers, and is not ruled out
tier-counted : {afi : ℕ} {flow : Flow} {tier : ℕ} {f : Fields} → InTier afi flow tier f → 0 < tier
tier-counted (both_equal s g) = omega arith
tier-counted (source_equal s g ssm) = omega arith
tier-counted (group_equal s g asm) = omega arith
tier-counted (both_wildcard s g) = omega arith

tier-most : {afi : ℕ} {flow : Flow} {tier : ℕ} {f : Fields} → InTier afi flow tier f → tier ≤ 4
tier-most (both_equal s g) = omega arith
tier-most (source_equal s g ssm) = omega arith
tier-most (group_equal s g asm) = omega arith
tier-most (both_wildcard s g) = omega arith

tier-allowed : {afi : ℕ} {flow : Flow} {tier : ℕ} {f : Fields} → InTier afi flow tier f → RuledOut afi flow.prefixes flow.group tier → ⊥
tier-allowed (both_equal s g) r = elim r [ ]
tier-allowed (both_wildcard s g) r = elim r [ ]
tier-allowed (source_equal s g ssm) (any_group h) = h ssm
tier-allowed (group_equal s g asm) (any_source h) = asm h

module _ (afi : ℕ) (flow : Flow) (rs : List Route) (output : List ℕ) (changed : Changed Matched) where
  abbrev Says : ℕ → ℕ → Type 0
  Says tier reason = Reason afi flow rs output changed tier reason

  abbrev Takes : ℕ → Route → Type 0
  Takes tier r = Taken afi flow.router (InTier afi flow) rs tier r

  met : {tier : ℕ} {r : Route} → Takes tier r → Met afi flow rs tier
  met {r = r} t = record { route = r; member = t.member; eligible = t.eligible }

  none-earlier : {tier : ℕ} {r : Route} → Takes tier r → MetEarlier afi flow rs tier → ⊥
  none-earlier t e = t.lowest e.earlier e.met.route e.less e.met.member e.met.eligible

  allowed_of : {tier : ℕ} {r : Route} → Takes tier r → RuledOut afi flow.prefixes flow.group tier → ⊥
  allowed_of t out = tier-allowed t.eligible.met out

  one-reason : (tier m n : ℕ) → Says tier m → Says tier n → m ≡ n
  one-reason tier m n (was_taken r t _) (was_taken _ _ _) = refl
  one-reason tier m n (was_taken r t _) (no_such_route _ _ none) = absurd (none (met t))
  one-reason tier m n (was_taken r t _) (wrong_class _ out) = absurd (allowed_of t out)
  one-reason tier m n (was_taken r t _) (earlier_won e) = absurd (none-earlier t e)
  one-reason tier m n (no_such_route _ _ none) (was_taken r t _) = absurd (none (met t))
  one-reason tier m n (no_such_route _ _ _) (no_such_route _ _ _) = refl
  one-reason tier m n (no_such_route _ allowed _) (wrong_class _ out) = absurd (allowed out)
  one-reason tier m n (no_such_route none _ _) (earlier_won e) = absurd (none e)
  one-reason tier m n (wrong_class _ out) (was_taken r t _) = absurd (allowed_of t out)
  one-reason tier m n (wrong_class _ out) (no_such_route _ allowed _) = absurd (allowed out)
  one-reason tier m n (wrong_class _ _) (wrong_class _ _) = refl
  one-reason tier m n (wrong_class none _) (earlier_won e) = absurd (none e)
  one-reason tier m n (earlier_won e) (was_taken r t _) = absurd (none-earlier t e)
  one-reason tier m n (earlier_won e) (no_such_route none _ _) = absurd (none e)
  one-reason tier m n (earlier_won e) (wrong_class none _) = absurd (none e)
  one-reason tier m n (earlier_won _) (earlier_won _) = refl

  -- the reason of a tier, by what a match answered and whether the class lets the tier
  module _ (tier : ℕ) (low : 0 < tier) (allowed : Bool) (lets : allowed ≡ true → RuledOut afi flow.prefixes flow.group tier → ⊥) (rules : allowed ≡ false → RuledOut afi flow.prefixes flow.group tier) where
    -- no candidate of it or of an earlier tier
    unmet : (MetEarlier afi flow rs tier → ⊥) → (Met afi flow rs tier → ⊥) → Says tier (pick allowed 2 3)
    unmet earlier here = pick-case (Says tier) _ _ _ (λ on. no_such_route earlier (lets on) here) (λ off. wrong_class earlier (rules off))

    says : MatchAnswer afi flow.router (InTier afi flow) output rs changed → Says tier (reason_of changed.answer.tier tier allowed)
    unfolding reason_of
    says (one_told won r t s) =
        let is : changed.answer.tier ≡ won = s.of_tier in
        let some : 0 < won = tier-counted t.eligible.met in
        pick-case (Says tier) _ _ _
        (λ at. let here : won ≡ tier = sym is ∙ eqb-true _ _ at in was_taken r (subst (λ (n : ℕ). Takes n r) here t) (subst (λ (n : ℕ). Told n r output changed) here s))
        (λ other. pick-case (Says tier) _ _ _
        (λ after. let past : changed.answer.tier < tier = ltb-true _ _ (both-held _ _ after).1 in earlier_won (record { earlier = won; less = omega arith; met = met t }))
        (λ not_after.
        let apart : changed.answer.tier ≡ tier → ⊥ = eqb-false _ _ other in
        let up_to : changed.answer.tier < tier → ⊥ = λ h. opposite (both_true _ _ (lt-ltb 0 changed.answer.tier (omega arith)) (lt-ltb _ _ h)) not_after in
        let before : tier < won = omega arith in
        unmet (λ e. t.lowest e.earlier e.met.route (omega (arith, e.less)) e.met.member e.met.eligible) (λ m. t.lowest tier m.route before m.member m.eligible)))
    says (none_told none done untold) =
        let is : changed.answer.tier ≡ 0 = untold.tierless in
        pick-case (Says tier) _ _ _
        (λ at. let here : changed.answer.tier ≡ tier = eqb-true _ _ at in absurd (omega arith))
        (λ other. pick-case (Says tier) _ _ _
        (λ after. let past : 0 < changed.answer.tier = ltb-true _ _ (both-held _ _ after).0 in absurd (omega arith))
        (λ not_after. unmet (λ e. none e.earlier e.met.route e.met.member e.met.eligible) (λ m. none tier m.route m.member m.eligible)))

-- the class that a multicast group has rules out what it should
module _ (afi : ℕ) (p g : List ℕ) (good : GoodPrefixes afi p) (m : Multicast afi g) where
  abbrev class : ℕ
  class = (group_of (class_by afi p g)).group_class

  class-told : Classed afi p g class × ((class ≡ SSM) ⊎ (class ≡ ASM))
  unfolding group_of on_outcome
  class-told =
      let c = has afi p g good m in
      let e : class_by afi p g ≡ given c.0 = c.1 in
      rw e (c.2, c.2.either)

  lets2 : eqb class SSM ≡ true → RuledOut afi p g 2 → ⊥
  lets2 on (any_group other) = other (class-told.0.specific.0 (eqb-true _ _ on))

  rules2 : eqb class SSM ≡ false → RuledOut afi p g 2
  rules2 off = any_group (λ s. eqb-false _ _ off (class-told.0.specific.1 s))

  lets3 : eqb class ASM ≡ true → RuledOut afi p g 3 → ⊥
  lets3 on (any_source s) = class-told.0.other.0 (eqb-true _ _ on) s

  rules3 : eqb class ASM ≡ false → RuledOut afi p g 3
  rules3 off = any_source (class-told.0.specific.0 (⊎_elim (λ s. s) (λ a. absurd (eqb-false _ _ off a)) class-told.1))

-- tiers 1 and 4 are for every class
always : {afi tier : ℕ} {p g : List ℕ} → (tier ≡ 2 → ⊥) → (tier ≡ 3 → ⊥) → RuledOut afi p g tier → ⊥
always two three (any_group _) = two refl
always two three (any_source _) = three refl

module _ (t : List ℕ) (flow : Flow) (output : List ℕ) where
  abbrev matching : Changed Matched
  matching = match_of t (of_flow flow) output

  abbrev reasons : List ℕ
  reasons = (explain_of t flow output).answer.reasons

  four : length reasons ≡ 4
  unfolding explain_of explained reasons_of
  four = pick-case (λ (l : List ℕ). length l ≡ 4) _ _ _ (λ _. refl) (λ _. refl)

  refused : matching.answer.number ≢ DONE → reasons ≡ no_reasons
  unfolding explain_of explained
  refused h = pick-false _ _ _ (ne_eqb _ _ h)

  module _ (done : matching.answer.number ≡ DONE) where
    good : GoodFlow (afi_in t) flow
    good = (((match_rule.table flow).done t output).0 done).1

    abbrev Of : ℕ → ℕ → Type 0
    Of tier reason = Reason (afi_in t) flow (routes_of t) output matching tier reason

    of-tier : (tier : ℕ) → 0 < tier → (allowed : Bool) → (allowed ≡ true → RuledOut (afi_in t) flow.prefixes flow.group tier → ⊥) → (allowed ≡ false → RuledOut (afi_in t) flow.prefixes flow.group tier)
        → Of tier (reason_of matching.answer.tier tier allowed)
    of-tier tier low allowed lets rules = says (afi_in t) flow (routes_of t) output matching tier low allowed lets rules ((match_rule.table flow).answers t output done)

    by-tier : (i : ℕ) → i < 4 → Of (i + 1) (get_or (reasons_of matching.answer.tier (told_class (afi_in t) flow)) i 0)
    unfolding reasons_of
    by-tier zero h = of-tier 1 (omega arith) true (λ _. always (λ e. omega arith) (λ e. omega arith)) (λ e. absurd (opposite {b = true} refl e))
    by-tier (suc zero) h = of-tier 2 (omega arith) _ (lets2 (afi_in t) flow.prefixes flow.group good.prefixed good.multicast) (rules2 (afi_in t) flow.prefixes flow.group good.prefixed good.multicast)
    by-tier (suc (suc zero)) h = of-tier 3 (omega arith) _ (lets3 (afi_in t) flow.prefixes flow.group good.prefixed good.multicast) (rules3 (afi_in t) flow.prefixes flow.group good.prefixed good.multicast)
    by-tier (suc (suc (suc zero))) h = of-tier 4 (omega arith) true (λ _. always (λ e. omega arith) (λ e. omega arith)) (λ e. absurd (opposite {b = true} refl e))
    by-tier (suc (suc (suc (suc i)))) h = absurd (omega arith)

    told : (i : ℕ) → i < 4 → Of (i + 1) (get_or reasons i 0)
    told i h = rw (are t flow output done) (by-tier i h)

  -- the tier that a match answers: its route is taken with it, and told
  won : MatchAnswer (afi_in t) flow.router (InTier (afi_in t) flow) output (routes_of t) matching → 0 < matching.answer.tier
      → (r : Route) × Taken (afi_in t) flow.router (InTier (afi_in t) flow) (routes_of t) matching.answer.tier r × Told matching.answer.tier r output matching
  won (one_told tier r k s) some =
      let is : tier ≡ matching.answer.tier = sym s.of_tier in
      (r, subst (λ (n : ℕ). Taken (afi_in t) flow.router (InTier (afi_in t) flow) (routes_of t) n r) is k, subst (λ (n : ℕ). Told n r output matching) is s)
  won (none_told none done u) some = let z : matching.answer.tier ≡ 0 = u.tierless in absurd (omega arith)

  module _ (some : 0 < matching.answer.tier) where
    is-done : matching.answer.number ≡ DONE
    is-done = tested (eqb matching.answer.number DONE) (λ e. eqb-true _ _ e) (λ f. let z : matching.answer.tier ≡ 0 = ((match_rule.table flow).untold t output (eqb-false _ _ f)).tierless in absurd (omega arith))

    winner : (r : Route) × Taken (afi_in t) flow.router (InTier (afi_in t) flow) (routes_of t) matching.answer.tier r × Told matching.answer.tier r output matching
    winner = won ((match_rule.table flow).answers t output is-done) some

    -- the reason of a tier, and one that is true of it
    same-reason : (tier n : ℕ) → 0 < tier → tier ≤ 4 → Reason (afi_in t) flow (routes_of t) output matching tier n → get_or reasons (tier - 1) 0 ≡ n
    same-reason tier n low high r =
        let at : tier - 1 + 1 ≡ tier = omega arith in
        one-reason (afi_in t) flow (routes_of t) output matching tier _ n (subst (λ (k : ℕ). Reason (afi_in t) flow (routes_of t) output matching k (get_or reasons (tier - 1) 0)) at (told is-done (tier - 1) (omega arith))) r

    reason-taken : get_or reasons (matching.answer.tier - 1) 0 ≡ 1
    reason-taken = same-reason matching.answer.tier 1 some (tier-most winner.1.eligible.met) (was_taken winner.0 winner.1 winner.2)

    reason-after : (tier : ℕ) → matching.answer.tier < tier → tier ≤ 4 → get_or reasons (tier - 1) 0 ≡ 4
    reason-after tier past high =
        same-reason tier 4 (omega arith) high (earlier_won (record { earlier = matching.answer.tier; less = past; met = met (afi_in t) flow (routes_of t) output matching winner.1 }))

pub reason_rule : ReasonRule
unfolding explain_of explained
reason_rule =
    record {
      match = λ t flow output. (refl, refl);
      marks = marks;
      four = four;
      refused = refused;
      told = told;
      taken = reason-taken;
      after = λ t flow output tier some. reason-after t flow output some tier;
      only = one-reason;
    }
