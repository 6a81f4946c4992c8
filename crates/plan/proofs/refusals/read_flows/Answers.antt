-- `plan::refusals::read_flows` meets its contract.
use mathlib.Core.Path.{◌∙◌, ap, refl, sym}
use Rattle.octets.specs.Outcome.{given}
use Rattle.octets.proofs.Refusals.{passed_on-outcome, refusal_number-not_done}
use Rattle.plan.specs.Refusing.{flows_fault}
use Rattle.plan.proofs.Checks.{read-unprefixed, read-long, read-short, read-refuses, read-given, few-within, too-many, not-within}
use Rattle.plan.proofs.refusals.read_flows.Goals as goal

pub returns-in_err-check_prefixes : goal.returns-in_err-check_prefixes
returns-in_err-check_prefixes c = passed_on-outcome _ _ c.from_residual.ensures.1 ∙ read-unprefixed _ _ _ _ _ c.in_err-check_prefixes.ensures (refusal_number-not_done _)

pub returns-then-count_of-gt-MOST_FLOWS : goal.returns-then-count_of-gt-MOST_FLOWS
returns-then-count_of-gt-MOST_FLOWS c = read-long _ _ _ _ c.in_ok-check_prefixes.ensures (too-many _ _ _ c.count_of.ensures.value c.if-count_of-gt-MOST_FLOWS.true)

pub returns-then-not-is_within : goal.returns-then-not-is_within
returns-then-not-is_within c = read-long _ _ _ _ c.in_ok-check_prefixes.ensures (not-within _ _ c.if-not-is_within.true)

pub returns-then-not-is_whole : goal.returns-then-not-is_whole
returns-then-not-is_whole c =
    read-short _ _ _ _ c.in_ok-check_prefixes.ensures (few-within _ _ _ c.count_of.ensures.value c.if-count_of-gt-MOST_FLOWS.false c.if-not-is_within.false) (sym c.is_whole.ensures ∙ c.if-not-is_whole.true)

pub returns-in_err-check_flows : goal.returns-in_err-check_flows
returns-in_err-check_flows c =
    passed_on-outcome _ _ c.from_residual-in_err-check_flows.ensures.1
    ∙ read-refuses _ _ _ _ c.in_ok-check_prefixes.ensures (few-within _ _ _ c.count_of.ensures.value c.if-count_of-gt-MOST_FLOWS.false c.if-not-is_within.false) (sym c.is_whole.ensures ∙ c.if-not-is_whole.false) _
    (c.in_err-check_flows.ensures ∙ ap (flows_fault _ _) c.of-flows.ensures) (refusal_number-not_done _)

pub returns : goal.returns
returns c =
    ap given c.of-flows.ensures
    ∙ read-given _ _ _ _ c.in_ok-check_prefixes.ensures (few-within _ _ _ c.count_of.ensures.value c.if-count_of-gt-MOST_FLOWS.false c.if-not-is_within.false) (sym c.is_whole.ensures ∙ c.if-not-is_whole.false) _
    (c.in_ok-check_flows.ensures ∙ ap (flows_fault _ _) c.of-flows.ensures) refl
