-- `nlri::read::read_front` meets its contract.
use Rattle.octets.proofs.Refusals.{refusal_number-not_done, passed_on-outcome}
use Rattle.std.proofs.Common.{sym, refl, ap, ◌∙◌}
use Rattle.octets.specs.Numbers.{DONE}
use Rattle.octets.specs.Outcome.{given}
use Rattle.octets.proofs.Outcome.{refused-of}
use Rattle.nlri.proofs.Functions.Singles.{step_in}
use Rattle.nlri.proofs.read.read_front.Goals as goal

pub layout_in-requires : goal.layout_in-requires
layout_in-requires c = (step_in _ _ DONE (sym (c.is_surely_to_leaf.ensures c.if-is_surely_to_leaf.true)) refl).0

pub returns-then-is_surely_to_leaf : goal.returns-then-is_surely_to_leaf
returns-then-is_surely_to_leaf c = ap given c.layout_in.ensures ∙ (step_in _ _ DONE (sym (c.is_surely_to_leaf.ensures c.if-is_surely_to_leaf.true)) refl).1

pub returns-in_err-check_front : goal.returns-in_err-check_front
returns-in_err-check_front c = passed_on-outcome _ _ c.from_residual.ensures.1 ∙ sym (refused-of _ _ c.in_err-check_front.ensures (refusal_number-not_done _))

pub layout_in-requires-2 : goal.layout_in-requires-2
layout_in-requires-2 c = (step_in _ _ _ c.in_ok-check_front.ensures refl).0

pub returns : goal.returns
returns c = ap given c.layout_in-2.ensures ∙ (step_in _ _ _ c.in_ok-check_front.ensures refl).1
