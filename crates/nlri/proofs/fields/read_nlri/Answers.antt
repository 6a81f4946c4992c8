-- `nlri::fields::read_nlri` meets its contract.
use Rattle.std.proofs.Common.{refl, ap, ◌∙◌}
use Rattle.octets.proofs.Refusals.{refusal_number-not_done}
use Rattle.nlri.specs.declared.layout.Layout.{Layout}
use Rattle.nlri.specs.Inner.{answer_at}
use Rattle.nlri.proofs.Functions.Via.{known-given, unknown-given}
use Rattle.nlri.proofs.Functions.Singles.{single-in, read-no-family, read-faulty, read-laid, answer-laid, answer-refused}
use Rattle.nlri.proofs.fields.read_nlri.Goals as goal

pub returns-in_default : goal.returns-in_default
returns-in_default c = answer-refused _ _ _ _ c.refused.ensures (read-no-family _ _ _ (unknown-given _ _ _ c.family_of.ensures c.in_default.is))

pub layout_in-requires : goal.layout_in-requires
layout_in-requires c = (single-in _ _ _ c.in-Ok-check_single.ensures refl).0

pub reading_by-requires : goal.reading_by-requires
reading_by-requires c = rw c.layout_in.ensures (read-laid _ _ _ (known-given _ _ _ c.family_of.ensures c.in-Ok.is) _ c.in-Ok-check_single.ensures refl).1

pub returns-in-Ok-check_single : goal.returns-in-Ok-check_single
returns-in-Ok-check_single c = answer-laid _ _ _ (c.reading_by.ensures ∙ ap (λ (l : Layout). answer_at l c.args.s.now) c.layout_in.ensures) (read-laid _ _ _ (known-given _ _ _ c.family_of.ensures c.in-Ok.is) _ c.in-Ok-check_single.ensures refl)

pub returns-in-Err : goal.returns-in-Err
returns-in-Err c = answer-refused _ _ _ _ c.refused-in-Err.ensures (read-faulty _ _ _ (known-given _ _ _ c.family_of.ensures c.in-Ok.is) _ c.in-Err.ensures (refusal_number-not_done _))
