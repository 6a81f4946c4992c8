-- `nlri::fields::source_as_in` meets its contract.
use Rattle.std.proofs.Common.{sym, ◌∙◌}
use Rattle.octets.proofs.Choice.{pick_true, pick-false}
use Rattle.nlri.specs.Inner.{source_as_at}
use Rattle.nlri.proofs.fields.source_as_in.Goals as goal

pub four-requires : goal.four-requires
unfolding source_as_at
four-requires c = c.requires (sym c.has_source_as.ensures ∙ c.if-has_source_as.true)

pub returns-then-has_source_as : goal.returns-then-has_source_as
unfolding source_as_at
returns-then-has_source_as c = c.four.ensures ∙ sym (pick_true _ _ _ (sym c.has_source_as.ensures ∙ c.if-has_source_as.true))

pub returns : goal.returns
unfolding source_as_at
returns c = sym (pick-false _ _ _ (sym c.has_source_as.ensures ∙ c.if-has_source_as.false))
