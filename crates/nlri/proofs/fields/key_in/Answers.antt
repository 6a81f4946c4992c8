-- `nlri::fields::key_in` meets its contract.
use Rattle.std.proofs.Common.{sym, ◌∙◌}
use Rattle.octets.proofs.Choice.{pick_true, pick-false}
use Rattle.nlri.specs.Inner.{key_at}
use Rattle.nlri.proofs.fields.key_in.Goals as goal

pub returns-then-has_key : goal.returns-then-has_key
unfolding key_at
returns-then-has_key c = λ i. record { start = sym (pick_true _ 2 0 (sym c.has_key.ensures ∙ c.if-has_key.true)) i; size = c.args.layout.key }

pub returns : goal.returns
unfolding key_at
returns c = λ i. record { start = sym (pick-false _ 2 0 (sym c.has_key.ensures ∙ c.if-has_key.false)) i; size = c.args.layout.key }
