-- `nlri::fields::fec_in` meets its contract.
use Rattle.std.proofs.Common.{sym, ◌∙◌}
use Rattle.octets.proofs.Choice.{pick_true, pick-false}
use Rattle.nlri.specs.Inner.{fec_start, fec_in_layout}
use Rattle.nlri.proofs.fields.fec_in.Goals as goal

pub returns-then-has_fec : goal.returns-then-has_fec
unfolding fec_in_layout
returns-then-has_fec c = λ i. record { start = (c.fec_start.ensures ∙ sym (pick_true _ _ 0 (sym c.has_fec.ensures ∙ c.if-has_fec.true))) i; size = c.args.layout.fec }

pub returns : goal.returns
unfolding fec_in_layout
returns c = λ i. record { start = sym (pick-false _ (fec_start c.args.layout.route_type) 0 (sym c.has_fec.ensures ∙ c.if-has_fec.false)) i; size = c.args.layout.fec }
