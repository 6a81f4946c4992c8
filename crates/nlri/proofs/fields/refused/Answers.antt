-- `nlri::fields::refused` meets its contract.
use Rattle.std.proofs.Common.{refl}
use Rattle.nlri.proofs.Functions.Copies.{no-distinguisher}
use Rattle.nlri.proofs.Functions.Singles.{nlri-same}
use Rattle.octets.specs.Choice.{pick}
use Rattle.octets.specs.Outcome.{on_outcome}
use Rattle.nlri.specs.Bodies.{bodies, on_body, body_of, has_field}
use Rattle.nlri.specs.Answers.{nlri_answer, nlri_struct, no_fields, key_span, fec_span}
use Rattle.nlri.proofs.fields.refused.Goals as goal

pub returns : goal.returns
unfolding nlri_answer on_outcome nlri_struct no_fields key_span fec_span pick has_field body_of on_body bodies
returns c = λ i. record { number = c.number.ensures i; nlri = nlri-same _ _ _ _ _ _ _ _ 0 0 0 0 no-distinguisher c.wildcard.ensures c.wildcard-2.ensures c.wildcard-3.ensures refl refl i; key = key_span no_fields; fec = fec_span no_fields }
