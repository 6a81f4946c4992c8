-- What a caller from C sees of the answers that this crate makes, in document 01's notions; those of other calls are stated where their definitions are.
-- Stated here, proved in proofs/.
use Rattle.std.specs.Prelude.{ℕ, ◌+◌, ◌≡◌, List, ◌≢◌, length}
use Rattle.octets.specs.Octets.{AllOctets}
use Rattle.octets.specs.Rules.Answering.{Answering}
use Rattle.nlri.specs.Fields.{Fields, encode_nlri}
use Rattle.nlri.specs.Rules.NlriRules.{layout_for}
use Rattle.runs.specs.Walking.{step_from}
use Rattle.runs.specs.Rules.WalkRules.{EncodedAt, EndAt, StepRefusal}
use Rattle.tunnel.specs.declared.Attribute.{Attribute}
use Rattle.tunnel.specs.Answers.{read_struct}
use Rattle.tunnel.specs.Rules.AttributeRules.{AttributeReadRefusal, AnsweredAttribute}
use Rattle.mvpn.specs.declared.Stepped.{Stepped}
use Rattle.mvpn.specs.declared.AttributeReading.{AttributeReading}
use Rattle.mvpn.specs.Answers.{step_answer, attribute_answer}

-- what a step that is done tells, which its route type tells apart: the NLRI at the cursor, its layout and the cursor just past it; or the run's end,
-- with every number of the layout 0, and the cursor given
pub data StepTold (afi : ℕ) (run : List ℕ) (cursor : ℕ) : Stepped → Type 0 where
  an_nlri : (f : Fields) → EncodedAt afi run cursor f → f.type ≢ 0 → StepTold afi run cursor (record { number = 0; cursor = cursor + length (encode_nlri f); layout = layout_for f })
  the_end : EndAt afi run cursor
      → StepTold afi run cursor (record { number = 0; cursor = cursor; layout = record { route_type = 0; length = 0; source = 0; group = 0; originator = 0; key = 0; fec = 0 } })

-- a refused step tells no NLRI, and hands back the cursor given
pub record StepUntold (cursor : ℕ) (answer : Stepped) : Type 0 where
  pub layout : answer.layout ≡ record { route_type = 0; length = 0; source = 0; group = 0; originator = 0; key = 0; fec = 0 }
  pub given : answer.cursor ≡ cursor

-- an attribute told: each field of the answer is that of the one attribute that says of the octets what it is to say
pub record AttributeTold (s : List ℕ) (answer : AttributeReading) : Type 0 where
  pub attribute : Attribute
  pub answered : AnsweredAttribute s attribute
  pub flags : answer.flags ≡ attribute.flags
  pub tunnel_type : answer.tunnel_type ≡ attribute.tunnel_type
  pub label_field : answer.label_field ≡ attribute.label_field
  pub label : answer.label ≡ attribute.label
  pub leaf_information_required : answer.leaf_information_required ≡ attribute.leaf_information_required
  pub identifier : answer.identifier ≡ attribute.identifier
  pub fec : answer.fec ≡ attribute.fec

-- no attribute told: every field but the number is 0
pub record AttributeUntold (answer : AttributeReading) : Type 0 where
  pub flags : answer.flags ≡ 0
  pub tunnel_type : answer.tunnel_type ≡ 0
  pub label_field : answer.label_field ≡ 0
  pub label : answer.label ≡ 0
  pub leaf_information_required : answer.leaf_information_required ≡ 0
  pub identifier : answer.identifier ≡ record { start = 0; size = 0 }
  pub fec : answer.fec ≡ record { fec_type = 0; address_family = 0; root = record { start = 0; size = 0 }; opaque = record { start = 0; size = 0 } }

-- the answers, as the contracts have them
pub record CallAnswers : Type 0 where
  -- `mvpn_step`
  pub steps : (afi : ℕ) (run : List ℕ) (cursor : ℕ) → AllOctets run
      → let answer : Stepped = step_answer (step_from afi run cursor) in Answering answer.number (StepRefusal afi run cursor) (StepTold afi run cursor answer) (StepUntold cursor answer)
  -- `mvpn_attribute_read`
  pub attributes : (s : List ℕ) → AllOctets s
      → let answer : AttributeReading = attribute_answer (read_struct s) in Answering answer.number (AttributeReadRefusal s) (AttributeTold s answer) (AttributeUntold answer)
