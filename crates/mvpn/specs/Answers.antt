-- The structs that the calls from C answer, where no crate below has them: the number beside the values, which are 0 on a refusal.
use Rattle.std.specs.Prelude.{ℕ}
use Rattle.octets.specs.Numbers.{DONE}
use Rattle.octets.specs.Outcome.{Outcome, on_outcome}
use Rattle.runs.specs.Walking.{StepTaken}
use Rattle.tunnel.specs.declared.Attribute.{Attribute}
use Rattle.tunnel.specs.Answers.{no_fec}
use Rattle.mvpn.specs.declared.Stepped.{Stepped}
use Rattle.mvpn.specs.declared.AttributeReading.{AttributeReading}

-- a step: the number, the next cursor, and the layout of the NLRI read
unfoldable pub step_answer : StepTaken → Stepped
step_answer s = record { number = s.number; cursor = s.cursor; layout = s.layout }

-- an attribute read
abbrev pub attribute_given : Attribute → AttributeReading
attribute_given a =
    record {
      number = DONE;
      flags = a.flags;
      tunnel_type = a.tunnel_type;
      label_field = a.label_field;
      label = a.label;
      leaf_information_required = a.leaf_information_required;
      identifier = a.identifier;
      fec = a.fec;
    }

-- an attribute refused
abbrev pub attribute_refused : ℕ → AttributeReading
attribute_refused number =
    record {
      number = number;
      flags = 0;
      tunnel_type = 0;
      label_field = 0;
      label = 0;
      leaf_information_required = 0;
      identifier = record { start = 0; size = 0 };
      fec = no_fec;
    }

-- the answer of reading an attribute
unfoldable pub attribute_answer : Outcome Attribute → AttributeReading
attribute_answer outcome = on_outcome attribute_refused attribute_given outcome
