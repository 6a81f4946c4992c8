-- What the public calls answer, in document 01's numbers and values.
use Rattle.std.specs.Prelude.{ℕ, ◌+◌, List, Result, length}
use Rattle.octets.specs.Outcome.{Outcome, given, and_then, on_outcome}
use Rattle.octets.specs.Refusals.{outcome_in}
use Rattle.octets.specs.declared.Span.{Span}
use Rattle.octets.specs.declared.refusal.Refusal.{Refusal}
use Rattle.tunnel.specs.declared.Attribute.{Attribute}
use Rattle.tunnel.specs.declared.fec.Fec.{Fec}
use Rattle.fec_elements.specs.Fields.{FecFields}
use Rattle.fec_elements.specs.Reading.{fec_in}
use Rattle.tunnel.specs.Identifier.{on_form, form_of}
use Rattle.tunnel.specs.Attribute.{AttributeFields, label_of, leaf_information_required, read_attribute, write_attribute}

-- the attribute, or the number that refuses it
abbrev pub outcome_of : Result Attribute Refusal → Outcome Attribute
outcome_of result = outcome_in result

-- the span of so many octets from a place on
abbrev pub span : (start size : ℕ) → Span
span start size = record { start = start; size = size }

-- a FEC in its attribute: the root from octet 9 on, the opaque value after it and the opaque length
unfoldable pub fec_spans : FecFields → Fec
fec_spans f =
    record {
      fec_type = f.fec_type;
      address_family = f.address_family;
      root = span 9 (length f.root);
      opaque = span (11 + length f.root) (length f.opaque_value);
    }

-- no FEC: all 0
abbrev pub no_fec : Fec
no_fec = record { fec_type = 0; address_family = 0; root = span 0 0; opaque = span 0 0 }

-- the FEC of an attribute, by its tunnel type's row
unfoldable pub fec_answer : AttributeFields → Fec
fec_answer f = on_outcome (λ _. no_fec) (on_form (λ _. no_fec) (λ _. fec_spans (fec_in f.identifier))) (form_of f.tunnel_type)

-- an attribute's fields, the identifier from octet 5 on
unfoldable pub attribute_struct : AttributeFields → Attribute
attribute_struct f =
    record {
      flags = f.flags;
      tunnel_type = f.tunnel_type;
      label_field = f.label_field;
      label = label_of f;
      leaf_information_required = leaf_information_required f;
      identifier = span 5 (length f.identifier);
      fec = fec_answer f;
    }

-- what reading answers: the attribute, or the number alone
unfoldable pub read_struct : List ℕ → Outcome Attribute
read_struct s = and_then (read_attribute s) (λ f. given (attribute_struct f))

-- a writer's arguments
abbrev pub argument_fields : ℕ → ℕ → ℕ → List ℕ → AttributeFields
argument_fields flags type label identifier = record { flags = flags; tunnel_type = type; label_field = label; identifier = identifier }

-- what writing them into an output comes to
abbrev pub write_outcome : ℕ → ℕ → ℕ → List ℕ → List ℕ → Outcome (List ℕ)
write_outcome flags type label identifier output = write_attribute (argument_fields flags type label identifier) (length output)
