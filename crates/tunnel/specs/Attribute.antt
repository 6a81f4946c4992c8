-- Document 01, "PMSI Tunnel attribute", and the order of refusals in "The numbers a call gives back".
use Rattle.std.specs.Prelude.{ℕ, ◌/◌, ◌%◌, ◌^◌, ◌<◌, ◌≤◌, List, ◌∷◌, ◌++◌, ltb, length, get_or, drop}
use Rattle.octets.specs.Choice.{pick}
use Rattle.octets.specs.Numbers.{SHORT, LONG, LABEL, SPACE}
use Rattle.octets.specs.Outcome.{Outcome, given, refused, and_then}
use Rattle.octets.specs.Octets.{AllOctets, part, number_in, big_endian}
use Rattle.tunnel.specs.Identifier.{OfType, read_identifier}

-- the fields of an attribute; flags and the whole label field are kept
pub record AttributeFields : Type 0 where
  pub flags : ℕ
  pub tunnel_type : ℕ
  pub label_field : ℕ
  pub identifier : List ℕ

-- the label is the field divided by 16
unfoldable pub label_of : AttributeFields → ℕ
label_of f = f.label_field / 16

-- LIR is flag bit value 1
unfoldable pub leaf_information_required : AttributeFields → ℕ
leaf_information_required f = f.flags % 2

-- flags 1, tunnel type 1, label field 3, identifier
unfoldable pub encode_attribute : AttributeFields → List ℕ
encode_attribute f = f.flags ∷ (f.tunnel_type ∷ (big_endian 3 f.label_field ++ f.identifier))

-- what fields must be to stand on the wire; 59 octets of identifier make an attribute of 64
pub record WellFormedAttribute (f : AttributeFields) : Type 0 where
  pub flags_fit : f.flags < 256
  pub label_fits : f.label_field < 2 ^ 24
  pub identifier_size : length f.identifier ≤ 59
  pub identifier_octets : AllOctets f.identifier
  pub of_type : OfType f.tunnel_type f.identifier

-- the fields where they stand
unfoldable pub fields_in : List ℕ → AttributeFields
fields_in s = record { flags = get_or s 0 0; tunnel_type = get_or s 1 0; label_field = number_in (part s 2 3) 0; identifier = drop 5 s }

-- "Attribute reading: LONG, SHORT, TUNNEL, IDENT"
unfoldable pub read_attribute : List ℕ → Outcome AttributeFields
read_attribute s =
    pick (ltb 64 (length s)) (refused LONG)
    (pick (ltb (length s) 5) (refused SHORT)
    (and_then (read_identifier (get_or s 1 0) (drop 5 s)) (λ _. given (fields_in s))))

-- "Attribute writing: LONG (identifier over 59 octets), TUNNEL, IDENT, LABEL, SPACE", into an output of `space` octets
unfoldable pub write_attribute : AttributeFields → ℕ → Outcome (List ℕ)
write_attribute f space =
    pick (ltb 59 (length f.identifier)) (refused LONG)
    (and_then (read_identifier f.tunnel_type f.identifier) (λ _.
    pick (ltb 16777215 f.label_field) (refused LABEL)
    (pick (ltb space (length (encode_attribute f))) (refused SPACE)
    (given (encode_attribute f)))))
