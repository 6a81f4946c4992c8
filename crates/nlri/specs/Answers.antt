-- What the calls on single NLRIs take and answer, in terms of document 01's fields.
use Rattle.std.specs.Prelude.{ℕ, List, [], length, take, ◌==◌}
use Rattle.octets.specs.Numbers.{DONE}
use Rattle.octets.specs.Choice.{pick}
use Rattle.octets.specs.Outcome.{Outcome, on_outcome}
use Rattle.octets.specs.Octets.{sized}
use Rattle.octets.specs.declared.Span.{Span}
use Rattle.nlri.specs.declared.address.Address.{Address}
use Rattle.nlri.specs.declared.address.RouteDistinguisher.{RouteDistinguisher}
use Rattle.nlri.specs.declared.fields.Nlri.{Nlri}
use Rattle.nlri.specs.declared.fields.NlriReading.{NlriReading}
use Rattle.nlri.specs.Bodies.{FieldKind, source_as, key, fec, body_of, has_field}
use Rattle.nlri.specs.Fields.{Fields}

-- an address as a struct: its octets, then zeros, and its size
unfoldable pub address_struct : List ℕ → Address
address_struct octets = record { octets = sized 16 octets; size = length octets }

-- the octets that an address of a kind, given by its bits, has at the front of octets: IPv4's 4, IPv6's 16, none of any other kind
unfoldable pub kind_octets : (bits : ℕ) → List ℕ → List ℕ
kind_octets bits octets = pick (bits == 32) (take 4 octets) (pick (bits == 128) (take 16 octets) [])

-- a route distinguisher as a struct
unfoldable pub distinguisher_struct : List ℕ → RouteDistinguisher
distinguisher_struct octets = record { octets = sized 8 octets }

-- the octets of an address struct, as many as its size says
unfoldable pub address_octets : Address → List ℕ
address_octets address = sized address.size address.octets

-- fields as a struct; key and FEC are told by their spans
unfoldable pub nlri_struct : Fields → Nlri
nlri_struct f =
    record {
      distinguisher = distinguisher_struct f.distinguisher;
      source = address_struct f.source;
      group = address_struct f.group;
      originator = address_struct f.originator;
      source_as = f.source_as;
      route_type = f.type;
    }

-- the fields that an NLRI struct and the octets of a key and of a FEC stand for
unfoldable pub struct_fields : Nlri → (key_octets fec_octets : List ℕ) → Fields
struct_fields nlri key_octets fec_octets =
    record {
      type = nlri.route_type;
      distinguisher = nlri.distinguisher.octets;
      source_as = nlri.source_as;
      source = address_octets nlri.source;
      group = address_octets nlri.group;
      originator = address_octets nlri.originator;
      key = key_octets;
      fec = fec_octets;
    }

-- no fields
unfoldable pub no_fields : Fields
no_fields = record { type = 0; distinguisher = []; source_as = 0; source = []; group = []; originator = []; key = []; fec = [] }

-- a key stands straight after the header
unfoldable pub key_span : Fields → Span
key_span f = record { start = pick (has_field key (body_of f.type)) 2 0; size = length f.key }

-- a FEC stands behind the route distinguisher, or behind the source AS where the type has one
unfoldable pub fec_span : Fields → Span
fec_span f =
    let body : List FieldKind = body_of f.type in
    record { start = pick (has_field fec body) (pick (has_field source_as body) 14 10) 0; size = length f.fec }

-- the answer of reading a single NLRI: on a refusal its number and empty fields
unfoldable pub nlri_answer : Outcome Fields → NlriReading
nlri_answer outcome =
    on_outcome (λ number. record { number = number; nlri = nlri_struct no_fields; key = key_span no_fields; fec = fec_span no_fields })
    (λ f. record { number = DONE; nlri = nlri_struct f; key = key_span f; fec = fec_span f }) outcome
