-- The layout of what was laid out.
use Rattle.std.specs.Prelude.{ℕ, ◌-◌, List}
use Rattle.octets.specs.Outcome.{Outcome, given, and_then}
use Rattle.nlri.specs.declared.layout.Layout.{Layout}
use Rattle.nlri.specs.Family.{family_bits}
use Rattle.nlri.specs.Bodies.{source, group, originator, key, fec, field_in}
use Rattle.nlri.specs.Reading.{Laid, laid_at, accepted_at, accepted_single}

-- the sizes that vary, of addresses without their length octet; 0 for a field that the type lacks
unfoldable pub layout_of : Laid → Layout
layout_of laid =
    record {
      route_type = laid.type;
      length = laid.size;
      source = field_in 0 source laid.body laid.sizes - 1;
      group = field_in 0 group laid.body laid.sizes - 1;
      originator = field_in 0 originator laid.body laid.sizes;
      key = field_in 0 key laid.body laid.sizes;
      fec = field_in 0 fec laid.body laid.sizes;
    }

-- the layout of the NLRI accepted at the front of s
unfoldable pub layout_at : ℕ → List ℕ → Outcome Layout
layout_at bits s = and_then (accepted_at bits s) (λ laid. given (layout_of laid))

-- of the NLRI laid out there, whether or not it is discarded
unfoldable pub laid_layout : ℕ → List ℕ → Outcome Layout
laid_layout bits s = and_then (laid_at bits s) (λ laid. given (layout_of laid))

-- the layout of a single NLRI, with nothing after it
unfoldable pub layout_single : ℕ → List ℕ → Outcome Layout
layout_single afi s = and_then (family_bits afi) (λ bits. and_then (accepted_single bits s) (λ laid. given (layout_of laid)))

-- no layout: every number 0
unfoldable pub no_layout : Layout
no_layout = record { route_type = 0; length = 0; source = 0; group = 0; originator = 0; key = 0; fec = 0 }
