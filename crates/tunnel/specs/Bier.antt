-- The identifier of a BIER tunnel (RFC 8556, section 2).
use Rattle.std.specs.Prelude.{ℕ, List, get_or}
use Rattle.octets.specs.Octets.{part, number_in}
use Rattle.tunnel.specs.declared.bier.BierIdentifier.{BierIdentifier}

-- sub-domain-id 1, BFR-id 2, BFR-prefix
unfoldable pub bier_in : (identifier : List ℕ) → BierIdentifier
bier_in identifier = record { sub_domain = get_or identifier 0 0; bfr_id = number_in (part identifier 1 2) 0 }
