-- What the fields of a BIER identifier are, octet by octet (RFC 8556, section 2). Proved in proofs/Statements/BierRule.antt.
use Rattle.std.specs.Prelude.{ℕ, ◌+◌, ◌*◌, ◌≡◌, List, ◌∷◌, ◌⊎◌, length}
use Rattle.octets.specs.Outcome.{given}
use Rattle.tunnel.specs.Attribute.{AttributeFields, read_attribute}
use Rattle.tunnel.specs.Bier.{bier_in}

-- octets that are the identifier of a BIER tunnel: the sub-domain, the high and the low octet of the BFR-id, and a prefix of 4 or 16 octets
pub record BierOctets (identifier : List ℕ) : Type 0 where
  pub sub_domain : ℕ
  pub high : ℕ
  pub low : ℕ
  pub prefix : List ℕ
  pub sized : (length prefix ≡ 4) ⊎ (length prefix ≡ 16)
  pub is : identifier ≡ sub_domain ∷ (high ∷ (low ∷ prefix))

-- the fields of the identifier of every BIER attribute that is read
pub record BierIdentifierRule : Type 0 where
  pub octets : (attribute : List ℕ) (f : AttributeFields) → read_attribute attribute ≡ given f → f.tunnel_type ≡ 11 → BierOctets f.identifier
  pub sub_domain : (identifier : List ℕ) (o : BierOctets identifier) → (bier_in identifier).sub_domain ≡ o.sub_domain
  pub bfr_id : (identifier : List ℕ) (o : BierOctets identifier) → (bier_in identifier).bfr_id ≡ 256 * o.high + o.low
