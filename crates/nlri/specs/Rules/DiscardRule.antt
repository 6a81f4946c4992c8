-- Source Active routes that are discarded (RFC 6514, by document 02, W-210): which they are, by the standard range of SSM groups alone (RFC 4607), and what
-- GROUP, 19, refuses. Proved in proofs/Statements/Discards.antt.
use Rattle.std.specs.Prelude.{◌≡◌, ℕ, ◌<◌, true, ◌≢◌, ◌⊎◌, ◌↔◌, List, ◌++◌, length}
use Rattle.octets.specs.Outcome.{given, refused}
use Rattle.octets.specs.Octets.{AllOctets}
use Rattle.nlri.specs.Family.{family_bits}
use Rattle.nlri.specs.Groups.{Multicast, SourceSpecific}
use Rattle.nlri.specs.Fields.{Fields, encode_nlri, Encodable, is_discarded, restricted}
use Rattle.nlri.specs.Reading.{accepted_at, read_nlri, read_of_type}
use Rattle.nlri.specs.Writing.{write_nlri}
use Rattle.nlri.specs.Rules.NlriRules.{HoldsOctets}

-- `Encodable` and `Discarded`, from the AFI: fields of its family that can be encoded, of type 5, with a group of the standard range
pub record DiscardedFields (afi : ℕ) (f : Fields) : Type 0 where
  pub bits : ℕ
  pub of_family : family_bits afi ≡ given bits
  pub encodable : Encodable bits f
  pub source_active : f.type ≡ 5
  pub specific : SourceSpecific afi f.group

-- GROUP, at reading and at writing
pub record DiscardRule : Type 0 where
  -- the test is the fact
  pub tested : (afi bits : ℕ) (f : Fields) → family_bits afi ≡ given bits → Encodable bits f → (is_discarded bits f ≡ true) ↔ ((f.type ≡ 5) × SourceSpecific afi f.group)
  -- octets are refused so exactly when they are the encoding of such fields, and nothing more
  pub read : (afi : ℕ) (s : List ℕ) → AllOctets s → (read_nlri afi s ≡ refused 19) ↔ ((f : Fields) × DiscardedFields afi f × (s ≡ encode_nlri f))
  -- so are octets that are to be of one type, before KIND: at install and withdrawal of type 3, in a list of Source Active routes of type 5
  pub typed : (type afi : ℕ) (s : List ℕ) → AllOctets s → (read_of_type type afi s ≡ refused 19) ↔ ((f : Fields) × DiscardedFields afi f × (s ≡ encode_nlri f))
  -- with octets after it, such an NLRI is LENGTH, 3, as any other is
  pub after : (afi bits : ℕ) (f : Fields) (t : List ℕ) → family_bits afi ≡ given bits → Encodable bits f → AllOctets (encode_nlri f ++ t) → 0 < length t → read_nlri afi (encode_nlri f ++ t) ≡ refused 3
  -- at the front of a run, whatever stands after it
  pub front : (afi bits : ℕ) (s : List ℕ) → family_bits afi ≡ given bits → AllOctets s → (accepted_at bits s ≡ refused 19) ↔ ((f : Fields) × (t : List ℕ) × DiscardedFields afi f × (s ≡ encode_nlri f ++ t))
  -- fields are refused so exactly when they are such, however little space there is
  pub written : (afi : ℕ) (f : Fields) (space : ℕ) → HoldsOctets f → (write_nlri afi f space ≡ refused 19) ↔ DiscardedFields afi f
  -- an NLRI of any other type, and one with any other group, is read, a group that is no multicast address among them
  pub others : (afi bits : ℕ) (f : Fields) → family_bits afi ≡ given bits → Encodable bits f → (f.type ≢ 5) ⊎ (SourceSpecific afi f.group → ⊥) → read_nlri afi (encode_nlri f) ≡ given (restricted f)
  pub unicast : (afi bits : ℕ) (f : Fields) → family_bits afi ≡ given bits → Encodable bits f → (Multicast afi f.group → ⊥) → read_nlri afi (encode_nlri f) ≡ given (restricted f)
