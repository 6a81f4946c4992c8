-- The types of FECs by name.
use Rattle.std.specs.Prelude.{ℕ, ◌≡◌, false, Result, MatchResult}
use Rattle.octets.specs.declared.refusal.Refusal.{Refusal}
use Rattle.octets.specs.declared.refusal.Refusal.TheVariants.{Ident}
use Rattle.fec_elements.specs.declared.shape.FecType.{FecType}
use Rattle.fec_elements.specs.declared.shape.FecType.TheVariants.{P2mp, Mp2mpUp, Mp2mpDown}
use Rattle.fec_elements.specs.Reading.{is_fec_type}

-- the octet of each
abbrev pub fec_type_octet : FecType → ℕ
fec_type_octet P2mp = 6
fec_type_octet Mp2mpUp = 7
fec_type_octet Mp2mpDown = 8

-- the type of an octet; IDENT where no FEC has it
abbrev pub IsFecTypeOf : ℕ → Result FecType Refusal → Type 0
IsFecTypeOf octet found = MatchResult found (λ t. fec_type_octet t ≡ octet) (λ refusal. (refusal ≡ Ident) × (is_fec_type octet ≡ false))
