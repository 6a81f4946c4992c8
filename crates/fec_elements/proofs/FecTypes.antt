-- Laws of the types of FECs by name.
use Rattle.std.proofs.Common.{ℕ, ◌+◌, ◌≡◌, ◌≢◌, Bool, false, Result, Ok, Err, is_ok, refl, sym, ◌∙◌, arith}
use borrow.Author.Tests.{leb-true}
use Rattle.octets.specs.Choice.{both}
use Rattle.octets.specs.declared.refusal.Refusal.{Refusal}
use Rattle.octets.proofs.Choice.{is_false, both-held}
use Rattle.fec_elements.specs.declared.shape.FecType.{FecType}
use Rattle.fec_elements.specs.declared.shape.FecType.TheVariants.{P2mp, Mp2mpUp, Mp2mpDown}
use Rattle.fec_elements.specs.FecTypes.{fec_type_octet, IsFecTypeOf}
use Rattle.fec_elements.specs.Reading.{is_fec_type}

-- the code's cast
pub octet-cast : (t : FecType) → denote.Enum.Declared.tag_of Rattle.fec_elements.specs.contracts.shape.FecType.the_type t + 6 ≡ fec_type_octet t
octet-cast P2mp = refl
octet-cast Mp2mpUp = refl
octet-cast Mp2mpDown = refl

-- an octet of none
pub no-type : (octet : ℕ) → octet ≢ 6 → octet ≢ 7 → octet ≢ 8 → is_fec_type octet ≡ false
unfolding is_fec_type
no-type octet a b c = is_false _ (λ h. let p = both-held _ _ h in omega (arith, leb-true 6 octet p.0, leb-true octet 8 p.1))

-- a type found by its octet
pub type-found : (octet : ℕ) (found : Result FecType Refusal) (b : Bool) → IsFecTypeOf octet found → b ≡ is_ok found → b ≡ is_fec_type octet
unfolding is_fec_type both
type-found octet (Ok P2mp) b h e = rw (← h) e
type-found octet (Ok Mp2mpUp) b h e = rw (← h) e
type-found octet (Ok Mp2mpDown) b h e = rw (← h) e
type-found octet (Err refusal) b h e = e ∙ sym h.1
