-- These definitions mirror inner functions of src/, and no public contract cites them; laws tie them to document 01's definitions.
use Rattle.std.specs.Prelude.{ℕ, ◌≡◌, Bool, true, false, List, [], ◌∷◌}
use Rattle.octets.specs.Outcome.{on_outcome, number_of}
use Rattle.fec_elements.specs.FecTypes.{fec_type_octet}
use Rattle.tunnel.specs.declared.identifier.Form.{Form}
use Rattle.tunnel.specs.declared.identifier.Form.TheVariants.{Sizes, Fecs}
use Rattle.tunnel.specs.Identifier.{IdentifierForm, sizes, fec_types, on_form, form_of, judged, read_identifier}

-- a tunnel type that the table lacks
unfoldable pub unknown : ℕ → Bool
unknown t = on_outcome (λ _. true) (λ _. false) (form_of t)

-- a tunnel type whose identifier is a FEC
unfoldable pub mldp : ℕ → Bool
mldp t = on_outcome (λ _. false) (on_form (λ _. false) (λ _. true)) (form_of t)

-- a form of the code
abbrev pub form_told : Form → IdentifierForm
form_told (Sizes first second) = sizes (first ∷ second ∷ [])
form_told (Fecs first second) = fec_types (fec_type_octet first ∷ fec_type_octet second ∷ [])

-- the form that judges the identifiers of a tunnel type
abbrev pub IsRow : (tunnel_type : ℕ) → Form → Type 0
IsRow t form = (i : List ℕ) → number_of (read_identifier t i) ≡ number_of (judged (form_told form) i)
