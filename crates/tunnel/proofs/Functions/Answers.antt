-- Laws of what reading answers, by the tests that the code makes.
use Prim.Native.Nat.{ℕ, ◌+◌, ◌≤◌}
use mathlib.Core.Path.{◌≡◌, refl, sym, ap, ◌∙◌}
use mathlib.Core.Bool.{true, false}
use mathlib.Core.List.{List, [], ◌∷◌}
use lib.ListN.{length, get_or, drop}
use Rattle.octets.specs.Numbers.{DONE}
use Rattle.octets.specs.Outcome.{given, refused, on_outcome, and_then, number_of}
use Rattle.octets.specs.Choice.{pick}
use Rattle.octets.proofs.Choice.{opposite}
use Rattle.octets.proofs.Outcome.{refused-of}
use Rattle.tunnel.specs.declared.tunnel_type.TunnelType.{TunnelType}
use Rattle.tunnel.specs.declared.tunnel_type.TunnelType.TheVariants.{NoTunnel, RsvpTeP2mp, MldpP2mp, PimSsm, PimSm, BidirPim, IngressReplication, MldpMp2mp, Bier}
use Rattle.tunnel.specs.TunnelTypes.{tunnel_type_octet, is_mldp}
use Rattle.tunnel.specs.declared.Attribute.{Attribute}
use Rattle.tunnel.specs.declared.fec.Fec.{Fec}
use Rattle.fec_elements.specs.Reading.{fec_in, whole_fec}
use Rattle.tunnel.specs.Identifier.{sizes, fec_types, on_form, identifier_forms, form_in, form_of, read_identifier}
use Rattle.tunnel.specs.Attribute.{AttributeFields, fields_in, read_attribute}
use Rattle.tunnel.specs.Answers.{fec_spans, no_fec, fec_answer, attribute_struct, read_struct}
use Rattle.fec_elements.proofs.Wholes.{length-fec}
use Rattle.tunnel.proofs.Definitions.Identifiers.{read_whole, judged-done}
use Rattle.tunnel.proofs.Definitions.Attributes.{read_done}

-- the FEC of an answer, by its tunnel type's form
pub fec-sizes : (f : AttributeFields) (ns : List ℕ) → form_of f.tunnel_type ≡ given (sizes ns) → fec_answer f ≡ no_fec
unfolding fec_answer on_form on_outcome
fec-sizes f ns e = rw e

pub fec-types : (f : AttributeFields) (ns : List ℕ) → form_of f.tunnel_type ≡ given (fec_types ns) → fec_answer f ≡ fec_spans (fec_in f.identifier)
unfolding fec_answer on_form on_outcome
fec-types f ns e = rw e

-- the row of a tunnel type by name
mldp-row : (t : TunnelType) → is_mldp t ≡ true → (ns : List ℕ) × (form_of (tunnel_type_octet t) ≡ given (fec_types ns))
unfolding form_of form_in identifier_forms pick
mldp-row MldpP2mp m = (6 ∷ [], refl)
mldp-row MldpMp2mp m = (7 ∷ 8 ∷ [], refl)
mldp-row NoTunnel m = absurd (opposite m refl)
mldp-row RsvpTeP2mp m = absurd (opposite m refl)
mldp-row PimSsm m = absurd (opposite m refl)
mldp-row PimSm m = absurd (opposite m refl)
mldp-row BidirPim m = absurd (opposite m refl)
mldp-row IngressReplication m = absurd (opposite m refl)
mldp-row Bier m = absurd (opposite m refl)

sizes-row : (t : TunnelType) → is_mldp t ≡ false → (ns : List ℕ) × (form_of (tunnel_type_octet t) ≡ given (sizes ns))
unfolding form_of form_in identifier_forms pick
sizes-row NoTunnel m = (0 ∷ [], refl)
sizes-row RsvpTeP2mp m = (12 ∷ [], refl)
sizes-row PimSsm m = (8 ∷ 32 ∷ [], refl)
sizes-row PimSm m = (8 ∷ 32 ∷ [], refl)
sizes-row BidirPim m = (8 ∷ 32 ∷ [], refl)
sizes-row IngressReplication m = (4 ∷ 16 ∷ [], refl)
sizes-row Bier m = (7 ∷ 19 ∷ [], refl)
sizes-row MldpP2mp m = absurd (opposite refl m)
sizes-row MldpMp2mp m = absurd (opposite refl m)

-- an identifier without a fault of an mLDP tunnel type is a FEC, and its spans are the answer's
module _ (s : List ℕ) (t : TunnelType) (is : tunnel_type_octet t ≡ get_or s 1 0) where
  pub mldp-whole : is_mldp t ≡ true → number_of (read_identifier (get_or s 1 0) (drop 5 s)) ≡ DONE → (rest : List ℕ) → rest ≡ drop 5 s → (whole_fec rest ≡ true) × (6 + get_or rest 3 0 ≤ length rest)
  mldp-whole m e rest k =
      let row = rw is at (mldp-row t m) in
      let whole : whole_fec rest ≡ true = rw k (read_whole (get_or s 1 0) (drop 5 s) row.1 (judged-done DONE (get_or s 1 0) (drop 5 s) (sym e) refl)) in
      (whole, length-fec rest whole)

  pub mldp-fec : is_mldp t ≡ true → (rest : List ℕ) (r : Fec) → rest ≡ drop 5 s → r ≡ fec_spans (fec_in rest) → r ≡ fec_answer (fields_in s)
  unfolding fields_in
  mldp-fec m rest r k e =
      let row = rw is at (mldp-row t m) in
      e ∙ ap (λ (i : List ℕ). fec_spans (fec_in i)) k ∙ sym (fec-types (fields_in s) row.0 row.1)

  -- any other tunnel type has none
  pub no-mldp : is_mldp t ≡ false → no_fec ≡ fec_answer (fields_in s)
  unfolding fields_in
  no-mldp m = let row = rw is at (sizes-row t m) in sym (fec-sizes (fields_in s) row.0 row.1)

-- nor one that the table lacks
pub no-row-fec : (s : List ℕ) (n : ℕ) → form_of (get_or s 1 0) ≡ refused n → no_fec ≡ fec_answer (fields_in s)
unfolding fields_in fec_answer on_outcome
no-row-fec s n e = rw e

-- an answer, by the number of reading
module _ (s : List ℕ) (n : ℕ) (e : n ≡ number_of (read_attribute s)) where
  pub answer-refused : (n ≡ DONE → ⊥) → refused n ≡ read_struct s
  unfolding read_struct and_then
  answer-refused d = rw (refused-of (read_attribute s) n e d)

  pub answer-given : n ≡ DONE → (a : Attribute) → a ≡ attribute_struct (fields_in s) → given a ≡ read_struct s
  unfolding read_struct and_then
  answer-given z a q = rw (read_done s n e z, q)
