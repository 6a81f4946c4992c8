-- The table's rows as the code tests them, and the mLDP tunnel types.
use Prim.Native.Nat.{ℕ, ◌<◌}
use mathlib.Core.Path.{◌≡◌, refl, sym, ap, ◌∙◌}
use mathlib.Core.Bool.{Bool, true, false}
use mathlib.Core.List.{List, [], ◌∷◌}
use lib.Dec.{eqb}
use lib.ListN.{length, get_or}
use Rattle.octets.specs.Choice.{pick, both, either}
use Rattle.octets.specs.Numbers.{DONE, TUNNEL, IDENT}
use Rattle.octets.specs.Outcome.{given, refused, on_outcome, and_then, number_of}
use Rattle.octets.specs.Refusals.{refusal_number}
use Rattle.octets.specs.declared.refusal.Refusal.{Refusal}
use Rattle.octets.specs.declared.refusal.Refusal.TheVariants.{Tunnel}
use Rattle.octets.proofs.Choice.{tested, pick_true, pick-false}
use Rattle.tunnel.specs.Identifier.{IdentifierForm, sizes, fec_types, on_form, identifier_forms, form_in, form_of, one_of, is_identifier, judged, read_identifier}
use Rattle.tunnel.specs.declared.identifier.Form.{Form}
use Rattle.tunnel.specs.Inner.{mldp, form_told, IsRow}
use Rattle.tunnel.proofs.Definitions.Identifiers.{agreeing, agree-below, read_known}

-- an identifier is judged by its tunnel type's row
pub in-row : (t : ℕ) (form : IdentifierForm) (i : List ℕ) → form_of t ≡ given form → number_of (read_identifier t i) ≡ number_of (judged form i)
in-row t form i e = ap number_of (read_known t i form e)

-- or by the refusal of one that has none
pub no-row : (t : ℕ) (i : List ℕ) (r : Refusal) → r ≡ Tunnel → form_of t ≡ refused TUNNEL → refusal_number r ≡ number_of (read_identifier t i)
unfolding read_identifier and_then number_of
no-row t i r e h = rw (e, h)

-- what a form's test says of the tunnel type that has it
pub fits-row : (t : ℕ) (form : Form) (i : List ℕ) (b : Bool) → IsRow t form → b ≡ is_identifier (form_told form) i → b ≡ true → DONE ≡ number_of (read_identifier t i)
unfolding number_of
fits-row t form i b row e h = ap number_of (sym (pick_true _ (given i) (refused IDENT) (sym e ∙ h))) ∙ sym (row i)

pub fails-row : (t : ℕ) (form : Form) (i : List ℕ) (b : Bool) → IsRow t form → b ≡ is_identifier (form_told form) i → b ≡ false → IDENT ≡ number_of (read_identifier t i)
unfolding number_of
fails-row t form i b row e h = ap number_of (sym (pick-false _ (given i) (refused IDENT) (sym e ∙ h))) ∙ sym (row i)

-- a row of one size, or of one type, is one of two that are the same
one-twice : (k n : ℕ) → one_of k (n ∷ []) ≡ one_of k (n ∷ n ∷ [])
unfolding one_of either
one-twice k n = tested (eqb k n) (λ p. rw p) (λ p. rw p)

pub one-size : (n : ℕ) (i : List ℕ) → number_of (judged (sizes (n ∷ [])) i) ≡ number_of (judged (sizes (n ∷ n ∷ [])) i)
unfolding is_identifier
one-size n i = rw (one-twice (length i) n)

pub one-type : (n : ℕ) (i : List ℕ) → number_of (judged (fec_types (n ∷ [])) i) ≡ number_of (judged (fec_types (n ∷ n ∷ [])) i)
unfolding is_identifier
one-type n i = rw (one-twice (get_or i 0 0) n)

-- the mLDP tunnel types
pub mldp-octet : (r : Bool) (t : ℕ) → t < 256 → r ≡ either (eqb t 2) (eqb t 7) → r ≡ mldp t
unfolding agreeing both pick either mldp on_form form_of form_in identifier_forms on_outcome
mldp-octet r t h e = e ∙ agree-below (λ k. either (eqb k 2) (eqb k 7)) mldp 256 refl t h
