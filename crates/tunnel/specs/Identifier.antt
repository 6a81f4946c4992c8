-- Document 01, "PMSI Tunnel attribute": the table of identifiers.
use Rattle.std.specs.Prelude.{ℕ, Bool, false, List, [], ◌∷◌, eqb, length, get_or}
use Rattle.octets.specs.Choice.{pick, both, either}
use Rattle.octets.specs.Lists.{Among}
use Rattle.octets.specs.Numbers.{TUNNEL, IDENT}
use Rattle.octets.specs.Outcome.{Outcome, given, refused, unless, and_then}
use Rattle.fec_elements.specs.Fields.{FecFields, encode_fec, WellFormedFec}
use Rattle.fec_elements.specs.Reading.{whole_fec}

-- a form of identifiers: of one of these sizes; or a FEC whose first octet is one of these
pub data IdentifierForm : Type 0 where
  sizes : List ℕ → IdentifierForm
  fec_types : List ℕ → IdentifierForm

-- by cases: of the sizes, or of the types
unfoldable pub on_form : {B : Type 0} → (List ℕ → B) → (List ℕ → B) → IdentifierForm → B
on_form of_sizes of_types (sizes ns) = of_sizes ns
on_form of_sizes of_types (fec_types ns) = of_types ns

-- a tunnel type and its identifier's form
pub record TableRow : Type 0 where
  pub tunnel_type : ℕ
  pub form : IdentifierForm

-- the row of a tunnel type with a form
abbrev pub row_of : ℕ → IdentifierForm → TableRow
row_of t f = record { tunnel_type = t; form = f }

-- document 01's table
unfoldable pub identifier_forms : List TableRow
identifier_forms =
    row_of 0 (sizes (0 ∷ []))
    ∷ row_of 1 (sizes (12 ∷ []))
    ∷ row_of 2 (fec_types (6 ∷ []))
    ∷ row_of 3 (sizes (8 ∷ 32 ∷ []))
    ∷ row_of 4 (sizes (8 ∷ 32 ∷ []))
    ∷ row_of 5 (sizes (8 ∷ 32 ∷ []))
    ∷ row_of 6 (sizes (4 ∷ 16 ∷ []))
    ∷ row_of 7 (fec_types (7 ∷ 8 ∷ []))
    ∷ row_of 11 (sizes (7 ∷ 19 ∷ []))
    ∷ []

-- the form in a tunnel type's row; TUNNEL where there is none
unfoldable pub form_in : List TableRow → ℕ → Outcome IdentifierForm
form_in [] t = refused TUNNEL
form_in (r ∷ rs) t = pick (eqb t r.tunnel_type) (given r.form) (form_in rs t)

-- the same in document 01's table
unfoldable pub form_of : ℕ → Outcome IdentifierForm
form_of t = form_in identifier_forms t

-- an identifier of a form
pub data IsIdentifier : IdentifierForm → List ℕ → Type 0 where
  of_size : {ns i : List ℕ} → Among (length i) ns → IsIdentifier (sizes ns) i
  of_fec : {ns : List ℕ} {f : FecFields} → WellFormedFec f → Among f.fec_type ns → IsIdentifier (fec_types ns) (encode_fec f)

-- an identifier of the form in a tunnel type's row
pub record OfType (t : ℕ) (i : List ℕ) : Type 0 where
  pub form : IdentifierForm
  pub in_table : Among (row_of t form) identifier_forms
  pub of_form : IsIdentifier form i

-- the same as `Among`, computed
unfoldable pub one_of : ℕ → List ℕ → Bool
one_of n [] = false
one_of n (m ∷ ms) = either (eqb n m) (one_of n ms)

-- the same as `IsIdentifier`, computed
unfoldable pub is_identifier : IdentifierForm → List ℕ → Bool
is_identifier (sizes ns) i = one_of (length i) ns
is_identifier (fec_types ns) i = both (whole_fec i) (one_of (get_or i 0 0) ns)

-- an identifier judged by a form: IDENT, or the identifier itself
abbrev pub judged : IdentifierForm → List ℕ → Outcome (List ℕ)
judged form i = unless (is_identifier form i) IDENT (given i)

-- an identifier judged by its tunnel type: TUNNEL, IDENT, or the identifier itself
unfoldable pub read_identifier : ℕ → List ℕ → Outcome (List ℕ)
read_identifier t i = and_then (form_of t) (λ form. judged form i)
