-- A well-formed S-PMSI NLRI is the encoding of its fields, octets or not: its distinguisher, source, group and originator decide it.
use mathlib.Core.Path.{◌≡◌, sym, ◌∙◌, ap, ap₂}
use mathlib.Core.List.{List, [], ◌∷◌, ◌++◌}
use Prim.Native.Nat.{ℕ}
use borrow.Author.Tests.{eqb-true}
use lib.ListN.{length}
use Rattle.octets.specs.Choice.{pick, either}
use Rattle.octets.specs.Outcome.{given}
use Rattle.octets.proofs.Choice.{opposite}
use Rattle.octets.proofs.Outcome.{given-unless, passed, given-same}
use Rattle.nlri.specs.Bodies.{FieldKind, distinguisher, source_as, source, group, originator, bodies, on_body, body_of, code_of, same_kind, has_field}
use Rattle.nlri.specs.Fields.{Fields, encode_address, encode_field, encode_body, encode_nlri}
use Rattle.nlri.proofs.Statements.Acceptance.{read-is-encoded}
use Rattle.routes.specs.Arguments.{read_s_pmsi}

abbrev row : List FieldKind
row = distinguisher ∷ source ∷ group ∷ originator ∷ []

encode-row : (f : Fields) → f.type ≡ 3 → encode_nlri f ≡ 3 ∷ (length (encode_body f row) ∷ encode_body f row)
unfolding encode_nlri body_of on_body bodies pick
encode-row f t = rw t

-- what a well-formed S-PMSI NLRI is read as encodes to it
read-s-pmsi : (afi : ℕ) (s : List ℕ) (f : Fields) → read_s_pmsi afi s ≡ given f → (f.type ≡ 3) × (s ≡ encode_nlri f)
unfolding read_s_pmsi body_of on_body bodies pick has_field same_kind code_of either
read-s-pmsi afi s f e =
    let k = passed _ _ _ e in
    let t = given-unless _ _ _ _ k.second in
    let same : k.value ≡ f = given-same t.1 in
    let type : f.type ≡ 3 = ap (λ (x : Fields). x.type) (sym same) ∙ eqb-true _ _ t.0 in
    (type, read-is-encoded afi s f (λ h. absurd (opposite h (ap (λ (n : ℕ). has_field source_as (body_of n)) type))) (k.first ∙ ap given same))

-- a distinguisher, a source, a group and an originator are those of one S-PMSI NLRI
pub same-s-pmsi : (afi : ℕ) (s t : List ℕ) (f g : Fields) → read_s_pmsi afi s ≡ given f → read_s_pmsi afi t ≡ given g
    → f.distinguisher ≡ g.distinguisher → f.source ≡ g.source → f.group ≡ g.group → f.originator ≡ g.originator → s ≡ t
unfolding encode_body encode_field
same-s-pmsi afi s t f g e e' d a b o =
    let p = read-s-pmsi afi s f e in
    let q = read-s-pmsi afi t g e' in
    let body : encode_body f row ≡ encode_body g row =
    ap₂ (λ (x y : List ℕ). x ++ y) d (ap₂ (λ (x y : List ℕ). encode_address x ++ y) a (ap₂ (λ (x y : List ℕ). encode_address x ++ y) b (ap (λ (x : List ℕ). x ++ []) o))) in
    p.1 ∙ encode-row f p.0 ∙ ap (λ (x : List ℕ). 3 ∷ (length x ∷ x)) body ∙ sym (encode-row g q.0) ∙ sym q.1
