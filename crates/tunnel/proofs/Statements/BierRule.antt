-- The identifier of a BIER tunnel (specs/Bier.antt).
use Prim.Native.Nat.{ℕ}
use mathlib.Core.Path.{◌≡◌, refl, sym, ap, ◌∙◌}
use mathlib.Core.Bool.{false}
use mathlib.Core.List.{List, [], ◌∷◌}
use mathlib.Core.Logic.{◌⊎◌, inl, inr, ⊎_elim}
use native.Mathlib.Omega.{arith}
use lib.ListN.{length, get_or, drop}
use borrow.Author.Tests.{eqb-true}
use Rattle.octets.specs.Choice.{pick}
use Rattle.octets.specs.Outcome.{given, and_then}
use Rattle.octets.specs.Octets.{part, number_in}
use Rattle.octets.proofs.Choice.{opposite, either_true}
use Rattle.octets.proofs.Outcome.{given-unless}
use Rattle.tunnel.specs.Identifier.{identifier_forms, form_in, form_of, one_of, is_identifier, read_identifier}
use Rattle.tunnel.specs.Attribute.{AttributeFields, fields_in, read_attribute}
use Rattle.tunnel.specs.Bier.{bier_in}
use Rattle.tunnel.specs.Rules.BierIdentifierRule.{BierOctets, BierIdentifierRule}
use Rattle.tunnel.proofs.Definitions.Attributes.{read-given}

-- an identifier judged as BIER's has 7 or 19 octets
bier-sizes : (i j : List ℕ) → read_identifier 11 i ≡ given j → (length i ≡ 7) ⊎ (length i ≡ 19)
unfolding read_identifier form_of form_in identifier_forms and_then pick is_identifier one_of
bier-sizes i j e =
    ⊎_elim (λ a. inl (eqb-true _ _ a)) (λ b. ⊎_elim (λ c. inr (eqb-true _ _ c)) (λ none. absurd (opposite {b = false} none refl)) (either_true _ _ b)) (either_true _ _ (given-unless _ _ _ _ e).0)

-- so it is three octets and a prefix
bier-octets : (i : List ℕ) → (length i ≡ 7) ⊎ (length i ≡ 19) → BierOctets i
bier-octets [] h = absurd (⊎_elim (λ e. omega arith) (λ e. omega arith) h)
bier-octets (a ∷ []) h = absurd (⊎_elim (λ e. omega arith) (λ e. omega arith) h)
bier-octets (a ∷ (b ∷ [])) h = absurd (⊎_elim (λ e. omega arith) (λ e. omega arith) h)
bier-octets (a ∷ (b ∷ (c ∷ prefix))) h =
    record { sub_domain = a; high = b; low = c; prefix = prefix; sized = ⊎_elim (λ e. inl (omega arith)) (λ e. inr (omega arith)) h; is = refl }

octets : (attribute : List ℕ) (f : AttributeFields) → read_attribute attribute ≡ given f → f.tunnel_type ≡ 11 → BierOctets f.identifier
unfolding fields_in
octets s f e t =
    let r = read-given s f e in
    let bier : get_or s 1 0 ≡ 11 = ap (λ (g : AttributeFields). g.tunnel_type) r.1 ∙ t in
    rw (sym r.1) (bier-octets (drop 5 s) (bier-sizes (drop 5 s) (drop 5 s) (ap (λ (n : ℕ). read_identifier n (drop 5 s)) (sym bier) ∙ r.0.judged)))

pub bier_identifier_rule : BierIdentifierRule
unfolding bier_in part number_in
bier_identifier_rule =
    record {
      octets = octets;
      sub_domain = λ i o. rw o.is;
      bfr_id = λ i o. rw o.is (omega arith);
    }
