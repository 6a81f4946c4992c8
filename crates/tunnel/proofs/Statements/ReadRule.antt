-- `attribute_read_rule`.
use Prim.Native.Nat.{ℕ, ◌≤◌}
use mathlib.Core.Path.{◌≡◌, refl, ap, subst, ◌∙◌}
use mathlib.Core.List.{List, ◌∷◌, ◌++◌}
use native.Mathlib.Omega.{arith}
use lib.ListN.{length, get_or, drop, length-drop}
use lib.Seq.{drop-cons}
use borrow.Author.Tests.{ltb-true, ltb-false, le-ltb, lt-ltb}
use Rattle.octets.specs.Choice.{pick}
use Rattle.octets.specs.Outcome.{given, refused, and_then}
use Rattle.octets.specs.Octets.{AllOctets, part, number_in, big_endian}
use Rattle.octets.proofs.Choice.{pick-case}
use Rattle.octets.proofs.Outcome.{and-case, Refuses, value, number, refuses-by}
use Rattle.octets.proofs.Lists.{drop-part}
use Rattle.octets.proofs.AllOctets.{octet-at, octets-drop}
use Rattle.octets.proofs.NetworkOrder.{number-of-big-endian, part-number, part-fits}
use Rattle.tunnel.specs.Attribute.{AttributeFields, WellFormedAttribute, encode_attribute, fields_in, read_attribute}
use Rattle.tunnel.specs.Rules.AttributeRules.{ReadableSize, AttributeReadRefusal, long, short, bad_tunnel, bad_identifier, AttributeReadRule}
use Rattle.tunnel.proofs.Definitions.Identifiers.{IdentifierRefusal, no_row, no_fit, of-type, read_fits, read-refuses, read-unknown, read-unfit, read-of-type}
use Rattle.tunnel.proofs.Definitions.Attributes.{length-attribute, Accepted, read-given}

identifier-refusal : {s : List ℕ} {n : ℕ} → ReadableSize s → IdentifierRefusal (get_or s 1 0) (drop 5 s) n → AttributeReadRefusal s n
identifier-refusal z (no_row u) = bad_tunnel z u
identifier-refusal z (no_fit k o) = bad_identifier z k o

attribute-refuses : (s : List ℕ) → Refuses (AttributeReadRefusal s) (read_attribute s)
unfolding read_attribute
attribute-refuses s =
    pick-case (Refuses (AttributeReadRefusal s)) _ _ _ (λ p. number (long (ltb-true 64 (length s) p)))
    (λ p. pick-case (Refuses (AttributeReadRefusal s)) _ _ _ (λ q. number (short (ltb-true (length s) 5 q)))
    (λ q. and-case (Refuses (AttributeReadRefusal s)) _ _
    (λ n e. number (identifier-refusal (record { most = ltb-false 64 (length s) p; least = ltb-false (length s) 5 q }) (refuses-by _ n (read-refuses _ _) e)))
    (λ _ _. value)))

-- an attribute is its parts
attribute-parts : (s : List ℕ) → 5 ≤ length s → s ≡ get_or s 0 0 ∷ (get_or s 1 0 ∷ (part s 2 3 ++ drop 5 s))
attribute-parts s h =
    drop-cons s 0 0 (omega arith) ∙ ap (λ (l : List ℕ). get_or s 0 0 ∷ l) (drop-cons s 1 0 (omega arith) ∙ ap (λ (l : List ℕ). get_or s 1 0 ∷ l) (drop-part s 2 3))

-- the fields of octets that the tests let pass are well-formed, and encode to these octets
pub accepted-fields : (s : List ℕ) → AllOctets s → Accepted s → WellFormedAttribute (fields_in s) × (s ≡ encode_attribute (fields_in s))
unfolding fields_in encode_attribute
accepted-fields s a p = (
  record {
    flags_fit = octet-at a 0;
    label_fits = part-fits a 2 3 p.size.least;
    identifier_size = simp (length-drop 5 s) (omega (arith, p.size.most));
    identifier_octets = octets-drop 5 a;
    of_type = of-type (octets-drop 5 a) (read_fits p.judged).0;
  },
  rw (part-number a 2 3 p.size.least) (attribute-parts s p.size.least),
)

-- an encoding is read as the fields that it encodes
module _ (f : AttributeFields) (w : WellFormedAttribute f) where
  flags-encode : get_or (encode_attribute f) 0 0 ≡ f.flags
  unfolding encode_attribute
  flags-encode = refl

  type-encode : get_or (encode_attribute f) 1 0 ≡ f.tunnel_type
  unfolding encode_attribute
  type-encode = refl

  label-encode : number_in (part (encode_attribute f) 2 3) 0 ≡ f.label_field
  unfolding encode_attribute big_endian part
  label-encode = number-of-big-endian 3 f.label_field w.label_fits

  identifier-encode : drop 5 (encode_attribute f) ≡ f.identifier
  unfolding encode_attribute big_endian
  identifier-encode = refl

  fields-encode : fields_in (encode_attribute f) ≡ f
  unfolding fields_in
  fields-encode = rw (flags-encode, type-encode, label-encode, identifier-encode)

  pub read-encode : read_attribute (encode_attribute f) ≡ given f
  unfolding read_attribute pick and_then
  read-encode =
      let l = length-attribute f in
      rw (le-ltb 64 (length (encode_attribute f)) (omega (arith, w.identifier_size)), le-ltb (length (encode_attribute f)) 5 (omega arith), type-encode, identifier-encode, read-of-type w.of_type) (ap given fields-encode)

accepted-as : (s : List ℕ) (f : AttributeFields) → AllOctets s → read_attribute s ≡ given f → WellFormedAttribute f × (s ≡ encode_attribute f)
accepted-as s f a e =
    let p = read-given s f e in
    subst (λ (g : AttributeFields). WellFormedAttribute g × (s ≡ encode_attribute g)) p.1 (accepted-fields s a p.0)

refused-by : (s : List ℕ) (n : ℕ) → AllOctets s → AttributeReadRefusal s n → read_attribute s ≡ refused n
unfolding read_attribute pick and_then
refused-by s n a (long h) = rw (lt-ltb 64 (length s) h)
refused-by s n a (short h) = rw (le-ltb 64 (length s) (omega arith), lt-ltb (length s) 5 h)
refused-by s n a (bad_tunnel z u) = rw (le-ltb 64 (length s) z.most, le-ltb (length s) 5 z.least, read-unknown (get_or s 1 0) (drop 5 s) u)
refused-by s n a (bad_identifier z k o) = rw (le-ltb 64 (length s) z.most, le-ltb (length s) 5 z.least, read-unfit (get_or s 1 0) (drop 5 s) (octets-drop 5 a) k o)

pub attribute_read_rule : AttributeReadRule
attribute_read_rule =
    record {
      accepted = λ s f a. (accepted-as s f a, λ p. rw p.1 (read-encode f p.0));
      exactly = λ s n a. (refuses-by _ n (attribute-refuses s), refused-by s n a);
    }
