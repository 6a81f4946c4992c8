-- Laws of writing an attribute, by the tests that the code makes.
use Prim.Native.Nat.{ℕ, ◌+◌, ◌≤◌}
use mathlib.Core.Path.{◌≡◌, refl, ◌∙◌}
use mathlib.Core.Bool.{Bool, true, false}
use lib.Dec.{ltb}
use lib.ListN.{length}
use borrow.Author.Tests.{le-ltb}
use Rattle.octets.specs.Choice.{pick}
use Rattle.octets.specs.Numbers.{DONE, LABEL, SPACE}
use Rattle.octets.specs.Outcome.{given, refused, and_then, number_of}
use Rattle.tunnel.specs.Identifier.{read_identifier}
use Rattle.tunnel.specs.Attribute.{AttributeFields, encode_attribute, write_attribute}
use Rattle.tunnel.proofs.Definitions.Identifiers.{judged-done}
use Rattle.tunnel.proofs.Definitions.Attributes.{length-attribute}

module _ (f : AttributeFields) (space : ℕ) where
  -- past LONG, TUNNEL and IDENT the label field and the space decide
  pub number-written : (r n : ℕ) → length f.identifier ≤ 59 → n ≡ number_of (read_identifier f.tunnel_type f.identifier) → n ≡ DONE
      → r ≡ pick (ltb 16777215 f.label_field) LABEL (pick (ltb space (5 + length f.identifier)) SPACE DONE) → r ≡ number_of (write_attribute f space)
  unfolding write_attribute pick and_then number_of
  number-written r n h e z q =
      rw (le-ltb 59 (length f.identifier) h, judged-done n f.tunnel_type f.identifier e z, length-attribute f) (q ∙ go (ltb 16777215 f.label_field) (ltb space (5 + length f.identifier)))
    where
      go : (a b : Bool) → pick a LABEL (pick b SPACE DONE) ≡ number_of (pick a (refused LABEL) (pick b (refused SPACE) (given (encode_attribute f))))
      go true b = refl
      go false true = refl
      go false false = refl
