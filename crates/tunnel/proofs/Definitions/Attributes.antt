-- Laws of reading and writing an attribute: what a value given says of the octets or fields, and that DONE comes with one.
use Prim.Native.Nat.{ℕ, ◌+◌, ◌≤◌}
use mathlib.Core.Path.{◌≡◌, sym, ap, ◌∙◌}
use mathlib.Core.List.{List}
use native.Mathlib.Omega.{arith}
use lib.ListN.{length, get_or, drop, length-append}
use borrow.Author.Tests.{ltb-false}
use Rattle.octets.specs.Numbers.{DONE}
use Rattle.octets.specs.Outcome.{given, number_of}
use Rattle.octets.proofs.Outcome.{given-same, given-otherwise, passed, number-given, done-given, Refuses, value, number, refuses-pick, refuses-then, refuses-by}
use Rattle.octets.proofs.NetworkOrder.{length-big_endian}
use Rattle.tunnel.specs.Identifier.{read_identifier}
use Rattle.tunnel.specs.Attribute.{AttributeFields, encode_attribute, fields_in, read_attribute, write_attribute}
use Rattle.tunnel.specs.Rules.AttributeRules.{ReadableSize}
use Rattle.tunnel.proofs.Definitions.Identifiers.{read_fits, refuses-identifier}

pub length-attribute : (f : AttributeFields) → length (encode_attribute f) ≡ 5 + length f.identifier
unfolding encode_attribute
length-attribute f = simp (length-append, length-big_endian) (omega arith)

-- an attribute that the tests let pass
pub record Accepted (s : List ℕ) : Type 0 where
  pub size : ReadableSize s
  pub judged : read_identifier (get_or s 1 0) (drop 5 s) ≡ given (drop 5 s)

-- a value given is the fields that stand in the octets
pub read-given : (s : List ℕ) (f : AttributeFields) → read_attribute s ≡ given f → Accepted s × (fields_in s ≡ f)
unfolding read_attribute
read-given s f e =
    let a = given-otherwise _ _ _ _ e in
    let b = given-otherwise _ _ _ _ a.1 in
    let p = passed _ _ _ b.1 in
    (record { size = record { most = ltb-false 64 (length s) a.0; least = ltb-false (length s) 5 b.0 }; judged = p.first ∙ ap given (sym (read_fits p.first).1) }, given-same p.second)

pub refuses-read : (s : List ℕ) → Refuses (λ n. n ≡ DONE → ⊥) (read_attribute s)
unfolding read_attribute
refuses-read s =
    refuses-pick _ _ _ (number (λ z. omega arith)) (refuses-pick _ _ _ (number (λ z. omega arith)) (refuses-then _ _ (refuses-identifier _ _) (λ _. value)))

module _ (s : List ℕ) (n : ℕ) (e : n ≡ number_of (read_attribute s)) (z : n ≡ DONE) where
  -- DONE comes with the fields that stand in the octets
  pub read_done : read_attribute s ≡ given (fields_in s)
  read_done = let d = done-given (read_attribute s) (λ m. refuses-by _ m (refuses-read s)) (sym e ∙ z) in d.1 ∙ ap given (sym (read-given s d.0 d.1).1)

  -- and with a header before an identifier that is judged DONE
  pub read-tests : (5 ≤ length s) × (number_of (read_identifier (get_or s 1 0) (drop 5 s)) ≡ DONE)
  read-tests = let p = (read-given s _ read_done).0 in (p.size.least, number-given p.judged)

module _ (f : AttributeFields) (space : ℕ) where
  -- fields that the tests let pass
  pub record Writable : Type 0 where
    pub most : length f.identifier ≤ 59
    pub judged : read_identifier f.tunnel_type f.identifier ≡ given f.identifier
    pub label : f.label_field ≤ 16777215
    pub room : length (encode_attribute f) ≤ space

  -- a value given is the encoding
  pub write-given : (e : List ℕ) → write_attribute f space ≡ given e → Writable × (e ≡ encode_attribute f)
  unfolding write_attribute
  write-given e q =
      let a = given-otherwise _ _ _ _ q in
      let p = passed _ _ _ a.1 in
      let b = given-otherwise _ _ _ _ p.second in
      let d = given-otherwise _ _ _ _ b.1 in
      (record { most = ltb-false 59 (length f.identifier) a.0; judged = p.first ∙ ap given (sym (read_fits p.first).1); label = ltb-false 16777215 f.label_field b.0; room = ltb-false space (length (encode_attribute f)) d.0 }, given-same (sym d.1))

  -- DONE comes with the encoding
  refuses-write : Refuses (λ n. n ≡ DONE → ⊥) (write_attribute f space)
  unfolding write_attribute
  refuses-write =
      refuses-pick _ _ _ (number (λ z. omega arith)) (refuses-then _ _ (refuses-identifier f.tunnel_type f.identifier)
      (λ _. refuses-pick _ _ _ (number (λ z. omega arith)) (refuses-pick _ _ _ (number (λ z. omega arith)) value)))

  pub write_done : (n : ℕ) → n ≡ number_of (write_attribute f space) → n ≡ DONE → Writable × (write_attribute f space ≡ given (encode_attribute f))
  write_done n e z =
      let d = done-given (write_attribute f space) (λ m. refuses-by _ m refuses-write) (sym e ∙ z) in
      let w = write-given d.0 d.1 in
      (w.0, d.1 ∙ ap given w.1)
