-- `attribute_write_rule`.
use Prim.Native.Nat.{ℕ, ◌≤◌}
use mathlib.Core.Path.{◌≡◌, refl, ap, subst, ◌∙◌}
use mathlib.Core.List.{List}
use mathlib.Core.Logic.{◌↔◌}
use native.Mathlib.Omega.{arith}
use lib.ListN.{length}
use borrow.Author.Tests.{ltb-true, ltb-false, le-ltb, lt-ltb}
use Rattle.octets.specs.Numbers.{DONE}
use Rattle.octets.specs.Choice.{pick}
use Rattle.octets.specs.Outcome.{Outcome, given, refused, and_then}
use Rattle.octets.specs.Outputs.{Wrote, written_of}
use Rattle.octets.specs.Rules.Answering.{Answering, NothingWritten}
use Rattle.octets.specs.declared.Written.{Written}
use Rattle.octets.proofs.Answering.{answering, wrote_rule}
use Rattle.octets.proofs.Choice.{pick-case}
use Rattle.octets.proofs.Outcome.{and-case, Refuses, value, number, refuses-by}
use Rattle.tunnel.specs.Identifier.{OfType}
use Rattle.tunnel.specs.Attribute.{AttributeFields, WellFormedAttribute, encode_attribute, write_attribute}
use Rattle.tunnel.specs.Rules.AttributeRules.{OctetFields, AttributeWriteRefusal, long, bad_tunnel, bad_identifier, bad_label, no_space, AttributeWritten, AttributeWriteRule}
use Rattle.tunnel.specs.Answers.{argument_fields}
use Rattle.tunnel.proofs.Definitions.Identifiers.{IdentifierRefusal, no_row, no_fit, of-type, read_fits, read-refuses, read-unknown, read-unfit, read-of-type}
use Rattle.tunnel.proofs.Definitions.Attributes.{write-given}

module _ (f : AttributeFields) (space : ℕ) where
  well-formed : length f.identifier ≤ 59 → OfType f.tunnel_type f.identifier → f.label_field ≤ 16777215 → OctetFields f → WellFormedAttribute f
  well-formed h t l o = record { flags_fit = o.flags_fit; label_fits = omega arith; identifier_size = h; identifier_octets = o.identifier_octets; of_type = t }

  identifier-refusal : {n : ℕ} → length f.identifier ≤ 59 → IdentifierRefusal f.tunnel_type f.identifier n → AttributeWriteRefusal f space n
  identifier-refusal h (no_row u) = bad_tunnel h u
  identifier-refusal h (no_fit k o) = bad_identifier h k o

  write-refuses : OctetFields f → Refuses (AttributeWriteRefusal f space) (write_attribute f space)
  unfolding write_attribute
  write-refuses o =
      pick-case (Refuses (AttributeWriteRefusal f space)) _ _ _ (λ p. number (long (ltb-true 59 (length f.identifier) p)))
      (λ p.
      let h = ltb-false 59 (length f.identifier) p in
      and-case (Refuses (AttributeWriteRefusal f space)) _ _ (λ n e. number (identifier-refusal h (refuses-by _ n (read-refuses _ _) e)))
      (λ i e.
      let t = of-type o.identifier_octets (read_fits e).0 in
      pick-case (Refuses (AttributeWriteRefusal f space)) _ _ _ (λ q. number (bad_label h t (ltb-true 16777215 f.label_field q)))
      (λ q. pick-case (Refuses (AttributeWriteRefusal f space)) _ _ _
      (λ r. number (no_space (well-formed h t (ltb-false 16777215 f.label_field q) o) (ltb-true space (length (encode_attribute f)) r)))
      (λ _. value))))

  pub write-encode : WellFormedAttribute f → length (encode_attribute f) ≤ space → write_attribute f space ≡ given (encode_attribute f)
  unfolding write_attribute pick and_then
  write-encode w r =
      rw (le-ltb 59 (length f.identifier) w.identifier_size, read-of-type w.of_type, le-ltb 16777215 f.label_field (omega (arith, w.label_fits)), le-ltb space (length (encode_attribute f)) r)

  refused-by : (n : ℕ) → OctetFields f → AttributeWriteRefusal f space n → write_attribute f space ≡ refused n
  unfolding write_attribute pick and_then
  refused-by n o (long h) = rw (lt-ltb 59 (length f.identifier) h)
  refused-by n o (bad_tunnel h u) = rw (le-ltb 59 (length f.identifier) h, read-unknown f.tunnel_type f.identifier u)
  refused-by n o (bad_identifier h k t) = rw (le-ltb 59 (length f.identifier) h, read-unfit f.tunnel_type f.identifier o.identifier_octets k t)
  refused-by n o (bad_label h t l) = rw (le-ltb 59 (length f.identifier) h, read-of-type t, lt-ltb 16777215 f.label_field l)
  refused-by n o (no_space w r) =
      rw (le-ltb 59 (length f.identifier) w.identifier_size, read-of-type w.of_type, le-ltb 16777215 f.label_field (omega (arith, w.label_fits)), lt-ltb space (length (encode_attribute f)) r)

  -- no refusal is DONE
  write-not-done : (n : ℕ) → AttributeWriteRefusal f space n → n ≡ DONE → ⊥
  write-not-done n (long h) e = omega arith
  write-not-done n (bad_tunnel h u) e = omega arith
  write-not-done n (bad_identifier h k t) e = omega arith
  write-not-done n (bad_label h t l) e = omega arith
  write-not-done n (no_space w r) e = omega arith

  exactly : (n : ℕ) → OctetFields f → (write_attribute f space ≡ refused n) ↔ AttributeWriteRefusal f space n
  exactly n o = (refuses-by _ n (write-refuses o), refused-by n o)

  accepted : (e : List ℕ) → OctetFields f → (write_attribute f space ≡ given e) ↔ (WellFormedAttribute f × (length (encode_attribute f) ≤ space) × (e ≡ encode_attribute f))
  accepted e o = (
    λ q. let w = write-given f space e q in (well-formed w.0.most (of-type o.identifier_octets (read_fits w.0.judged).0) w.0.label o, w.0.room, w.1),
    λ p. rw p.2 (write-encode p.0 p.1),
  )

-- the answer and the output that the contract of the call allows
writes : (f : AttributeFields) (before : List ℕ) (answer : Written) (after : List ℕ) → OctetFields f → Wrote (write_attribute f (length before)) before answer after
    → Answering answer.number (AttributeWriteRefusal f (length before)) (AttributeWritten f before answer after) (NothingWritten before answer after)
unfolding written_of
writes f before answer after o w =
    let room : ℕ = length before in
    answering (write_attribute f room) answer.number (AttributeWriteRefusal f room) (ap (λ (x : Written). x.number) w.0) (λ n. exactly f room n o) (λ why. write-not-done f room 0 why refl) _ _
    (λ e q.
    let r = (accepted f room e o).0 q in
    record { well_formed = r.0; encoded = (wrote_rule.done _ before answer after r.1 (subst (λ (x : Outcome (List ℕ)). Wrote x before answer after) (q ∙ ap given r.2) w)).1 })
    (λ d. (_, (accepted f room _ o).1 (d.well_formed, d.encoded.room, refl)))
    (λ n q. (wrote_rule.refuses n before answer after (subst (λ (x : Outcome (List ℕ)). Wrote x before answer after) q w)).1)

pub attribute_write_rule : AttributeWriteRule
attribute_write_rule =
    record {
      accepted = λ f space e o. accepted f space e o;
      exactly = λ f space n o. exactly f space n o;
      writes = λ flags type label identifier before answer after fits octets w. writes (argument_fields flags type label identifier) before answer after (record { flags_fit = fits; identifier_octets = octets }) w;
    }
