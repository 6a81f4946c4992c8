-- What reading answers: `attribute_answer_rule`, and the round trips.
use Prim.Native.Nat.{ℕ, ◌+◌, ◌≤◌}
use mathlib.Core.Path.{◌≡◌, refl, sym, ap, ap₂, subst, ◌∙◌}
use mathlib.Core.Bool.{true}
use mathlib.Core.Logic.{◌↔◌, ⊎_elim}
use mathlib.Core.List.{List}
use native.Mathlib.Omega.{arith}
use lib.ListN.{length, get_or, drop, length-drop}
use lib.Seq.{take-length, drop-drop}
use Rattle.octets.specs.Outcome.{given, refused, and_then}
use Rattle.octets.specs.Octets.{AllOctets, part}
use Rattle.octets.proofs.Outcome.{never, given-same, refused-same, passed, stopped}
use Rattle.octets.proofs.Lists.{length_part}
use Rattle.octets.proofs.AllOctets.{octets-drop}
use Rattle.octets.specs.declared.refusal.Refusal.{Refusal}
use Rattle.octets.proofs.Refusals.{refusal_number-apart}
use Rattle.std.proofs.Common.{Result, Ok, Err}
use Rattle.tunnel.specs.declared.Attribute.{Attribute}
use Rattle.fec_elements.specs.Fields.{encode_fec, WellFormedFec}
use Rattle.fec_elements.specs.Reading.{opaque_start, opaque_size, fec_in, whole_fec}
use Rattle.tunnel.specs.Identifier.{IdentifierForm, sizes, fec_types, form_of}
use Rattle.tunnel.specs.Attribute.{AttributeFields, WellFormedAttribute, label_of, leaf_information_required, encode_attribute, fields_in, read_attribute, write_attribute}
use Rattle.tunnel.specs.Answers.{outcome_of, span, fec_spans, fec_answer, attribute_struct, read_struct}
use Rattle.tunnel.specs.Rules.AttributeRules.{octets_at, fields_told, fec_told, AttributeRoundTrips, AnsweredFec, AnsweredForm, not_fec, is_fec, AnsweredAttribute, AttributeAnswerRule}
use Rattle.fec_elements.proofs.Fecs.{start_is, length-root, length-opaque, length-encode}
use Rattle.fec_elements.proofs.Wholes.{whole-within, length-fec, opaque-size, whole_fields, fields-encode}
use Rattle.tunnel.proofs.Definitions.Identifiers.{form-among, read_whole}
use Rattle.tunnel.proofs.Functions.Answers.{fec-sizes, fec-types}
use Rattle.tunnel.proofs.Definitions.Attributes.{Accepted, read-given, length-attribute}
use Rattle.tunnel.proofs.Statements.ReadRule.{accepted-fields, read-encode, attribute_read_rule}
use Rattle.tunnel.proofs.Statements.WriteRule.{attribute_write_rule, write-encode}

-- the numbers tell refusals apart
outcome-apart : (a b : Result Attribute Refusal) → outcome_of a ≡ outcome_of b → a ≡ b
outcome-apart (Ok a) (Ok b) e = let q : a ≡ b = given-same e in rw q
outcome-apart (Ok a) (Err n) e = absurd (never refl e)
outcome-apart (Err m) (Ok b) e = absurd (never e refl)
outcome-apart (Err m) (Err n) e = let q : m ≡ n = refusal_number-apart m n (refused-same {A = Attribute} e) in rw q

-- root, opaque length and opaque value stand one straight after the other, up to the end
spans-root : (i : List ℕ) → (fec_spans (fec_in i)).root.start + (fec_spans (fec_in i)).root.size + 2 ≡ (fec_spans (fec_in i)).opaque.start
unfolding fec_spans
spans-root i = omega arith

spans-opaque : (i : List ℕ) → whole_fec i ≡ true → (fec_spans (fec_in i)).opaque.start + (fec_spans (fec_in i)).opaque.size ≡ 5 + length i
unfolding fec_spans fec_in
spans-opaque i w = omega (arith, length-root i (whole-within i w), length-opaque i (whole-within i w), opaque-size i w, length-fec i w)

-- what the answer tells of the octets are the fields and the FEC that stand in them
told-identifier : (s : List ℕ) → octets_at s (attribute_struct (fields_in s)).identifier ≡ drop 5 s
unfolding attribute_struct fields_in part
told-identifier s = take-length (drop 5 s)

told-fields : (s : List ℕ) → fields_told s (attribute_struct (fields_in s)) ≡ fields_in s
unfolding attribute_struct fields_in
told-fields s = rw (told-identifier s)

part-after : (s : List ℕ) (from at size : ℕ) → part s (from + at) size ≡ part (drop from s) at size
unfolding part
part-after s from at size = rw drop-drop

module _ (s : List ℕ) (w : whole_fec (drop 5 s) ≡ true) where
  told-root : octets_at s (fec_spans (fec_in (drop 5 s))).root ≡ (fec_in (drop 5 s)).root
  unfolding fec_spans fec_in
  told-root = rw (length-root (drop 5 s) (whole-within (drop 5 s) w)) (part-after s 5 4 (get_or (drop 5 s) 3 0))

  told-opaque : octets_at s (fec_spans (fec_in (drop 5 s))).opaque ≡ (fec_in (drop 5 s)).opaque_value
  unfolding fec_spans fec_in
  told-opaque =
      let i : List ℕ = drop 5 s in
      let at : 11 + get_or i 3 0 ≡ 5 + opaque_start i = omega (arith, start_is i) in
      rw (length-root i (whole-within i w), length-opaque i (whole-within i w), at) (part-after s 5 (opaque_start i) (opaque_size i))

  told-fec : fec_told s (fec_spans (fec_in (drop 5 s))) ≡ fec_in (drop 5 s)
  unfolding fec_spans
  told-fec = rw (told-root, told-opaque)

-- the call's answer says of the octets what it is to say
module _ (s : List ℕ) (o : AllOctets s) (p : Accepted s) where
  span-ends : 5 + length (drop 5 s) ≡ length s
  span-ends = omega (arith, length-drop 5 s, p.size.least)

  answered-fec : (ns : List ℕ) → form_of (get_or s 1 0) ≡ given (fec_types ns) → AnsweredFec s (attribute_struct (fields_in s))
  unfolding attribute_struct fields_in
  answered-fec ns e =
      let w = read_whole (get_or s 1 0) (drop 5 s) e p.judged in
      let i : List ℕ = drop 5 s in
      let x : fec_answer (fields_in s) ≡ fec_spans (fec_in i) = fec-types (fields_in s) ns e in
      let t : fec_told s (fec_answer (fields_in s)) ≡ fec_in i = ap (fec_told s) x ∙ told-fec s w in
      let z = whole_fields i (octets-drop 5 o) w in
      record {
        well_formed = subst WellFormedFec (sym t) z.0;
        encoded = told-identifier s ∙ z.1 ∙ ap encode_fec (sym t);
        root_ends = rw x (spans-root i);
        opaque_ends = rw x (spans-opaque i w ∙ span-ends);
      }

  answered-form : (form : IdentifierForm) → form_of (get_or s 1 0) ≡ given form → AnsweredForm s (attribute_struct (fields_in s)) form
  unfolding attribute_struct fields_in
  answered-form (sizes ns) e = not_fec (fec-sizes (fields_in s) ns e)
  answered-form (fec_types ns) e = is_fec (answered-fec ns e)

  answered-fields : AnsweredAttribute s (attribute_struct (fields_in s))
  unfolding attribute_struct fields_in label_of leaf_information_required
  answered-fields =
      let w = accepted-fields s o p in
      record {
        well_formed = subst WellFormedAttribute (sym (told-fields s)) w.0;
        encoded = w.1 ∙ ap encode_attribute (sym (told-fields s));
        identifier_ends = span-ends;
        label = refl;
        leaf_information_required = refl;
        fec = λ form m. answered-form form (form-among (get_or s 1 0) form m);
      }

answered-of : (s : List ℕ) (a : Attribute) → AllOctets s → read_struct s ≡ given a → AnsweredAttribute s a
unfolding read_struct
answered-of s a o e =
    let g = passed _ _ _ e in
    let p = read-given s g.value g.first in
    subst (AnsweredAttribute s) (ap attribute_struct p.1 ∙ given-same g.second) (answered-fields s o p.0)

-- and an answer that does is the call's
module _ (s : List ℕ) (a : Attribute) (w : AnsweredAttribute s a) where
  length-told : length s ≡ 5 + length (octets_at s a.identifier)
  length-told = ap length w.encoded ∙ length-attribute (fields_told s a)

  told-span : span 5 (length (octets_at s a.identifier)) ≡ a.identifier
  told-span =
      let l : length (octets_at s a.identifier) ≡ a.identifier.size = length_part s a.identifier.start a.identifier.size (omega (arith, w.identifier_ends)) in
      let start : 5 ≡ a.identifier.start = omega (arith, w.identifier_ends, length-told) in
      ap₂ span start l

  told-spans : AnsweredFec s a → fec_spans (fec_told s a.fec) ≡ a.fec
  unfolding fec_spans
  told-spans k =
      let root = a.fec.root in
      let opaque = a.fec.opaque in
      let n : length (octets_at s root) ≡ root.size = length_part s root.start root.size (omega (arith, k.root_ends, k.opaque_ends)) in
      let m : length (octets_at s opaque) ≡ opaque.size = length_part s opaque.start opaque.size (omega (arith, k.opaque_ends)) in
      let total : length (octets_at s a.identifier) ≡ 6 + length (octets_at s root) + length (octets_at s opaque) = ap length k.encoded ∙ length-encode (fec_told s a.fec) in
      let first : 9 ≡ root.start = omega (arith, k.root_ends, k.opaque_ends, length-told) in
      let second : 11 + length (octets_at s root) ≡ opaque.start = omega (arith, k.root_ends, k.opaque_ends, length-told) in
      rw (second, first, n, m)

  told-form : (form : IdentifierForm) → form_of a.tunnel_type ≡ given form → AnsweredForm s a form → fec_answer (fields_told s a) ≡ a.fec
  told-form form e (not_fec {ns} z) = fec-sizes (fields_told s a) ns e ∙ sym z
  told-form form e (is_fec {ns} k) =
      fec-types (fields_told s a) ns e ∙ ap (λ (i : List ℕ). fec_spans (fec_in i)) k.encoded ∙ ap fec_spans (fields-encode (fec_told s a.fec) k.well_formed) ∙ told-spans k

  told-struct : attribute_struct (fields_told s a) ≡ a
  unfolding attribute_struct label_of leaf_information_required
  told-struct =
      let t = w.well_formed.of_type in
      let f : fec_answer (fields_told s a) ≡ a.fec = told-form t.form (form-among a.tunnel_type t.form t.in_table) (w.fec t.form t.in_table) in
      rw (← w.label, ← w.leaf_information_required, told-span, f)

  answered-given : AllOctets s → read_struct s ≡ given a
  unfolding read_struct and_then
  answered-given o = rw ((attribute_read_rule.accepted s (fields_told s a) o).1 (w.well_formed, w.encoded), told-struct)

struct-refused : (s : List ℕ) (n : ℕ) → (read_struct s ≡ refused n) ↔ (read_attribute s ≡ refused n)
unfolding read_struct and_then
struct-refused s n = (λ e. ⊎_elim (λ r. r) (λ l. absurd (never refl l.second)) (stopped _ _ _ e), λ e. rw e)

pub attribute_answer_rule : AttributeAnswerRule
attribute_answer_rule =
    record {
      accepted = λ s a o. (answered-of s a o, λ w. answered-given s a w o);
      exactly = λ s n o. (λ e. (attribute_read_rule.exactly s n o).0 ((struct-refused s n).0 e), λ r. (struct-refused s n).1 ((attribute_read_rule.exactly s n o).1 r));
      apart = outcome-apart;
    }

written-again : (s : List ℕ) (f : AttributeFields) (space : ℕ) → WellFormedAttribute f → s ≡ encode_attribute f → length s ≤ space → write_attribute f space ≡ given s
written-again s f space w e k = write-encode f space w (rw e at k) ∙ ap given (sym e)

pub attribute_round_trips : AttributeRoundTrips
attribute_round_trips =
    record {
      read = λ f space e o h. let p = (attribute_write_rule.accepted f space e o).0 h in rw p.2 (read-encode f p.0);
      written = λ s f space o h k. let p = (attribute_read_rule.accepted s f o).0 h in written-again s f space p.0 p.1 k;
      answered = λ s a space o h k. let p = answered-of s a o h in written-again s (fields_told s a) space p.well_formed p.encoded k;
    }
