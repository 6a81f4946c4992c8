-- Source Active routes that are discarded (document 02, W-210): what GROUP refuses, and what it does not.
use Rattle.std.proofs.Common.{◌≡◌, ℕ, ◌<◌, ◌≢◌, ◌⊎◌, ◌↔◌, List, ◌++◌, sym, refl, ◌∙◌, subst, inr, ⊎_elim, arith}
use Rattle.octets.specs.Numbers.{LENGTH, KIND, GROUP}
use Rattle.octets.specs.Outcome.{given, refused}
use Rattle.octets.specs.Octets.{AllOctets}
use Rattle.fec_elements.specs.declared.Standing.TheVariants.{Lent}
use Rattle.fec_elements.proofs.Nesting.{read_number}
use Rattle.fec_elements.proofs.Theorems.{nested_fec_rule}
use Rattle.octets.proofs.Choice.{picked}
use Rattle.octets.proofs.Outcome.{never, and-stops, stopped, given-same, refused-same}
use Rattle.nlri.specs.Family.{family_bits, root_family}
use Rattle.nlri.specs.Groups.{SourceSpecific}
use Rattle.nlri.specs.Fields.{Fields, encode_nlri, Encodable, Discarded, restricted}
use Rattle.nlri.specs.Reading.{read_nlri, read_of_type}
use Rattle.nlri.specs.Rules.NlriRules.{BodyFault, LaidRefusal, short, bad_type, bad_body, FrontRefusal, unlaid, ReadRefusal, bad_family, front, after, HoldsOctets, WriteRefusal, bad_width, bad_fec, long, bad_key, no_space}
use Rattle.nlri.specs.Rules.DiscardRule.{DiscardedFields, DiscardRule}
use Rattle.nlri.proofs.Definitions.Discards.{tested-discarded, discarded-tested}
use Rattle.nlri.proofs.Statements.Classes.{specific-multicast}
use Rattle.nlri.proofs.Statements.Acceptance.{acceptance}
use Rattle.nlri.proofs.Statements.ReadRefusals.{read_refusals}
use Rattle.nlri.proofs.Statements.WriteRefusals.{write_refusals}

-- no other number is GROUP
body_below : (n : ℕ) → BodyFault n → n < GROUP
body_below n = ⊎_elim (λ a. omega arith) (⊎_elim (λ b. omega arith) (⊎_elim (λ c. omega arith) (⊎_elim (λ d. omega arith) (λ g. omega arith))))

laid-below : (bits : ℕ) (s : List ℕ) (n : ℕ) → LaidRefusal bits s n → n < GROUP
laid-below bits s n (short h) = omega arith
laid-below bits s n (bad_type h t) = omega arith
laid-below bits s n (bad_body h t fault) = body_below n (read_refusals.bodies bits _ _ _ n fault)

module _ (afi bits : ℕ) (of_family : family_bits afi ≡ given bits) (f : Fields) (w : Encodable bits f) where
  of-afi : Discarded bits f → DiscardedFields afi f
  of-afi d = let p = discarded-tested afi bits of_family f w (tested-discarded bits f d) in record { bits = bits; of_family = of_family; encodable = w; source_active = p.0; specific = p.1 }

  of-family : f.type ≡ 5 → SourceSpecific afi f.group → Discarded bits f
  of-family five specific = record { afi = afi; of_family = of_family; source_active = five; specific = specific }

  others : (f.type ≢ 5) ⊎ (SourceSpecific afi f.group → ⊥) → read_nlri afi (encode_nlri f) ≡ given (restricted f)
  others h =
      acceptance.encoded afi bits f of_family
      (record { encodable = w; not_discarded = λ d. let p = of-afi d in ⊎_elim (λ other. other p.source_active) (λ none. none p.specific) h })

-- octets and fields that GROUP refuses
read-group : (afi : ℕ) (s : List ℕ) (n : ℕ) → ReadRefusal afi s n → n ≡ GROUP → (f : Fields) × DiscardedFields afi f × (s ≡ encode_nlri f)
read-group afi s n (bad_family one two) e = absurd (omega arith)
read-group afi s n (front bits of_family h) e = absurd (omega (arith, laid-below bits s n h))
read-group afi s n (after bits f t of_family w is some) e = absurd (omega arith)
read-group afi s n (ReadRefusal.discarded bits f of_family w d is) e = (f, of-afi afi bits of_family f w d, is)

front-group : (afi bits : ℕ) → family_bits afi ≡ given bits → (s : List ℕ) (n : ℕ) → FrontRefusal bits s n → n ≡ GROUP → (f : Fields) × (t : List ℕ) × DiscardedFields afi f × (s ≡ encode_nlri f ++ t)
front-group afi bits of_family s n (unlaid h) e = absurd (omega (arith, laid-below bits s n h))
front-group afi bits of_family s n (FrontRefusal.discarded f t w d is) e = (f, t, of-afi afi bits of_family f w d, is)

write-group : (afi : ℕ) (f : Fields) (space n : ℕ) → HoldsOctets f → WriteRefusal afi f space n → n ≡ GROUP → DiscardedFields afi f
write-group afi f space n held (bad_family one two) e = absurd (omega arith)
write-group afi f space n held (bad_type bits of_family untyped) e = absurd (omega arith)
write-group afi f space n held (bad_width bits of_family typed k h fault) e = absurd (omega arith)
write-group afi f space n held (bad_fec bits of_family typed widths h fault) e =
    absurd (⊎_elim (λ p. omega arith) (⊎_elim (λ p. omega arith) (λ p. omega arith)) (read_number (Lent (root_family bits)) f.fec n ((nested_fec_rule.exactly (Lent (root_family bits)) f.fec n held.fec).1 fault)))
write-group afi f space n held (long bits of_family typed widths fecs over) e = absurd (omega arith)
write-group afi f space n held (bad_key bits of_family typed widths fecs fits h none) e = absurd (omega arith)
write-group afi f space n held (WriteRefusal.discarded bits of_family w d) e = of-afi afi bits of_family f w d
write-group afi f space n held (no_space bits of_family w few) e = absurd (omega arith)

read : (afi : ℕ) (s : List ℕ) → AllOctets s → (read_nlri afi s ≡ refused GROUP) ↔ ((f : Fields) × DiscardedFields afi f × (s ≡ encode_nlri f))
read afi s a = (
  λ e. read-group afi s GROUP ((read_refusals.exactly afi s GROUP a).0 e) refl,
  λ h. let d = h.1 in (read_refusals.exactly afi s GROUP a).1 (ReadRefusal.discarded d.bits h.0 d.of_family d.encodable (of-family afi d.bits d.of_family h.0 d.encodable d.source_active d.specific) h.2),
)

-- KIND is none
typed-group : (type afi : ℕ) (s : List ℕ) → (read_of_type type afi s ≡ refused GROUP) ↔ (read_nlri afi s ≡ refused GROUP)
typed-group type afi s = (
  λ e. ⊎_elim (λ first. first) (λ next. absurd (⊎_elim (λ same. never refl same.1) (λ other. kind-apart (refused-same {A = Fields} other.1)) (picked _ _ _ _ next.second))) (stopped _ _ _ e),
  λ e. sym (and-stops _ _ _ e),
)
  where
    kind-apart : KIND ≡ GROUP → ⊥
    kind-apart e = omega arith

pub discard_rule : DiscardRule
discard_rule =
    record {
      tested = λ afi bits f of_family w. (discarded-tested afi bits of_family f w, λ h. tested-discarded bits f (of-family afi bits of_family f w h.0 h.1));
      read = read;
      typed = λ type afi s a. (λ e. (read afi s a).0 ((typed-group type afi s).0 e), λ h. (typed-group type afi s).1 ((read afi s a).1 h));
      after = λ afi bits f t of_family w a some. (read_refusals.exactly afi _ LENGTH a).1 (after bits f t of_family w refl some);
      front = λ afi bits s of_family a. (
        λ e. front-group afi bits of_family s GROUP ((read_refusals.front afi bits s GROUP of_family a).0 e) refl,
        λ h. let d = h.2 in (read_refusals.front afi bits s GROUP of_family a).1 (at_front afi bits of_family s h.0 h.1 d h.3),
      );
      written = λ afi f space held. (
        λ e. write-group afi f space GROUP held ((write_refusals.exactly afi f space GROUP held).0 e) refl,
        λ d. (write_refusals.exactly afi f space GROUP held).1 (WriteRefusal.discarded d.bits d.of_family d.encodable (of-family afi d.bits d.of_family f d.encodable d.source_active d.specific)),
      );
      others = λ afi bits f of_family w h. others afi bits of_family f w h;
      unicast = λ afi bits f of_family w h. others afi bits of_family f w (inr (λ s. h (specific-multicast s)));
    }
  where
    at_front : (afi bits : ℕ) → family_bits afi ≡ given bits → (s : List ℕ) (f : Fields) (t : List ℕ) → DiscardedFields afi f → s ≡ encode_nlri f ++ t → FrontRefusal bits s GROUP
    at_front afi bits of_family s f t d is =
        let same : d.bits ≡ bits = given-same (sym d.of_family ∙ of_family) in
        let w : Encodable bits f = subst (λ (n : ℕ). Encodable n f) same d.encodable in
        FrontRefusal.discarded f t w (of-family afi bits of_family f w d.source_active d.specific) is
