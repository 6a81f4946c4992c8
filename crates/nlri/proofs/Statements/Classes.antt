-- The class of a group (document 01, "Which route a flow takes").
use Rattle.std.proofs.Common.{◌≡◌, ℕ, ◌/◌, ◌≤◌, Bool, true, false, eqb, leb, ◌⊎◌, ◌↔◌, List, length, get_or, Result, Ok, Err, sym, refl, ap, ◌∙◌, subst, inl, inr, ⊎_elim, arith, eq-eqb, eqb-true, le-leb, leb-true}
use Rattle.octets.specs.Numbers.{FAMILY, FLOW}
use Rattle.octets.specs.Choice.{pick, both}
use Rattle.octets.specs.Outcome.{Outcome, given, refused, and_then}
use Rattle.octets.proofs.Choice.{both_true, opposite, both-true-left, both-true-right}
use Rattle.octets.specs.declared.refusal.Refusal.{Refusal}
use Rattle.octets.proofs.Outcome.{and-stops, never, given-same, refused-same, outcome}
use Rattle.octets.proofs.Refusals.{refusal_number-apart}
use Rattle.nlri.specs.Family.{family_bits}
use Rattle.nlri.specs.Groups.{ASM, SSM, multicast, source_specific, Multicast, SourceSpecific, class_under, class_of, class_number, class_outcome}
use Rattle.nlri.specs.declared.group.GroupClass.{GroupClass}
use Rattle.nlri.specs.declared.group.GroupClass.TheVariants.{Asm, Ssm}
use Rattle.nlri.specs.Rules.NlriRules.{GroupRefusal, bad_family, bad_group, GroupRule}
use Rattle.nlri.proofs.Definitions.Lengths.{good-family, family-good}
use Rattle.nlri.proofs.Definitions.Families.{family-refused}

-- a class by three tests: the size, the multicast range, the range of SSM
shape : (sized multi spec : Bool) → Outcome ℕ
shape sized multi spec = pick sized (pick multi (pick spec (given SSM) (given ASM)) (refused FLOW)) (refused FLOW)

-- the class by whether the group is multicast, and whether it is in the range of SSM
data Shaped : (multi spec : Bool) → Outcome ℕ → Type 0 where
  specific : Shaped true true (given SSM)
  any : Shaped true false (given ASM)
  neither : Shaped false false (refused FLOW)

shaped : (sized multi spec : Bool) → Shaped (both sized multi) (both sized (both multi spec)) (shape sized multi spec)
unfolding shape pick both
shaped true true true = specific
shaped true true false = any
shaped true false spec = neither
shaped false multi spec = neither

record Tests (afi : ℕ) (g : List ℕ) : Type 0 where
  multi : Bool
  spec : Bool
  is : Shaped multi spec (class_of afi g)
  multicast : (multi ≡ true) ↔ Multicast afi g
  specific : (spec ≡ true) ↔ SourceSpecific afi g

multicast-4 : (afi : ℕ) (g : List ℕ) → Multicast afi g → afi ≡ 1 → (length g ≡ 4) × (224 ≤ get_or g 0 0) × (get_or g 0 0 ≤ 239)
multicast-4 afi g (Multicast.ipv4 size low high) e = (size, low, high)
multicast-4 afi g (Multicast.ipv6 size first) e = absurd (omega arith)

multicast-16 : (afi : ℕ) (g : List ℕ) → Multicast afi g → afi ≡ 2 → (length g ≡ 16) × (get_or g 0 0 ≡ 255)
multicast-16 afi g (Multicast.ipv4 size low high) e = absurd (omega arith)
multicast-16 afi g (Multicast.ipv6 size first) e = (size, first)

specific-4 : (afi : ℕ) (g : List ℕ) → SourceSpecific afi g → afi ≡ 1 → (length g ≡ 4) × (get_or g 0 0 ≡ 232)
specific-4 afi g (SourceSpecific.ipv4 size first) e = (size, first)
specific-4 afi g (SourceSpecific.ipv6 size first second third fourth) e = absurd (omega arith)

specific-16 : (afi : ℕ) (g : List ℕ) → SourceSpecific afi g → afi ≡ 2 → (length g ≡ 16) × (get_or g 0 0 ≡ 255) × (get_or g 1 0 / 16 ≡ 3) × (get_or g 2 0 ≡ 0) × (get_or g 3 0 ≡ 0)
specific-16 afi g (SourceSpecific.ipv4 size first) e = absurd (omega arith)
specific-16 afi g (SourceSpecific.ipv6 size first second third fourth) e = (size, first, second, third, fourth)

tests-ipv4 : (g : List ℕ) → Tests 1 g
unfolding class_of class_under family_bits multicast source_specific shape pick and_then
tests-ipv4 g =
    record {
      multi = both (eqb (length g) 4) (both (leb 224 (get_or g 0 0)) (leb (get_or g 0 0) 239));
      spec = both (eqb (length g) 4) (both (both (leb 224 (get_or g 0 0)) (leb (get_or g 0 0) 239)) (eqb (get_or g 0 0) 232));
      is = shaped _ _ _;
      multicast = (
        λ e.
            let m = both-true-right _ _ e in
            Multicast.ipv4 (eqb-true _ _ (both-true-left _ _ e)) (leb-true _ _ (both-true-left _ _ m)) (leb-true _ _ (both-true-right _ _ m)),
        λ h.
            let f = multicast-4 1 g h refl in
            both_true _ _ (eq-eqb _ _ f.0) (both_true _ _ (le-leb _ _ f.1) (le-leb _ _ f.2)),
      );
      specific = (
        λ e. SourceSpecific.ipv4 (eqb-true _ _ (both-true-left _ _ e)) (eqb-true _ _ (both-true-right _ _ (both-true-right _ _ e))),
        λ h.
            let f = specific-4 1 g h refl in
            both_true _ _ (eq-eqb _ _ f.0) (both_true _ _ (both_true _ _ (le-leb 224 (get_or g 0 0) (omega (arith, f.1))) (le-leb (get_or g 0 0) 239 (omega (arith, f.1)))) (eq-eqb _ _ f.1)),
      );
    }

tests-ipv6 : (g : List ℕ) → Tests 2 g
unfolding class_of class_under family_bits multicast source_specific shape pick and_then
tests-ipv6 g =
    record {
      multi = both (eqb (length g) 16) (eqb (get_or g 0 0) 255);
      spec = both (eqb (length g) 16) (both (eqb (get_or g 0 0) 255) (both (eqb (get_or g 0 0) 255) (both (eqb (get_or g 1 0 / 16) 3) (both (eqb (get_or g 2 0) 0) (eqb (get_or g 3 0) 0)))));
      is = shaped _ _ _;
      multicast = (
        λ e. Multicast.ipv6 (eqb-true _ _ (both-true-left _ _ e)) (eqb-true _ _ (both-true-right _ _ e)),
        λ h. let f = multicast-16 2 g h refl in both_true _ _ (eq-eqb _ _ f.0) (eq-eqb _ _ f.1),
      );
      specific = (
        λ e.
            let s = both-true-right _ _ (both-true-right _ _ e) in
            let t = both-true-right _ _ s in
            let u = both-true-right _ _ t in
            SourceSpecific.ipv6 (eqb-true _ _ (both-true-left _ _ e)) (eqb-true _ _ (both-true-left _ _ s)) (eqb-true _ _ (both-true-left _ _ t)) (eqb-true _ _ (both-true-left _ _ u)) (eqb-true _ _ (both-true-right _ _ u)),
        λ h.
            let f = specific-16 2 g h refl in
            let first = eq-eqb _ _ f.1 in
            both_true _ _ (eq-eqb _ _ f.0) (both_true _ _ first (both_true _ _ first (both_true _ _ (eq-eqb _ _ f.2) (both_true _ _ (eq-eqb _ _ f.3) (eq-eqb _ _ f.4))))),
      );
    }

tests : (afi : ℕ) (g : List ℕ) → (afi ≡ 1) ⊎ (afi ≡ 2) → Tests afi g
tests afi g (inl e) = subst (λ (n : ℕ). Tests n g) (sym e) (tests-ipv4 g)
tests afi g (inr e) = subst (λ (n : ℕ). Tests n g) (sym e) (tests-ipv6 g)

-- a good family, or FAMILY
class-family : (afi : ℕ) (g : List ℕ) → ((afi ≡ 1) ⊎ (afi ≡ 2)) ⊎ (((afi ≡ 1 → ⊥) × (afi ≡ 2 → ⊥)) × (class_of afi g ≡ refused FAMILY))
unfolding class_of
class-family afi g =
    ⊎_elim (λ good. inl (good-family afi good.0 good.1))
    (λ bad. let p = family-refused afi bad.0 bad.1 in inr (p.1, sym (and-stops _ _ _ (bad.1 ∙ ap refused p.0))))
    (outcome (family_bits afi))

multicast-good : (afi : ℕ) (g : List ℕ) → Multicast afi g → (afi ≡ 1) ⊎ (afi ≡ 2)
multicast-good afi g (Multicast.ipv4 size low high) = inl refl
multicast-good afi g (Multicast.ipv6 size first) = inr refl

-- a group of the standard range is multicast
pub specific-multicast : {afi : ℕ} {g : List ℕ} → SourceSpecific afi g → Multicast afi g
specific-multicast (SourceSpecific.ipv4 {g} l h) = let low : 224 ≤ get_or g 0 0 = omega arith in let high : get_or g 0 0 ≤ 239 = omega arith in Multicast.ipv4 l low high
specific-multicast (SourceSpecific.ipv6 l h h₁ h₂ h₃) = Multicast.ipv6 l h

specific-good : (afi : ℕ) (g : List ℕ) → SourceSpecific afi g → (afi ≡ 1) ⊎ (afi ≡ 2)
specific-good afi g (SourceSpecific.ipv4 size first) = inl refl
specific-good afi g (SourceSpecific.ipv6 size first second third fourth) = inr refl

-- each answer by the tests
record Answers (multi spec : Bool) (o : Outcome ℕ) : Type 0 where
  refuses : (n : ℕ) → (o ≡ refused n) ↔ ((n ≡ FLOW) × (multi ≡ true → ⊥))
  ssm : (o ≡ given SSM) ↔ (spec ≡ true)
  asm : (o ≡ given ASM) ↔ ((multi ≡ true) × (spec ≡ true → ⊥))

answers : (multi spec : Bool) (o : Outcome ℕ) → Shaped multi spec o → Answers multi spec o
answers multi spec o specific =
    record {
      refuses = λ n. (λ e. absurd (never refl e), λ h. absurd (h.1 refl));
      ssm = (λ e. refl, λ e. refl);
      asm = (λ e. absurd (omega (arith, given-same e)), λ h. absurd (h.1 refl));
    }
answers multi spec o any =
    record {
      refuses = λ n. (λ e. absurd (never refl e), λ h. absurd (h.1 refl));
      ssm = (λ e. absurd (omega (arith, given-same e)), λ e. absurd (opposite e refl));
      asm = (λ e. (refl, λ q. opposite q refl), λ h. refl);
    }
answers multi spec o neither =
    record {
      refuses = λ n. (λ e. (sym (refused-same {A = ℕ} e), λ q. opposite q refl), λ h. ap refused (sym h.0));
      ssm = (λ e. absurd (never e refl), λ e. absurd (opposite e refl));
      asm = (λ e. absurd (never e refl), λ h. absurd (opposite h.0 refl));
    }

-- of a good family, what the tests say; else FAMILY
record Class (afi : ℕ) (g : List ℕ) : Type 0 where
  refuses : (n : ℕ) → (class_of afi g ≡ refused n) ↔ GroupRefusal afi g n
  ssm : (class_of afi g ≡ given SSM) ↔ SourceSpecific afi g
  asm : (class_of afi g ≡ given ASM) ↔ (Multicast afi g × (SourceSpecific afi g → ⊥))

module _ (afi : ℕ) (g : List ℕ) where
  class-good : (afi ≡ 1) ⊎ (afi ≡ 2) → Class afi g
  class-good good =
      record {
        refuses = λ n. (cause n, caused n);
        ssm = (λ e. t.specific.0 (a.ssm.0 e), λ s. a.ssm.1 (t.specific.1 s));
        asm = (λ e. let p = a.asm.0 e in (t.multicast.0 p.0, λ s. p.1 (t.specific.1 s)), λ h. a.asm.1 (t.multicast.1 h.0, λ s. h.1 (t.specific.0 s)));
      }
    where
      t : Tests afi g
      t = tests afi g good

      a : Answers t.multi t.spec (class_of afi g)
      a = answers t.multi t.spec (class_of afi g) t.is

      cause : (n : ℕ) → class_of afi g ≡ refused n → GroupRefusal afi g n
      cause n e =
          let p = (a.refuses n).0 e in
          let family = family-good afi good in
          subst (GroupRefusal afi g) (sym p.0) (bad_group family.0 family.1 (λ m. p.1 (t.multicast.1 m)))

      caused : (n : ℕ) → GroupRefusal afi g n → class_of afi g ≡ refused n
      caused n (bad_family one two) = absurd (⊎_elim one two good)
      caused n (bad_group bits of_family none) = (a.refuses n).1 (refl, λ m. none (t.multicast.0 m))

  class-bad : ((afi ≡ 1 → ⊥) × (afi ≡ 2 → ⊥)) → class_of afi g ≡ refused FAMILY → Class afi g
  class-bad bad e =
      record {
        refuses = λ n. (λ q. subst (GroupRefusal afi g) (refused-same {A = ℕ} (sym e ∙ q)) (bad_family bad.0 bad.1), caused n);
        ssm = (λ q. absurd (never q e), λ s. absurd (none (specific-good afi g s)));
        asm = (λ q. absurd (never q e), λ h. absurd (none (multicast-good afi g h.0)));
      }
    where
      none : (afi ≡ 1) ⊎ (afi ≡ 2) → ⊥
      none = ⊎_elim bad.0 bad.1

      caused : (n : ℕ) → GroupRefusal afi g n → class_of afi g ≡ refused n
      caused n (bad_family one two) = e
      caused n (bad_group bits of_family other) = absurd (none (good-family afi bits of_family))

  class : Class afi g
  class = ⊎_elim class-good (λ bad. class-bad bad.0 bad.1) (class-family afi g)

-- answers of the same number and class
class-of-number : (a b : GroupClass) → class_number a ≡ class_number b → a ≡ b
class-of-number Asm Asm e = refl
class-of-number Asm Ssm e = absurd (omega (arith, e))
class-of-number Ssm Asm e = absurd (omega (arith, e))
class-of-number Ssm Ssm e = refl

class-apart : (a b : Result GroupClass Refusal) → class_outcome a ≡ class_outcome b → a ≡ b
class-apart (Ok a) (Ok b) e = ap Ok (class-of-number a b (given-same e))
class-apart (Ok a) (Err n) e = absurd (never {o = given (class_number a)} refl e)
class-apart (Err m) (Ok b) e = absurd (never {o = given (class_number b)} refl (sym e))
class-apart (Err m) (Err n) e = ap Err (refusal_number-apart m n (refused-same {A = ℕ} e))

pub group_rule : GroupRule
group_rule =
    record {
      refuses = λ afi g. (class afi g).refuses;
      ssm = λ afi g. (class afi g).ssm;
      asm = λ afi g. (class afi g).asm;
      apart = class-apart;
    }
