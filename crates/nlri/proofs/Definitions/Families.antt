-- What a family's bits are, and which families have none.
use Rattle.std.proofs.Common.{◌≡◌, ℕ, ◌≤◌, ◌⊎◌, refl, ◌∙◌, inl, inr, ⊎_elim, arith, ne_eqb}
use borrow.Author.Tests.{eqb-false}
use Rattle.octets.specs.Numbers.{FAMILY}
use Rattle.octets.specs.Outcome.{given, refused}
use Rattle.octets.proofs.Choice.{picked, pick-false}
use Rattle.octets.proofs.Outcome.{never, refuses-unless}
use Rattle.nlri.specs.Family.{family_bits}
use Rattle.nlri.proofs.Definitions.Lengths.{lengths}

pub family-is : (afi bits : ℕ) → family_bits afi ≡ given bits → (bits ≡ 32) ⊎ (bits ≡ 128)
family-is afi bits e = ⊎_elim (λ one. inl one.1) (λ two. inr two.1) ((lengths.families afi bits).0 e)

pub family-least : (afi bits : ℕ) → family_bits afi ≡ given bits → 32 ≤ bits
family-least afi bits e = ⊎_elim (λ p. omega arith) (λ p. omega arith) (family-is afi bits e)

pub family-refused : (afi n : ℕ) → family_bits afi ≡ refused n → (n ≡ FAMILY) × ((afi ≡ 1 → ⊥) × (afi ≡ 2 → ⊥))
unfolding family_bits
family-refused afi n e =
    ⊎_elim (λ one. absurd (never refl one.1))
    (λ other. let p = refuses-unless _ _ _ _ other.1 in (p.1, (eqb-false afi 1 other.0, eqb-false afi 2 p.0)))
    (picked _ _ _ _ e)

pub family-refuses : (afi : ℕ) → (afi ≡ 1 → ⊥) → (afi ≡ 2 → ⊥) → family_bits afi ≡ refused FAMILY
unfolding family_bits
family-refuses afi one two = pick-false _ _ _ (ne_eqb afi 1 one) ∙ pick-false _ _ _ (ne_eqb afi 2 two)
