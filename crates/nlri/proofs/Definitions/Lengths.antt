-- The lengths that document 01, "NLRI on the wire", allows: what the tests of families, addresses and originators say.
use Rattle.std.proofs.Common.{◌≡◌, ℕ, Result, Ok, Err, ◌*◌, ◌/◌, ◌≤◌, true, ◌⊎◌, ◌↔◌, sym, refl, ap, ◌∙◌, inl, inr, ⊎_elim, arith, eq-eqb, ne_eqb, eqb-true}
use Rattle.octets.specs.Outcome.{given}
use Rattle.octets.proofs.Choice.{pick_true, pick-false, both_true, either_left, either_true, both-true-left, both-true-right, picked, either_second}
use Rattle.octets.proofs.Outcome.{given-unless, given-same, refused-same, never}
use Rattle.octets.specs.declared.refusal.Refusal.{Refusal}
use Rattle.nlri.specs.declared.address.AddressKind.{AddressKind}
use Rattle.nlri.specs.Family.{family_bits, family_outcome, root_family, allowed, is_originator_size}
use Rattle.nlri.specs.Rules.NlriRules.{Lengths}
use Rattle.nlri.proofs.Definitions.Apart.{refusals-apart}

family-exactly : (afi bits : ℕ) → (family_bits afi ≡ given bits) ↔ (((afi ≡ 1) × (bits ≡ 32)) ⊎ ((afi ≡ 2) × (bits ≡ 128)))
unfolding family_bits
family-exactly afi bits = (
  λ e.
      ⊎_elim (λ one. inl (eqb-true _ _ one.0, sym (given-same one.1))) (λ other. let p = given-unless _ _ _ _ other.1 in inr (eqb-true _ _ p.0, sym (given-same p.1))) (picked _ _ _ _ e),
  λ h.
      ⊎_elim (λ one. pick_true _ _ _ (eq-eqb afi 1 one.0) ∙ ap given (sym one.1))
      (λ two. pick-false _ _ _ (ne_eqb afi 1 (λ e. omega (arith, two.0))) ∙ pick_true _ _ _ (eq-eqb afi 2 two.0) ∙ ap given (sym two.1)) h,
)

allowed-exactly : (bits type octet : ℕ) → (allowed bits type octet ≡ true) ↔ ((octet ≡ bits) ⊎ ((type ≡ 3) × (octet ≡ 0)))
unfolding allowed
allowed-exactly bits type octet = (
  λ e. ⊎_elim (λ same. inl (eqb-true _ _ same)) (λ none. inr (eqb-true _ _ (both-true-left _ _ none), eqb-true _ _ (both-true-right _ _ none))) (either_true _ _ e),
  λ h. ⊎_elim (λ same. either_left _ _ (eq-eqb octet bits same)) (λ none. either_second _ _ (both_true _ _ (eq-eqb type 3 none.0) (eq-eqb octet 0 none.1))) h,
)

originator-exactly : (size : ℕ) → (is_originator_size size ≡ true) ↔ ((size ≡ 4) ⊎ (size ≡ 16))
unfolding is_originator_size
originator-exactly size = (
  λ e. ⊎_elim (λ four. inl (eqb-true _ _ four)) (λ sixteen. inr (eqb-true _ _ sixteen)) (either_true _ _ e),
  λ h. ⊎_elim (λ four. either_left _ _ (eq-eqb size 4 four)) (λ sixteen. either_second _ _ (eq-eqb size 16 sixteen)) h,
)

root-family : (afi bits : ℕ) → family_bits afi ≡ given bits → root_family bits ≡ afi
unfolding root_family
root-family afi bits e =
    ⊎_elim (λ one. pick_true _ _ _ (eq-eqb bits 32 one.1) ∙ sym one.0) (λ two. pick-false _ _ _ (ne_eqb bits 32 (λ z. omega (arith, two.1))) ∙ sym two.0)
    ((family-exactly afi bits).0 e)

family-apart : (a b : Result AddressKind Refusal) → family_outcome a ≡ family_outcome b → a ≡ b
family-apart (Ok a) (Ok b) e = let same : a.bits ≡ b.bits = given-same e in λ i. Ok (record { bits = same i })
family-apart (Ok a) (Err n) e = absurd (never {o = given a.bits} refl e)
family-apart (Err m) (Ok b) e = absurd (never {o = given b.bits} refl (sym e))
family-apart (Err m) (Err n) e = ap Err (refusals-apart m n (refused-same {A = ℕ} e))

pub lengths : Lengths
lengths = record { families = family-exactly; addresses = allowed-exactly; originators = originator-exactly; roots = root-family; apart = family-apart }

-- a family is that of AFI 1 or 2
pub good-family : (afi bits : ℕ) → family_bits afi ≡ given bits → (afi ≡ 1) ⊎ (afi ≡ 2)
good-family afi bits e = ⊎_elim (λ one. inl one.0) (λ two. inr two.0) ((family-exactly afi bits).0 e)

pub family-good : (afi : ℕ) → (afi ≡ 1) ⊎ (afi ≡ 2) → (bits : ℕ) × (family_bits afi ≡ given bits)
family-good afi (inl e) = (32, (family-exactly afi 32).1 (inl (e, refl)))
family-good afi (inr e) = (128, (family-exactly afi 128).1 (inr (e, refl)))

-- the octet of a family are those of whole octets, and at most 128
pub family-octets : (afi bits : ℕ) → family_bits afi ≡ given bits → (8 * (bits / 8) ≡ bits) × (bits ≤ 128)
family-octets afi bits e = ⊎_elim (λ one. omega (arith, one.1)) (λ two. omega (arith, two.1)) ((family-exactly afi bits).0 e)

-- a length that is allowed is eight times a number of octets
pub whole-octets : (bits type octet : ℕ) → 8 * (bits / 8) ≡ bits → allowed bits type octet ≡ true → 8 * (octet / 8) ≡ octet
whole-octets bits type octet whole e = ⊎_elim (λ same. omega arith) (λ none. omega (arith, none.1)) ((allowed-exactly bits type octet).0 e)

-- and at most 16 octets
pub allowed-most : (bits type octet : ℕ) → bits ≤ 128 → allowed bits type octet ≡ true → octet / 8 ≤ 16
allowed-most bits type octet small e = ⊎_elim (λ same. omega arith) (λ none. omega (arith, none.1)) ((allowed-exactly bits type octet).0 e)

pub originator-sized : (n : ℕ) → is_originator_size n ≡ true → (4 ≤ n) × (n ≤ 16)
originator-sized n e = ⊎_elim (λ four. omega arith) (λ sixteen. omega arith) ((originator-exactly n).0 e)
