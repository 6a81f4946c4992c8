-- The body of a Leaf, 4 or 0x44, by what its key was read as. The key is read at the front of the whole body, lent as a part.
use Rattle.std.proofs.Common.{◌≡◌, ℕ, Result, Ok, Err, ◌+◌, ◌-◌, ◌≤◌, true, List, [], ◌∷◌, length, get_or, take, drop, sym, refl, ap, ◌∙◌, ⊎_elim, eqb-true}
use mathlib.Core.Path.{subst⁻¹}
use Rattle.octets.specs.Numbers.{KEY}
use Rattle.octets.specs.Choice.{pick}
use Rattle.octets.specs.Outcome.{given}
use Rattle.octets.proofs.Choice.{either_true}
use Rattle.octets.proofs.Lists.{lent-whole}
use Rattle.nlri.specs.declared.header.Header.{Header}
use Rattle.octets.specs.declared.refusal.Refusal.{Refusal}
use Rattle.nlri.specs.Bodies.{originator, key, bodies, on_body}
use Rattle.nlri.specs.Reading.{key_field}
use Rattle.nlri.specs.Inner.{key_outcome, left_fault, body_fault, with_key}
use Rattle.nlri.proofs.Definitions.Keys.{key-within}
use Rattle.nlri.proofs.Functions.Ends.{left-keyed, left-unkeyed}

-- its fields: a key and an originator
pub leaf-body : (bits type : ℕ) (s : List ℕ) → with_key type ≡ true → left_fault bits type (key ∷ originator ∷ []) 0 s ≡ body_fault bits type s
unfolding with_key body_fault on_body bodies pick
leaf-body bits type s h = ⊎_elim (λ e. at 4 (eqb-true _ _ e) refl) (λ e. at 68 (eqb-true _ _ e) refl) (either_true _ _ h)
  where
    at : (n : ℕ) → type ≡ n → left_fault bits n (key ∷ originator ∷ []) 0 s ≡ body_fault bits n s → left_fault bits type (key ∷ originator ∷ []) 0 s ≡ body_fault bits type s
    at n e p = subst⁻¹ (λ (k : ℕ). left_fault bits k (key ∷ originator ∷ []) 0 s ≡ body_fault bits k s) e p

module _ (bits type : ℕ) (s : List ℕ) (r : Result Header Refusal) (read : key_outcome r ≡ key_field bits type (take (length s - 0) (drop 0 s))) where
  outcome : key_outcome r ≡ key_field bits type s
  outcome = read ∙ ap (key_field bits type) (lent-whole s)

  -- a key of a type and a Length
  module _ (header : Header) (typed : r ≡ Ok header) where
    keyed : key_field bits type s ≡ given (2 + header.length)
    keyed = sym outcome ∙ ap key_outcome typed

    -- stands within the body
    pub leaf-within : (2 ≤ 2 + header.length) × (2 + header.length ≤ length s) × (2 + header.length ≡ 2 + get_or s 1 0)
    leaf-within = key-within bits type s (2 + header.length) keyed

    -- and the originator's number is the body's
    pub leaf-keyed : with_key type ≡ true → left_fault bits type (originator ∷ []) (2 + header.length) s ≡ body_fault bits type s
    leaf-keyed h = left-keyed bits type (originator ∷ []) s (2 + header.length) leaf-within.1 keyed ∙ leaf-body bits type s h

  -- a key that is refused
  pub leaf-unkeyed : with_key type ≡ true → (x : Refusal) → r ≡ Err x → KEY ≡ body_fault bits type s
  leaf-unkeyed h x unread = left-unkeyed bits type (originator ∷ []) s KEY (sym outcome ∙ ap key_outcome unread) ∙ leaf-body bits type s h
