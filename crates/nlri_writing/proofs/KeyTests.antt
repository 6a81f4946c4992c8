-- Octets that are exactly one key, by the key at their front.
use mathlib.Core.Path.{◌≡◌, refl, ◌∙◌}
use mathlib.Core.Bool.{true, false}
use mathlib.Core.List.{List}
use Prim.Native.Nat.{ℕ}
use lib.ListN.{length}
use lib.Dec.{eqb}
use borrow.Author.Tests.{eqb-true, eq-eqb, ne_eqb}
use Rattle.octets.specs.Outcome.{given, refused}
use Rattle.octets.proofs.Choice.{opposite, either-last, either-false-left}
use Rattle.octets.proofs.Outcome.{on-given, on-refused}
use Rattle.nlri.specs.Reading.{key_field}
use Rattle.nlri.specs.Writing.{is_key}
use Rattle.nlri.specs.Inner.{with_key}

pub key-alone : (bits type : ℕ) (s : List ℕ) (n : ℕ) → key_field bits type s ≡ given n → eqb n (length s) ≡ is_key bits type s
unfolding is_key
key-alone bits type s n e = on-given _ _ n _ _ e refl

pub key-none : (bits type : ℕ) (s : List ℕ) (m : ℕ) → key_field bits type s ≡ refused m → false ≡ is_key bits type s
unfolding is_key
key-none bits type s m e = on-refused _ _ m _ _ e refl

-- of the types with a key, the one that is not 4
pub key-type : (type : ℕ) → with_key type ≡ true → (type ≡ 4 → ⊥) → type ≡ 68
unfolding with_key
key-type type has other = eqb-true type 68 (either-last _ _ _ (ne_eqb type 4 other) refl ∙ has)

pub not-leaf : (type : ℕ) → with_key type ≡ false → type ≡ 4 → ⊥
unfolding with_key
not-leaf type lacks leaf = opposite (eq-eqb type 4 leaf) (either-false-left _ _ lacks)
