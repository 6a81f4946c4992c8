-- The sizes of what the writer's tests let pass.
use mathlib.Core.Path.{◌≡◌, refl, sym, ◌∙◌, subst}
use mathlib.Core.Bool.{Bool, true, false}
use mathlib.Core.Logic.{◌⊎◌, inl, inr}
use mathlib.Core.List.{List}
use Prim.Native.Nat.{ℕ, ◌+◌, ◌-◌, ◌*◌, ◌≤◌, ◌<◌}
use native.Mathlib.Omega.{arith}
use borrow.Author.Tests.{eqb-true, ltb-true, ltb-false, lt-ltb}
use lib.ListN.{length}
use lib.Dec.{eqb, ltb}
use Rattle.octets.specs.Choice.{pick, both}
use Rattle.octets.specs.Outcome.{Outcome, given, refused, on_outcome}
use Rattle.octets.proofs.Choice.{opposite, test-same, both-true-left, both-true-right, both-last, either_true, pick_true}
use Rattle.nlri.specs.declared.fields.Nlri.{Nlri}
use Rattle.nlri.specs.Family.{allowed, is_originator_size}
use Rattle.nlri.specs.Reading.{key_field}
use Rattle.nlri.specs.Writing.{is_key}
use Rattle.nlri.specs.Inner.{with_key}
use Rattle.nlri_writing.specs.Inner.{end_size, originator_fits, addresses_fit, AddressSize}
use Rattle.nlri.proofs.Definitions.Keys.{key-most}

octets-size : (bits type size : ℕ) → (bits ≡ 32) ⊎ (bits ≡ 128) → allowed bits type (8 * size) ≡ true → AddressSize size
unfolding allowed
octets-size bits type size f h = go f (either_true _ _ h)
  where
    go : (bits ≡ 32) ⊎ (bits ≡ 128) → (eqb (8 * size) bits ≡ true) ⊎ (both (eqb type 3) (eqb (8 * size) 0) ≡ true) → AddressSize size
    go (inl e) (inl b) = let q : 8 * size ≡ bits = eqb-true _ _ b in (omega arith, λ four sixteen. omega arith)
    go (inr e) (inl b) = let q : 8 * size ≡ bits = eqb-true _ _ b in (omega arith, λ four sixteen. omega arith)
    go g (inr b) = let q : 8 * size ≡ 0 = eqb-true _ _ (both-true-right _ _ b) in (omega arith, λ four sixteen. omega arith)

pub originator-octets : (size : ℕ) → is_originator_size size ≡ true → AddressSize size
unfolding is_originator_size
originator-octets size h = go (either_true _ _ h)
  where
    go : (eqb size 4 ≡ true) ⊎ (eqb size 16 ≡ true) → AddressSize size
    go (inl e) = let q : size ≡ 4 = eqb-true _ _ e in (omega arith, λ four sixteen. omega arith)
    go (inr e) = let q : size ≡ 16 = eqb-true _ _ e in (omega arith, λ four sixteen. omega arith)

-- of an originator, where the type has one
pub originator-sized : (originated : Bool) (size : ℕ) → originator_fits originated size ≡ true → originated ≡ true → AddressSize size
unfolding originator_fits
originator-sized originated size fits has = originator-octets size (sym (pick_true _ _ _ has) ∙ fits)

pub end_short : (originated : Bool) (size : ℕ) → originator_fits originated size ≡ true → end_size originated size ≤ 16
unfolding end_size pick originator_fits
end_short true size fits = (originator-octets size fits).0
end_short false size fits = omega arith

-- of a source, a group and an originator
pub record AddressesSized (type : ℕ) (nlri : Nlri) : Type 0 where
  pub source : AddressSize nlri.source.size
  pub group : AddressSize nlri.group.size
  pub originator : originator_fits (eqb type 3) nlri.originator.size ≡ true

pub addresses-sized : (bits type : ℕ) (nlri : Nlri) → (bits ≡ 32) ⊎ (bits ≡ 128) → addresses_fit bits type nlri ≡ true → AddressesSized type nlri
unfolding addresses_fit
addresses-sized bits type nlri family fits =
    let later = both-true-right _ _ fits in
    record { source = octets-size bits type _ family (both-true-left _ _ fits); group = octets-size bits type _ family (both-true-left _ _ later); originator = both-true-right _ _ later }

-- what is left for a part of a body, and the part
pub is-over : (a b : ℕ) → a ≤ 255 → ltb (255 - a) b ≡ ltb 255 (b + a)
is-over a b most =
    test-same _ _ (λ t. let h = ltb-true (255 - a) b t in lt-ltb 255 (b + a) (omega arith)) (λ t. let h = ltb-true 255 (b + a) t in lt-ltb (255 - a) b (omega arith))

-- a key of type 4 is short
pub key-short : (bits : ℕ) (key_octets : List ℕ) → (bits ≡ 32) ⊎ (bits ≡ 128) → is_key bits 4 key_octets ≡ true → length key_octets ≤ 60
unfolding is_key on_outcome
key-short bits key_octets family h = go (key_field bits 4 key_octets) refl h
  where
    small : (bits ≡ 32) ⊎ (bits ≡ 128) → bits ≤ 128
    small (inl e) = omega arith
    small (inr e) = omega arith

    go : (o : Outcome ℕ) → key_field bits 4 key_octets ≡ o → on_outcome (λ fault. false) (λ size. eqb size (length key_octets)) o ≡ true → length key_octets ≤ 60
    go (given n) p q = omega (arith, eqb-true n (length key_octets) q, key-most bits (small family) 4 (omega arith) key_octets n p)
    go (refused n) p q = absurd (opposite q refl)

-- a body with a key that is not long
pub leaf-short : (bits type : ℕ) (key_octets : List ℕ) (size : ℕ) → (bits ≡ 32) ⊎ (bits ≡ 128) → with_key type ≡ true → size ≤ 16 → both (ltb 7 type) (ltb 255 (length key_octets + size)) ≡ false → is_key bits type key_octets ≡ true → length key_octets + size ≤ 255
unfolding with_key
leaf-short bits type key_octets size family has few short is = go (either_true _ _ has)
  where
    go : (eqb type 4 ≡ true) ⊎ (eqb type 68 ≡ true) → length key_octets + size ≤ 255
    go (inl e) = let k = key-short bits key_octets family (subst (λ (t : ℕ). is_key bits t key_octets ≡ true) (eqb-true type 4 e) is) in omega arith
    go (inr e) = let high : 7 < type = omega (arith, eqb-true type 68 e) in ltb-false 255 (length key_octets + size) (both-last _ _ _ (lt-ltb 7 type high) refl ∙ short)
