-- What the branches of the functions of one prefix show.
use Prim.Native.Nat.{ℕ, ◌+◌, ◌*◌, ◌-◌, ◌/◌, ◌%◌, ◌^◌, ◌≤◌, ◌<◌}
use mathlib.Core.Path.{◌≡◌, sym, ◌∙◌, ap, ap₂}
use mathlib.Core.Bool.{Bool, true, false, not}
use mathlib.Core.List.{List}
use native.Mathlib.Omega.{arith}
use borrow.Author.Tests.{eqb-true, eq-eqb, ne_eqb, le-leb, lt-leb, leb-true}
use lib.Dec.{eqb}
use lib.ListN.{length, get_or, take, drop, length-drop, get_or-eq_default}
use lib.Pow.{suc_ones}
use Rattle.octets.specs.Choice.{pick, both}
use Rattle.octets.specs.Octets.{AllOctets, part}
use Rattle.octets.specs.Order.{same, all_zero}
use Rattle.octets.proofs.Choice.{both_true, both-true-left, both-true-right, both_left, both_right, both-last, flag_off, flag-on, pick_true, pick-false}
use Rattle.nlri.specs.Groups.{SSM}
use Rattle.groups.specs.Prefixes.{same_bits, clear_bits, good_prefix, holds_group}
use Rattle.groups.specs.Inner.{holds_sized}
use Rattle.groups.proofs.Bits.{bits-octets, bits-clear}

pub past-some : (k d : ℕ) → d ≡ 2 ^ (8 - k) → 0 < d
past-some k d e = omega (arith, e, suc_ones (8 - k))

pub divided-alike : (x y d e : ℕ) → d ≡ e → eqb (x / d) (y / d) ≡ eqb (x / e) (y / e)
divided-alike x y d e is = ap (λ (n : ℕ). eqb (x / n) (y / n)) is

pub left-alike : (x d e : ℕ) → d ≡ e → eqb (x % d) 0 ≡ eqb (x % e) 0
left-alike x d e is = ap (λ (n : ℕ). eqb (x % n) 0) is

-- clear past some bits
module _ (n : ℕ) (s : List ℕ) (o : AllOctets s) (within : n ≤ 8 * length s) (some : n / 8 ≡ length s → ⊥) (flag : Bool) (told : flag ≡ eqb (get_or s (n / 8) 0 % 2 ^ (8 - n % 8)) 0) where
  pub clear-off : not flag ≡ true → false ≡ clear_bits (8 * length s - n) n s
  clear-off h = sym (both_left _ _ (flag_off _ _ told h)) ∙ bits-clear n s o within some

  pub clear-last : not flag ≡ false → (rest : List ℕ) → rest ≡ drop (n / 8 + 1) s → (r : Bool) → r ≡ all_zero rest → r ≡ clear_bits (8 * length s - n) n s
  clear-last h rest is r e = both-last _ _ _ (flag-on _ _ told h) (e ∙ ap all_zero is) ∙ bits-clear n s o within some

-- begun alike
module _ (n : ℕ) (a b : List ℕ) (oa : AllOctets a) (ob : AllOctets b) (within : n ≤ 8 * length a) (alike : length a ≡ length b)
    (x y : List ℕ) (isx : x ≡ part a 0 (n / 8)) (isy : y ≡ part b 0 (n / 8)) (flag : Bool) (told : flag ≡ same x y) where
  by-octets : same_bits n a b ≡ both (same (take (n / 8) a) (take (n / 8) b)) (eqb (get_or a (n / 8) 0 / 2 ^ (8 - n % 8)) (get_or b (n / 8) 0 / 2 ^ (8 - n % 8)))
  by-octets = bits-octets n a b oa ob within (omega arith)

  wholes : flag ≡ same (take (n / 8) a) (take (n / 8) b)
  unfolding part
  wholes = told ∙ ap₂ same isx isy

  pub alike-off : not flag ≡ true → false ≡ same_bits n a b
  alike-off h = sym (by-octets ∙ both_left _ _ (flag_off _ _ wholes h))

  pub alike_all : not flag ≡ false → n / 8 ≡ length a → true ≡ same_bits n a b
  alike_all h e =
      let none : get_or a (n / 8) 0 ≡ 0 = get_or-eq_default a 0 (omega arith) in
      let none-b : get_or b (n / 8) 0 ≡ 0 = get_or-eq_default b 0 (omega arith) in
      sym (by-octets ∙ both_true _ _ (flag-on _ _ wholes h) (eq-eqb _ _ (ap (λ (p : ℕ). p / 2 ^ (8 - n % 8)) (none ∙ sym none-b))))

  pub alike-last : not flag ≡ false → (r : Bool) → r ≡ eqb (get_or a (n / 8) 0 / 2 ^ (8 - n % 8)) (get_or b (n / 8) 0 / 2 ^ (8 - n % 8)) → r ≡ same_bits n a b
  alike-last h r e = both-last _ _ _ (flag-on _ _ wholes h) e ∙ sym by-octets

-- a prefix
module _ (prefix : List ℕ) (size : ℕ) where
  pub prefix-none : length prefix ≡ 0 → false ≡ good_prefix (8 * size) prefix
  unfolding good_prefix
  prefix-none e = sym (both_left _ _ (ne_eqb (8 * length prefix) (8 + 8 * size) (λ h. omega arith)))

  module _ (address : List ℕ) (is : address ≡ drop 1 prefix) (some : length prefix ≡ 0 → ⊥) where
    sized : length address + 1 ≡ length prefix
    sized = let l = ap length is ∙ length-drop 1 prefix in omega arith

    pub prefix-other : (length address ≡ size → ⊥) → false ≡ good_prefix (8 * size) prefix
    unfolding good_prefix
    prefix-other h = let l = sized in sym (both_left _ _ (ne_eqb (8 * length prefix) (8 + 8 * size) (λ e. h (omega arith))))

    module _ (alike : length address ≡ size) (bits : ℕ) (front : bits ≡ get_or prefix 0 0) where
      of_size : eqb (8 * length prefix) (8 + 8 * size) ≡ true
      of_size = let l = sized in eq-eqb (8 * length prefix) (8 + 8 * size) (omega arith)

      pub prefix-over : size < (bits + 7) / 8 → false ≡ good_prefix (8 * size) prefix
      unfolding good_prefix
      prefix-over h = sym (both_right _ _ of_size (both_left _ _ (lt-leb (get_or prefix 0 0) (8 * size) (omega (arith, front)))))

      pub prefix-last : (bits + 7) / 8 ≤ size → (r : Bool) → r ≡ clear_bits (8 * length address - bits) bits address → r ≡ good_prefix (8 * size) prefix
      unfolding good_prefix
      prefix-last h r e =
          both-last _ _ _ of_size (both-last _ _ _ (le-leb (get_or prefix 0 0) (8 * size) (omega (arith, front)))
          (e ∙ ap (λ (n : ℕ). clear_bits (8 * n - bits) bits address) alike ∙ ap (λ (n : ℕ). clear_bits (8 * size - n) n address) front ∙ ap (clear_bits (8 * size - get_or prefix 0 0) (get_or prefix 0 0)) is))

-- what a good prefix is
module _ (prefix : List ℕ) (size : ℕ) (good : good_prefix (8 * size) prefix ≡ true) where
  pub good-size : length prefix ≡ 1 + size
  unfolding good_prefix
  good-size = let e = eqb-true (8 * length prefix) (8 + 8 * size) (both-true-left _ _ good) in omega arith

  pub good-bits : get_or prefix 0 0 ≤ 8 * size
  unfolding good_prefix
  good-bits = leb-true _ _ (both-true-left _ _ (both-true-right _ _ good))

  pub good-address : (address : List ℕ) → address ≡ drop 1 prefix → length address ≡ size
  good-address address is = let l = ap length is ∙ length-drop 1 prefix in let e = good-size in omega arith

-- a group of another size, and one of the prefix's
module _ (prefix group : List ℕ) (size : ℕ) where
  pub held-not : (length group ≡ size → ⊥) → false ≡ holds_sized size prefix group
  unfolding holds_sized
  held-not h = sym (both_left _ _ (ne_eqb _ _ h))

  pub held-is : length group ≡ size → (address : List ℕ) → address ≡ drop 1 prefix → (r : Bool) → r ≡ same_bits (get_or prefix 0 0) address group → r ≡ holds_sized size prefix group
  unfolding holds_sized holds_group
  held-is h address is r e = both-last _ _ _ (eq-eqb _ _ h) (e ∙ ap (λ (a : List ℕ). same_bits (get_or prefix 0 0) a group) is)

-- the class after a prefix of a list
module _ (size class : ℕ) (g prefix field : List ℕ) (is : field ≡ prefix) (flag : Bool) (told : flag ≡ holds_sized size field g) where
  pub held_on : flag ≡ true → SSM ≡ pick (holds_sized size prefix g) SSM class
  held_on h = sym (pick_true _ _ _ (ap (λ (f : List ℕ). holds_sized size f g) (sym is) ∙ sym told ∙ h))

  pub held-off : flag ≡ false → class ≡ pick (holds_sized size prefix g) SSM class
  held-off h = sym (pick-false _ _ _ (ap (λ (f : List ℕ). holds_sized size f g) (sym is) ∙ sym told ∙ h))
