-- Laws of making a table.
use Prim.Native.Nat.{ℕ, ◌-◌, ◌*◌, ◌<◌, ◌≤◌}
use mathlib.Core.Path.{◌≡◌, refl, sym, ◌∙◌, ap}
use mathlib.Core.Logic.{inl, inr, ⊎_elim}
use mathlib.Core.Bool.{Bool, true, false}
use mathlib.Core.List.{List, [], ◌++◌}
use native.Mathlib.Omega.{arith}
use borrow.Author.Tests.{eqb-true}
use lib.Dec.{eqb}
use lib.ListN.{length, take, drop, length-append}
use lib.Seq.{drop_at, length-take-le}
use Rattle.octets.specs.Numbers.{DONE, FAMILY, TABLE}
use Rattle.octets.specs.Choice.{pick, either}
use Rattle.octets.specs.Outcome.{given, refused, on_outcome, and_then, number_of}
use Rattle.octets.specs.Order.{zeros}
use Rattle.octets.proofs.Choice.{pick-false, either_true, either-false-left, either-false-right}
use Rattle.nlri.specs.Family.{family_bits}
use Rattle.nlri.proofs.Theorems.{lengths}
use Rattle.routes.specs.Table.{header_of, places_of, image_of, places_in, table_size}
use Rattle.routes.specs.Calls.{make_outcome, make_of}
use Rattle.routes.proofs.Definitions.Headers.{sound-size}
use Rattle.places.proofs.Sounds.{header-room}

-- memory of a table's size has room for the header, and still has it with every place free
pub cleared-room : (memory : List ℕ) (flag : Bool) (x : List ℕ) → flag ≡ table_size (length memory) → flag ≡ true → x ≡ take 8 memory ++ zeros (length memory - 8) → 8 ≤ length x
cleared-room memory flag x s h e =
    let room : 8 ≤ length memory = header-room (length memory) flag s h in
    rw (ap length e, length-append, length-take-le 8 memory room) (omega arith)

-- a family, by the test of it
module _ (afi : ℕ) (flag : Bool) (e : flag ≡ either (eqb afi 1) (eqb afi 2)) where
  known : flag ≡ true → (bits : ℕ) × (family_bits afi ≡ given bits)
  known h =
      ⊎_elim (λ one. (32, (lengths.families afi 32).1 (inl (eqb-true afi 1 one, refl)))) (λ two. (128, (lengths.families afi 128).1 (inr (eqb-true afi 2 two, refl))))
      (either_true _ _ (sym e ∙ h))

  unknown : flag ≡ false → family_bits afi ≡ refused FAMILY
  unfolding family_bits
  unknown h = pick-false _ _ _ (either-false-left _ _ (sym e ∙ h)) ∙ pick-false _ _ _ (either-false-right _ _ (sym e ∙ h))

  pub afi-octet : flag ≡ true → afi < 256
  afi-octet h = ⊎_elim (λ one. omega (arith, eqb-true)) (λ two. omega (arith, eqb-true)) (either_true _ _ (sym e ∙ h))

  module _ (memory : List ℕ) where
    pub no-family : flag ≡ false → (FAMILY ≡ (make_of afi memory).answer) × (memory ≡ (make_of afi memory).octets)
    unfolding make_of make_outcome number_of on_outcome and_then
    no-family h = let q : family_bits afi ≡ refused FAMILY = unknown h in (rw q, rw q)

    module _ (bits : flag ≡ true) (size : Bool) (s : size ≡ table_size (length memory)) where
      pub no_table : size ≡ false → (TABLE ≡ (make_of afi memory).answer) × (memory ≡ (make_of afi memory).octets)
      unfolding make_of make_outcome number_of on_outcome and_then pick
      no_table h =
          let f = known bits in
          let q : family_bits afi ≡ given f.0 = f.1 in
          let z : table_size (length memory) ≡ false = sym s ∙ h in
          (rw (q, z), rw (q, z))

      -- free places, and the header before them, are the image of no routes
      image : size ≡ true → (x y : List ℕ) → x ≡ take 8 memory ++ zeros (length memory - 8) → y ≡ header_of afi 0 ++ drop 8 x → y ≡ image_of afi (places_in memory) []
      unfolding image_of places_of
      image h x y p q =
          let m = (sound-size memory (sym s ∙ h)).is in
          let room : 8 ≤ length memory = header-room (length memory) size s h in
          let free : length memory - 8 ≡ 128 * places_in memory = omega arith in
          let rest : drop 8 x ≡ zeros (128 * places_in memory) = ap (drop 8) p ∙ drop_at (take 8 memory) (zeros (length memory - 8)) 8 (length-take-le 8 memory room) ∙ ap zeros free in
          let all : places_in memory ≡ places_in memory - 0 = omega arith in
          q ∙ ap (λ (l : List ℕ). header_of afi 0 ++ l) rest ∙ ap (λ (n : ℕ). header_of afi 0 ++ zeros (128 * n)) all

      pub table-made : size ≡ true → (x y : List ℕ) → x ≡ take 8 memory ++ zeros (length memory - 8) → y ≡ header_of afi 0 ++ drop 8 x
          → (DONE ≡ (make_of afi memory).answer) × (y ≡ (make_of afi memory).octets)
      unfolding make_of make_outcome number_of on_outcome and_then pick
      table-made h x y p q =
          let f = known bits in
          let b : family_bits afi ≡ given f.0 = f.1 in
          let z : table_size (length memory) ≡ true = sym s ∙ h in
          (rw (b, z), rw (b, z) (image h x y p q))
