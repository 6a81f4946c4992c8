-- A table's header and size (document 01, "The table memory").
use Prim.Native.Nat.{ℕ, ◌+◌, ◌*◌, ◌-◌, ◌/◌, ◌%◌, ◌≤◌, ◌<◌}
use mathlib.Core.Path.{◌≡◌, refl, sym, ap, ap₂, ◌∙◌}
use mathlib.Core.Bool.{true}
use mathlib.Core.Logic.{inl, inr, ⊎_elim}
use mathlib.Core.List.{List, ◌++◌, append_assoc}
use native.Mathlib.Omega.{arith}
use borrow.Author.Tests.{leb-true, le-leb, eqb-true, eq-eqb}
use lib.ListN.{length, take, drop, length-append, take-append-drop}
use lib.Seq.{take_at, drop_at, drop-drop}
use Rattle.octets.specs.Octets.{AllOctets, part, number_in, big_endian}
use Rattle.octets.proofs.Choice.{both-true-left, both-true-right, either_true, either_second, both_true, either_left}
use Rattle.octets.proofs.NetworkOrder.{length-big_endian, number-of-big-endian, part-number}
use Rattle.octets.proofs.Orders.{same-equal, same-itself}
use Rattle.routes.specs.Rules.ArgumentRules.{KnownFamily}
use Rattle.routes.specs.Table.{header_start, header_of, afi_in, count_in, places_in, table_size, header_sound}

pub length-header : (afi count : ℕ) → length (header_of afi count) ≡ 8
unfolding header_of header_start
length-header afi count = rw (length-append (header_start afi) (big_endian 2 count), length-big_endian 2 count)

-- what is read of a header followed by anything
pub afi-in : (afi count : ℕ) (s : List ℕ) → afi_in (header_of afi count ++ s) ≡ afi
unfolding afi_in header_of header_start
afi-in afi count s = refl

pub count-in : (afi count : ℕ) (s : List ℕ) → count < 65536 → count_in (header_of afi count ++ s) ≡ count
unfolding count_in header_of header_start part
count-in afi count s h =
    ap (λ (x : List ℕ). number_in x 0) (take_at (big_endian 2 count) s 2 (length-big_endian 2 count)) ∙ number-of-big-endian 2 count h

pub sound-header_of : (afi count : ℕ) (s : List ℕ) → KnownFamily afi → header_sound (header_of afi count ++ s) ≡ true
unfolding header_sound afi_in header_of header_start
sound-header_of afi count s f =
    both_true _ _ (same-itself (header_start afi))
    (⊎_elim (λ one. either_left _ _ (eq-eqb afi 1 one)) (λ two. either_second _ _ (eq-eqb afi 2 two)) f)

pub past-header : (afi count : ℕ) (s : List ℕ) → drop 8 (header_of afi count ++ s) ≡ s
past-header afi count s = drop_at (header_of afi count) s 8 (length-header afi count)

-- a sound header is that of its family and count
pub sound-family : (t : List ℕ) → header_sound t ≡ true → KnownFamily (afi_in t)
unfolding header_sound
sound-family t h = ⊎_elim (λ one. inl (eqb-true _ _ one)) (λ two. inr (eqb-true _ _ two)) (either_true _ _ (both-true-right _ _ h))

two-more : (s : List ℕ) → drop 6 s ≡ part s 6 2 ++ drop 8 s
unfolding part
two-more s = sym (take-append-drop 2 (drop 6 s)) ∙ ap (λ (x : List ℕ). take 2 (drop 6 s) ++ x) (drop-drop 2 6 s)

pub sound-header : (t : List ℕ) → AllOctets t → 8 ≤ length t → header_sound t ≡ true → t ≡ header_of (afi_in t) (count_in t) ++ drop 8 t
unfolding header_sound header_of count_in
sound-header t a l h =
    let start : take 6 t ≡ header_start (afi_in t) = same-equal _ _ (both-true-left _ _ h) in
    let number : big_endian 2 (number_in (part t 6 2) 0) ≡ part t 6 2 = part-number a 6 2 (omega arith) in
    let rest : drop 6 t ≡ part t 6 2 ++ drop 8 t = two-more t in
    sym (take-append-drop 6 t) ∙ ap₂ (λ (x y : List ℕ). x ++ y) start (rest ∙ ap (λ (x : List ℕ). x ++ drop 8 t) (sym number))
    ∙ sym (append_assoc (header_start (afi_in t)) (big_endian 2 (number_in (part t 6 2) 0)) (drop 8 t))

-- a table's size
pub record SizeOf (size places : ℕ) : Type 0 where
  pub is : size ≡ 8 + 128 * places
  pub most : places ≤ 500

pub size-sound : (size places : ℕ) → size ≡ 8 + 128 * places → places ≤ 500 → table_size size ≡ true
unfolding table_size
size-sound size places e h =
    both_true _ _ (le-leb 8 size (omega arith))
    (both_true _ _ (eq-eqb ((size - 8) % 128) 0 (omega arith)) (le-leb ((size - 8) / 128) 500 (omega arith)))

pub sound-size : (t : List ℕ) → table_size (length t) ≡ true → SizeOf (length t) (places_in t)
unfolding table_size places_in
sound-size t h =
    let least = leb-true 8 (length t) (both-true-left _ _ h) in
    let whole = eqb-true ((length t - 8) % 128) 0 (both-true-left _ _ (both-true-right _ _ h)) in
    let most = leb-true ((length t - 8) / 128) 500 (both-true-right _ _ (both-true-right _ _ h)) in
    record { is = omega arith; most = most }

pub places-in : (t : List ℕ) (places : ℕ) → length t ≡ 8 + 128 * places → places_in t ≡ places
unfolding places_in
places-in t places e = omega arith
