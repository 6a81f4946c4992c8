-- `short_fec` by the tests that the code makes: address family and address length as one number, the opaque length as another.
use Prim.Native.Nat.{ℕ, ◌+◌, ◌-◌, ◌*◌, ◌/◌, ◌≤◌, ◌<◌}
use mathlib.Core.Path.{◌≡◌, refl, sym, ap, subst, ◌∙◌}
use mathlib.Core.Logic.{◌↔◌}
use mathlib.Core.Bool.{Bool, true, false}
use mathlib.Core.List.{List}
use native.Mathlib.Omega.{arith}
use lib.Dec.{ltb, eqb}
use lib.ListN.{length, get_or}
use borrow.Author.Tests.{eqb-true, eq-eqb, le-leb, lt-ltb, le-ltb}
use Rattle.octets.specs.Choice.{both}
use Rattle.octets.specs.Numbers.{DONE}
use Rattle.octets.specs.Octets.{AllOctets, part, number_in, low_first}
use Rattle.octets.proofs.Choice.{is_false, pick_true, pick-false, test-same, both_true, both-held, both-last}
use Rattle.octets.proofs.AllOctets.{octet-at}
use Rattle.octets.proofs.NetworkOrder.{number-two}
use Rattle.octets.proofs.LowFirst.{low-two, low-then, low-number}
use Rattle.fec_elements.specs.declared.Standing.{Standing}
use Rattle.fec_elements.specs.Fields.{Suits, ipv4, ipv6}
use Rattle.fec_elements.specs.Reading.{opaque_start, opaque_size, fec_size, must_fill, takes_family, is_fec_type, length_fault, root_fault, family_fault, header_fault, whole_fec, short_fec}
use Rattle.fec_elements.specs.declared.shape.RootFamily.{RootFamily}
use Rattle.fec_elements.specs.declared.shape.RootFamily.TheVariants.{Ipv4, Ipv6}
use Rattle.fec_elements.specs.Inner.{ends_from, EndsWell, family_number, root_size, start_after, HasRoot}
use Rattle.fec_elements.proofs.Fecs.{suits-computed, start_is, start-in, size-before}
use Rattle.fec_elements.proofs.Wholes.{whole-tests, tests-whole}

suits-least : {address_family size : ℕ} → Suits address_family size → 4 ≤ size
suits-least ipv4 = omega arith
suits-least ipv6 = omega arith

-- no FEC has fewer octets than one with an IPv4 root and no opaque value
pub short-least : (i : List ℕ) → length i < 10 → false ≡ short_fec i
unfolding short_fec
short-least i h =
    sym (is_false _ (λ w. let t = (whole-tests i (both-held _ _ w).1).0 in omega (arith, suits-least t.suits, start-in i t.whole, start_is i)))

-- the opaque length, as the code reads it
pub ends_low : {i : List ℕ} → AllOctets i → (start x : ℕ) → 2 ≤ start → start ≤ length i → length i < 256 → x ≡ low_first (part i (start - 2) 2) → eqb x ((length i - start) * 256) ≡ ends_from i start
unfolding ends_from both
ends_low {i} a start x two fits small e =
    let n = number_in (part i (start - 2) 2) 0 in
    let shifted : eqb n (length i - start) ≡ eqb (start + n) (length i) =
    test-same (eqb n (length i - start)) (eqb (start + n) (length i)) (λ p. eq-eqb (start + n) (length i) (omega (arith, eqb-true))) (λ p. eq-eqb n (length i - start) (omega (arith, eqb-true))) in
    rw (e, le-leb start (length i) fits) (low-number a (start - 2) (length i - start) (omega arith) (omega arith) ∙ shifted)

-- and what it ends
ends-whole : (i : List ℕ) → 4 ≤ length i → Suits (number_in (part i 1 2) 0) (get_or i 3 0) → ends_from i (opaque_start i) ≡ whole_fec i
unfolding ends_from fec_size
ends-whole i h t =
    rw (size-before i)
    (test-same _ _
    (λ x.
    let whole = eqb-true (opaque_start i + opaque_size i) (length i) (both-held _ _ x).1 in
    tests-whole i (record { least = h; suits = t; whole = omega arith }) whole)
    (λ x.
    let whole = (whole-tests i x).1 in
    both_true _ _ (le-leb (opaque_start i) (length i) (omega arith)) (eq-eqb (opaque_start i + opaque_size i) (length i) whole)))

low-apart : {x u : ℕ} (y v : ℕ) → x < 256 → u < 256 → x + 256 * y ≡ u + 256 * v → (x ≡ u) × (y ≡ v)
low-apart y v h k e = (omega arith, omega arith)

-- address family and address length as one number, as the code reads them
module _ {i : List ℕ} (a : AllOctets i) (h : 4 ≤ length i) (low : ℕ) (e : low ≡ low_first (part i 0 4)) where
  root-octets : low / 256 ≡ get_or i 1 0 + 256 * get_or i 2 0 + 65536 * get_or i 3 0
  root-octets =
      let first = low-two i 0 (omega arith) in
      let second = low-two i 2 (omega arith) in
      let all = low-then i 0 2 2 (omega arith) in
      omega (arith, octet-at a 0)

  pub root_is : (address_family size : ℕ) → address_family < 256 → size < 256 → (low / 256 ≡ 256 * address_family + 65536 * size) ↔ ((number_in (part i 1 2) 0 ≡ address_family) × (get_or i 3 0 ≡ size))
  root_is address_family size f s =
      let r = root-octets in
      let n = number-two i 1 (omega arith) in
      let x = octet-at a 1 in
      let y = octet-at a 2 in
      let z = octet-at a 3 in (
        λ q.
            let first = low-apart {x = get_or i 1 0} {u = 0} (get_or i 2 0 + 256 * get_or i 3 0) (address_family + 256 * size) x (omega arith) (omega arith) in
            let second = low-apart (get_or i 3 0) size y f first.1 in
            (omega arith, second.1),
        λ q. let first : get_or i 1 0 ≡ 0 = omega arith in omega arith,
      )

  pub no-root : (low / 256 ≡ 262400 → ⊥) → (low / 256 ≡ 1049088 → ⊥) → Suits (number_in (part i 1 2) 0) (get_or i 3 0) → ⊥
  no-root p q t = go t refl refl
    where
      go : {address_family size : ℕ} → Suits address_family size → number_in (part i 1 2) 0 ≡ address_family → get_or i 3 0 ≡ size → ⊥
      go ipv4 x y = p ((root_is 1 4 (omega arith) (omega arith)).1 (x, y))
      go ipv6 x y = q ((root_is 2 16 (omega arith) (omega arith)).1 (x, y))

-- what a root of a family says
suits-family : (family : RootFamily) → Suits (family_number family) (root_size family)
suits-family Ipv4 = ipv4
suits-family Ipv6 = ipv6

-- the code's cast
pub family-cast : (family : RootFamily) → denote.Enum.Declared.tag_of Rattle.fec_elements.specs.contracts.shape.RootFamily.the_type family + 1 ≡ family_number family
family-cast Ipv4 = refl
family-cast Ipv6 = refl

start-family : (family : RootFamily) → 6 + root_size family ≡ start_after family
start-family Ipv4 = refl
start-family Ipv6 = refl

module _ (i : List ℕ) (family : RootFamily) (root : HasRoot i family) where
  family-suits : Suits (number_in (part i 1 2) 0) (get_or i 3 0)
  family-suits = rw (root.0, root.1) (suits-family family)

  family-start : start_after family ≡ opaque_start i
  family-start = omega (arith, start_is i, root.1, start-family family)

  -- by it the header of a FEC has no fault
  pub surely-good : 4 ≤ length i → (p : Standing) → is_fec_type (get_or i 0 0) ≡ true → takes_family p (family_number family) ≡ true → EndsWell p (start_after family) i → header_fault p i ≡ DONE
  unfolding header_fault family_fault root_fault length_fault fec_size
  surely-good h p type takes good =
      let ends : EndsWell p (opaque_start i) i = subst (λ (n : ℕ). EndsWell p n i) family-start good in
      let size_is = size-before i in
      pick-false _ _ _ (le-ltb (length i) 1 (omega arith)) ∙ pick_true _ _ _ type
      ∙ pick-false _ _ _ (le-ltb (length i) 3 (omega arith)) ∙ pick_true _ _ _ (ap (takes_family p) root.0 ∙ takes)
      ∙ pick-false _ _ _ (le-ltb (length i) 4 h) ∙ pick_true _ _ _ (suits-computed family-suits)
      ∙ pick-false _ _ _ (le-ltb (length i) (opaque_start i) ends.starts) ∙ pick-false _ _ _ (le-ltb (length i) (opaque_start i + opaque_size i) (omega (arith, ends.ends)))
      ∙ pick-false _ _ _ (ap (λ (n : ℕ). both (ltb (opaque_start i + n) (length i)) (must_fill p)) (sym size_is) ∙ ends.filled)

  pub short-rooted : 4 ≤ length i → length i < 256 → (r : Bool) → r ≡ ends_from i (start_after family) → r ≡ short_fec i
  unfolding short_fec
  short-rooted h l r q = both-last _ _ r (lt-ltb (length i) 256 l) (q ∙ ap (ends_from i) family-start ∙ ends-whole i h family-suits)

pub short-unrooted : (i : List ℕ) → (Suits (number_in (part i 1 2) 0) (get_or i 3 0) → ⊥) → false ≡ short_fec i
unfolding short_fec
short-unrooted i none = sym (is_false _ (λ w. none (whole-tests i (both-held _ _ w).1).0.suits))
