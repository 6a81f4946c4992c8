-- Laws of `whole_fec`: octets that are one FEC, whatever its type.
use Prim.Native.Nat.{ℕ, ◌+◌, ◌-◌, ◌<◌, ◌≤◌}
use mathlib.Core.Path.{◌≡◌, refl, sym, ap, subst, ◌∙◌}
use mathlib.Core.Bool.{Bool, true}
use mathlib.Core.List.{List, [], ◌++◌, append-nil}
use native.Mathlib.Omega.{arith}
use lib.ListN.{length, get_or, drop, length-drop}
use borrow.Author.Tests.{eqb-true, eq-eqb, lt-ltb}
use Rattle.octets.specs.Choice.{both}
use Rattle.octets.specs.Numbers.{DONE}
use Rattle.octets.specs.Octets.{AllOctets}
use Rattle.octets.proofs.Lists.{empty-list}
use Rattle.fec_elements.specs.declared.Standing.TheVariants.{Filling}
use Rattle.fec_elements.specs.Fields.{FecFields, encode_fec, WellFormedFec}
use Rattle.fec_elements.specs.Reading.{opaque_size, fec_size, fec_in, family_fault, whole_fec, short_fec}
use Rattle.fec_elements.specs.Rules.FecRules.{filling, nothing}
use Rattle.fec_elements.proofs.Fecs.{FecTests, start_is, fields-formed, fields-octets, encode-size, encode-tests, encode-fields}
use Rattle.fec_elements.proofs.Headers.{filling-rest, family-passes, passes-family}

-- the tests that a whole FEC passes: it ends where the octets end
pub whole-tests : (i : List ℕ) → whole_fec i ≡ true → FecTests i × (fec_size i ≡ length i)
unfolding whole_fec
whole-tests i h =
    let q = family-passes Filling i (eqb-true (family_fault Filling i) DONE h) in
    (q.tests, omega (arith, q.tests.whole, length-drop (fec_size i) i, ap length (filling-rest q.followed)))

pub tests-whole : (i : List ℕ) → FecTests i → fec_size i ≡ length i → whole_fec i ≡ true
unfolding whole_fec
tests-whole i t e =
    let none : drop (fec_size i) i ≡ [] = empty-list _ (rw (length-drop (fec_size i) i) (omega arith)) in
    eq-eqb (family_fault Filling i) DONE (passes-family Filling i (record { tests = t; family = filling; followed = rw none nothing }))

pub whole-within : (i : List ℕ) → whole_fec i ≡ true → fec_size i ≤ length i
whole-within i h = (whole-tests i h).0.whole

-- a FEC's header of 4 octets, its root and the opaque length of 2 are there, and its opaque value is what follows them
pub length-fec : (i : List ℕ) → whole_fec i ≡ true → 6 + get_or i 3 0 ≤ length i
unfolding fec_size
length-fec i h = omega (arith, (whole-tests i h).1, start_is i)

pub opaque-size : (i : List ℕ) → whole_fec i ≡ true → opaque_size i ≡ length i - 6 - get_or i 3 0
unfolding fec_size
opaque-size i h = omega (arith, (whole-tests i h).1, start_is i)

-- the fields of octets that are a FEC are well-formed, and encode to these octets
pub whole_fields : (i : List ℕ) → AllOctets i → whole_fec i ≡ true → WellFormedFec (fec_in i) × (i ≡ encode_fec (fec_in i))
whole_fields i a h =
    let t = whole-tests i h in
    let none : drop (fec_size i) i ≡ [] = empty-list _ (rw (length-drop (fec_size i) i) (omega arith)) in
    (fields-formed a t.0, fields-octets a t.0 ∙ ap (λ (l : List ℕ). encode_fec (fec_in i) ++ l) none ∙ append-nil (encode_fec (fec_in i)))

-- an encoding is a FEC, and its fields are those encoded
module _ (f : FecFields) (w : WellFormedFec f) where
  pub whole-encode : whole_fec (encode_fec f) ≡ true
  whole-encode =
      tests-whole (encode_fec f) (subst FecTests (append-nil (encode_fec f)) (encode-tests f [] w))
      (ap fec_size (sym (append-nil (encode_fec f))) ∙ encode-size f [] w)

  pub fields-encode : fec_in (encode_fec f) ≡ f
  fields-encode = ap fec_in (sym (append-nil (encode_fec f))) ∙ encode-fields f [] w

  pub type-encode : get_or (encode_fec f) 0 0 ≡ f.fec_type
  unfolding encode_fec
  type-encode = refl

-- the same of fewer than 256 octets
pub short-whole : (i : List ℕ) (r : Bool) → length i < 256 → r ≡ short_fec i → r ≡ whole_fec i
unfolding short_fec both
short-whole i r h e = rw (lt-ltb (length i) 256 h) at e
