-- `places::output::write_attribute` meets its contract. The octets that were read are written again.
use native.Mathlib.Omega.{arith}
use Rattle.places.proofs.RouteWrites.{attribute-least, attribute-size, attribute-placed}
use mathlib.Core.Path.{refl}
use mathlib.Core.List.{List}
use Prim.Native.Nat.{ℕ}
use Rattle.octets.specs.Octets.{AllOctets}
use Rattle.octets.proofs.AllOctets.{octets-of}
use Rattle.places.proofs.output.write_attribute.Goals as goal

pub three-label_field-requires : goal.three-label_field-requires
three-label_field-requires c = omega (arith, attribute-least _ _ c.requires.0)

pub after-identifier-requires : goal.after-identifier-requires
after-identifier-requires c = omega (arith, attribute-least _ _ c.requires.0)

pub bounds-attribute-0 : goal.bounds-attribute-0
bounds-attribute-0 c = omega (arith, attribute-least _ _ c.requires.0)

pub bounds-attribute-1 : goal.bounds-attribute-1
bounds-attribute-1 c = omega (arith, attribute-least _ _ c.requires.0)

pub returns : goal.returns
returns c =
    let a = c.args in
    let s : List ℕ = a.attribute.now in
    let d : List ℕ = a.output.now in
    let octets : AllOctets s = octets-of s (λ i. (c.type_inv.attribute i).fits) in
    let three = c.three-label_field in
    let after = c.after-identifier in
    let write = c.write-written in
    let size = attribute-size s d _ a.at three.result _ octets c.requires.0 c.requires.1 three.ensures.value after.ensures refl write.result write.ensures.0 in
    let left = attribute-placed s d _ a.at three.result _ octets c.requires.0 c.requires.1 three.ensures.value after.ensures refl write.new.output write.ensures.1 in
    record { value = size; output_after = left }
