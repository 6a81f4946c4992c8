-- `changes::find::position` meets its contract.
use Prim.Native.Nat.{◌+◌, ◌-◌, ◌/◌, ◌<◌}
use native.Mathlib.Omega.{arith}
use Rattle.changes.proofs.Finds.{bracketed-first, bracketed-behind, bracketed-upto}
use Rattle.changes.proofs.find.position.Goals as goal

pub loop-low-init : goal.loop-low-init
loop-low-init c = bracketed-first _ _ _ c.requires.1

pub loop-low-preserved-then-comes_before : goal.loop-low-preserved-then-comes_before
loop-low-preserved-then-comes_before c =
    let l = c.loop-low in
    let inside : l.low + (l.high - l.low) / 2 < l.high = omega arith in
    bracketed-behind _ _ _ _ _ l.invariant inside _ _ c.nlri_at.ensures c.comes_before.ensures c.requires.0 c.if-comes_before.true

pub loop-low-preserved : goal.loop-low-preserved
loop-low-preserved c =
    let l = c.loop-low in
    let inside : l.low + (l.high - l.low) / 2 < l.high = omega arith in
    bracketed-upto _ _ _ _ _ l.invariant inside _ _ c.nlri_at.ensures c.comes_before.ensures c.if-comes_before.false
