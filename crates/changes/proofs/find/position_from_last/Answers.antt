-- `changes::find::position_from_last` meets its contract.
use Prim.Native.Nat.{◌-◌, ◌<◌}
use native.Mathlib.Omega.{arith}
use Rattle.changes.proofs.Finds.{bracketed-first, bracketed-behind}
use Rattle.changes.proofs.find.position_from_last.Goals as goal

pub returns-then-count-eq0 : goal.returns-then-count-eq0
returns-then-count-eq0 c =
    let a = c.args in
    let first = bracketed-first a.table.now a.nlri.now a.count c.requires.1 in
    omega (arith, first.most, c.if-count-eq0.true)

pub returns-then-comes_before : goal.returns-then-comes_before
returns-then-comes_before c =
    let a = c.args in
    let p = c.requires in
    let some = c.if-count-eq0.false in
    let inside : a.count - 1 < a.count = omega arith in
    let behind = bracketed-behind a.table.now a.nlri.now 0 a.count (a.count - 1) (bracketed-first a.table.now a.nlri.now a.count p.1) inside _ _ c.nlri_at.ensures c.comes_before.ensures p.0 c.if-comes_before.true in
    omega (arith, behind.least, behind.most)
