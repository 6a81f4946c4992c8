-- `groups::prefix::is_held` meets its contract.
use native.Mathlib.Omega.{arith}
use Rattle.groups.proofs.Functions.{good-size, good-bits, good-address, held-not, held-is}
use Rattle.groups.proofs.prefix.is_held.Goals as goal

pub returns-then-group-size : goal.returns-then-group-size
returns-then-group-size c = held-not _ _ _ c.if-group-size.true

pub after-requires : goal.after-requires
after-requires c = let a = c.args in omega (arith, good-size a.prefix.now _ c.requires)

pub bounds-prefix-0 : goal.bounds-prefix-0
bounds-prefix-0 c = let a = c.args in omega (arith, good-size a.prefix.now _ c.requires)

pub overflow_cast-prefix : goal.overflow_cast-prefix
overflow_cast-prefix c = omega (arith, c.type_inv.prefix 0)

pub is_begun_alike-requires : goal.is_begun_alike-requires
is_begun_alike-requires c =
    let a = c.args in
    let good = c.requires in
    let size = good-address a.prefix.now a.size good _ c.after.ensures in
    (omega (arith, size, good-bits a.prefix.now a.size good), omega (arith, size, c.if-group-size.false))

pub returns : goal.returns
returns c = held-is _ _ _ c.if-group-size.false _ c.after.ensures _ c.is_begun_alike.ensures
