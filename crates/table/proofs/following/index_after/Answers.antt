-- `table::following::index_after` meets its contract.
use native.Mathlib.Omega.{arith}
use Rattle.routes.proofs.Statements.Images.{sound}
use Rattle.changes.proofs.Finds.{held-within}
use Rattle.table.proofs.Followings.{stands-next, belongs-next}
use Rattle.table.proofs.following.index_after.Goals as goal

pub overflow_add-result : goal.overflow_add-result
overflow_add-result c =
    let found = c.in-Ok.ensures in
    let k = sound _ c.requires in
    omega (arith, held-within _ _ _ c.requires found.1, k.within, k.size.most)

pub returns-in-Ok : goal.returns-in-Ok
returns-in-Ok c = let found = c.in-Ok.ensures in stands-next _ _ _ c.requires found.0 found.1

pub returns-in-Err : goal.returns-in-Err
returns-in-Err c = let found = c.in-Err.ensures in belongs-next _ _ _ c.requires found.0 found.1
