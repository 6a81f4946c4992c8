-- `nlri_writing::key::is_leaf_key` meets its contract.
use Rattle.std.proofs.Common.{sym, arith}
use Rattle.nlri.proofs.Definitions.Keys.{key-within}
use Rattle.nlri_writing.proofs.KeyTests.{key-alone, key-none}
use Rattle.nlri_writing.proofs.key.is_leaf_key.Goals as goal

pub overflow_add-result : goal.overflow_add-result
overflow_add-result c = let h = key-within _ 4 _ _ (sym c.in-Ok.ensures) in omega arith

pub returns-in-Ok : goal.returns-in-Ok
returns-in-Ok c = key-alone _ 4 _ _ (sym c.in-Ok.ensures)

pub returns-in-Err : goal.returns-in-Err
returns-in-Err c = key-none _ 4 _ _ (sym c.in-Err.ensures)
