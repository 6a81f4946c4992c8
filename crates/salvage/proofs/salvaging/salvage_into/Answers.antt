-- `salvage::salvaging::salvage_into` meets its contract.
use native.Mathlib.Omega.{arith}
use Rattle.salvage.proofs.Salvages.{table-size, count_small, made-first, salvaged-all}
use Rattle.salvage.proofs.salvaging.salvage_into.Goals as goal

pub look_at_all-dropped-requires : goal.look_at_all-dropped-requires
look_at_all-dropped-requires c =
    let a = c.args in
    let p = c.requires in
    record { ready = p.ready; table_value = made-first a.afi a.damaged.now a.list.now a.table.now _ p.ready p.table_len c.make.ensures.1 }

pub count_of-requires : goal.count_of-requires
count_of-requires c =
    let z = table-size _ _ _ _ _ _ _ c.requires.ready c.look_at_all-dropped.ensures (omega arith) in
    omega arith

pub overflow_cast-result-2 : goal.overflow_cast-result-2
overflow_cast-result-2 c =
    let z = count_small _ _ _ _ _ _ _ c.requires.ready c.look_at_all-dropped.ensures (omega arith) in
    omega arith

pub returns : goal.returns
returns c =
    let a = c.args in
    let p = c.requires in
    salvaged-all a.afi a.damaged.now a.table.now a.list.now _ _ _ _ p.ready p.table_len c.look_at_all-dropped.ensures c.count_of.ensures.0
