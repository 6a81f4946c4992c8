-- `table::restarting::pass` meets its contract.
use native.Mathlib.Omega.{arith}
use Rattle.table.proofs.RenewCalls.{turn-room, turn-here, turn-next, turn_last}
use Rattle.table.proofs.restarting.pass.Goals as goal

pub overflow_mul-index : goal.overflow_mul-index
overflow_mul-index c =
    let a = c.args in
    let p = c.requires in
    let r = turn-room a.mark a.router.now a.table.now p.0 a.count p.1 c.loop-index.index c.loop-index-test.true in
    omega arith

pub overflow_add-index : goal.overflow_add-index
overflow_add-index c =
    let a = c.args in
    let p = c.requires in
    let r = turn-room a.mark a.router.now a.table.now p.0 a.count p.1 c.loop-index.index c.loop-index-test.true in
    omega arith

pub settle-to-requires : goal.settle-to-requires
settle-to-requires c =
    let a = c.args in
    let p = c.requires in
    let l = c.loop-index in
    turn-here a.mark a.router.now a.table.now p.0 a.count p.1 l.index l.to l.table l.invariant c.loop-index-test.true

pub loop-index-preserved : goal.loop-index-preserved
loop-index-preserved c =
    let a = c.args in
    let p = c.requires in
    let l = c.loop-index in
    let s = c.settle-to in
    turn-next a.mark a.router.now a.table.now p.0 a.count p.1 l.index l.to l.table l.invariant
    c.loop-index-test.true _ _ s.ensures.value s.ensures.table_after

pub returns : goal.returns
returns c =
    let a = c.args in
    let p = c.requires in
    let l = c.loop-index in
    turn_last a.mark a.router.now a.table.now p.0 a.count p.1 l.index l.to l.table l.invariant (omega arith) c.loop-index-test.false
