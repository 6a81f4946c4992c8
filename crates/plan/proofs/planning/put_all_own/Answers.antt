-- `plan::planning::put_all_own` meets its contract.
use Rattle.plan.proofs.OwnPlaces.{putting-first, putting-sized, putting-room, putting-next, putting-last}
use Rattle.plan.proofs.planning.put_all_own.Goals as goal

pub loop-flow-init : goal.loop-flow-init
loop-flow-init c = putting-first _ _ _ _ _ _ _ c.again-rest.ensures c.requires.sized.1 c.requires.room

pub put_own-end-requires-clause-sized : goal.put_own-end-requires-clause-sized
put_own-end-requires-clause-sized c = (c.requires.sized.0, putting-sized _ _ _ _ _ _ _ _ _ _ _ c.loop-flow.invariant c.in-Some.ensures.steps)

pub put_own-end-requires-clause-room : goal.put_own-end-requires-clause-room
put_own-end-requires-clause-room c = putting-room _ _ _ _ _ _ _ _ _ _ _ c.loop-flow.invariant c.in-Some.ensures.steps

pub loop-flow-preserved : goal.loop-flow-preserved
loop-flow-preserved c = putting-next _ _ _ _ _ _ _ _ _ _ _ c.loop-flow.invariant c.in-Some.ensures.steps _ _ c.put_own-end.ensures

pub returns : goal.returns
returns c = putting-last _ _ _ _ _ _ _ _ _ c.loop-flow.invariant c.in_default.ensures.steps.0
