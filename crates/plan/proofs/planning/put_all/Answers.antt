-- `plan::planning::put_all` meets its contract.
use Rattle.plan.proofs.OwnPlaces.{every-requires, others-room, all-put}
use Rattle.plan.proofs.planning.put_all.Goals as goal

pub put_place-start-requires : goal.put_place-start-requires
put_place-start-requires c = every-requires _ _ _ c.requires.sized.0 c.requires.sized.1 _ c.requires.room _ c.commonest-wanted.ensures

pub put_all_own-requires-clause-room : goal.put_all_own-requires-clause-room
put_all_own-requires-clause-room c = others-room _ _ _ c.requires.sized.0 c.requires.sized.1 _ c.requires.room _ c.commonest-wanted.ensures _ _ c.put_place-start.ensures

pub returns : goal.returns
returns c = all-put _ _ _ c.requires.sized.0 c.requires.sized.1 _ c.requires.room _ c.commonest-wanted.ensures _ _ c.put_place-start.ensures _ _ c.put_all_own.ensures
