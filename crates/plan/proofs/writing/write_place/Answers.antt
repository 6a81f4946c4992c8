-- `plan::writing::write_place` meets its contract.
use Rattle.plan.proofs.Puts.{nlri-room, wanted_room, place-put}
use Rattle.plan.proofs.writing.write_place.Goals as goal

pub put_nlri-end-requires : goal.put_nlri-end-requires
put_nlri-end-requires c =
    let sized = c.requires.1 in
    (sized.sourced, sized.grouped, sized.originated, sized.distinguished, nlri-room _ _ _ _ _ sized c.args.place.now _ c.requires.0 c.clear.ensures _ c.body_size.ensures _ _ c.place-start.ensures)

pub place-requires : goal.place-requires
place-requires c =
    wanted_room _ _ _ _ _ c.requires.1 c.args.place.now _ c.requires.0 c.clear.ensures _ c.body_size.ensures _ _ c.place-start.ensures _ _ c.put_nlri-end.ensures

pub returns : goal.returns
returns c =
    place-put _ _ _ _ _ c.requires.1 c.args.place.now _ c.requires.0 c.clear.ensures _ c.body_size.ensures _ _ c.place-start.ensures _ _ c.put_nlri-end.ensures _ _ c.place.ensures
