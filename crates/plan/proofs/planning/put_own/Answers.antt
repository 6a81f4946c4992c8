-- `plan::planning::put_own` meets its contract.
use Rattle.plan.proofs.OwnPlaces.{own-none, own-requires, own_put}
use Rattle.plan.proofs.planning.put_own.Goals as goal

pub returns-then-not-stands_out : goal.returns-then-not-stands_out
returns-then-not-stands_out c = own-none _ _ _ _ _ _ c.stands_out.ensures c.if-not-stands_out.true _ _

pub put_place-requires : goal.put_place-requires
put_place-requires c =
    own-requires _ _ _ _ _ _ c.stands_out.ensures c.if-not-stands_out.false _ _ _ c.source.ensures c.group.ensures c.wanted.ensures _ _ c.requires.room c.requires.sized.0 c.requires.sized.1

pub returns : goal.returns
returns c =
    own_put _ _ _ _ _ _ c.stands_out.ensures c.if-not-stands_out.false _ _ _ c.source.ensures c.group.ensures c.wanted.ensures _ _ _ _ c.put_place.ensures
