-- `pieces::state::Pieces::read_on` meets its contract.
use Rattle.pieces.proofs.Functions.{reads_as}
use Rattle.pieces.proofs.state.Pieces.read_on.Goals as goal

pub returns : goal.returns
returns c =
    let a = c.args in
    reads_as a.self a.unfinished.now a.piece.now c.keep.new.unfinished _ _ _ c.wanted-wanted.ensures.0 c.share-share.ensures.0 c.keep.ensures c.settle.ensures
