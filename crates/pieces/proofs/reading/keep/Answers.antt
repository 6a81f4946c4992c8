-- `pieces::reading::keep` meets its contract.
use mathlib.Core.Path.{◌≡◌, ◌∙◌, ap}
use native.Mathlib.Omega.{arith}
use borrow.Author.Rules.{rules}
use lib.ListN.{length}
use Rattle.octets.proofs.Lists.{length_part}
use Rattle.pieces.proofs.Functions.{keep-front}
use Rattle.pieces.proofs.reading.keep.Goals as goal

pub place-requires : goal.place-requires
place-requires c =
    let a = c.args in
    let l : length c.between.result.now ≡ a.share = ap length c.between.ensures ∙ length_part a.piece.now 0 a.share (search rules) in
    omega arith

pub returns : goal.returns
returns c =
    let a = c.args in
    keep-front a.kept a.share a.unfinished.now a.piece.now _ _ c.place.ensures.1 c.between.ensures
