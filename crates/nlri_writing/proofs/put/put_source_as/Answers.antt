-- `nlri_writing::put::put_source_as` meets its contract.
use mathlib.Core.List.{[]}
use native.Mathlib.Omega.{arith}
use Rattle.octets.specs.Octets.{big_endian}
use Rattle.octets.proofs.NetworkOrder.{length-big_endian}
use Rattle.octets.proofs.Outputs.{put-none, put-picks, put-skips, room-picks}
use Rattle.nlri_writing.proofs.put.put_source_as.Goals as goal

pub place_four-requires : goal.place_four-requires
place_four-requires c =
    let a = c.args in
    let room = room-picks a.at a.numbered (big_endian 4 a.nlri.source_as) [] a.output.now c.if-numbered.true c.requires in
    omega (arith, length-big_endian 4 a.nlri.source_as)

pub returns-then-numbered : goal.returns-then-numbered
returns-then-numbered c = put-picks _ _ _ _ _ _ _ c.if-numbered.true c.place_four.ensures

pub returns : goal.returns
returns c = put-skips _ _ _ _ _ _ _ c.if-numbered.false (put-none _ _)
