-- `nlri_writing::write::put_leaf` meets its contract.
use mathlib.Core.List.{[], ◌++◌}
use native.Mathlib.Omega.{arith}
use lib.ListN.{length-append}
use Rattle.octets.proofs.Outputs.{put_then, room_next}
use Rattle.nlri.specs.Answers.{address_octets}
use Rattle.nlri_writing.specs.Inner.{leaf_body}
use Rattle.nlri_writing.proofs.Puts.{room-rest, put-framed}
use Rattle.nlri_writing.proofs.write.put_leaf.Goals as goal

pub put_header-at-requires : goal.put_header-at-requires
put_header-at-requires c = omega (arith, c.requires.1.room)

pub place_any-next-requires : goal.place_any-next-requires
unfolding leaf_body
place_any-next-requires c =
    let a = c.args in
    let room = room-rest a.nlri.route_type a.size [] (a.key.now ++ address_octets a.nlri.originator) a.output.now c.requires.1 _ _ c.put_header-at.ensures in
    omega (arith, length-append a.key.now (address_octets a.nlri.originator))

pub put_octets-requires : goal.put_octets-requires
unfolding leaf_body
put_octets-requires c =
    let a = c.args in
    (c.requires.0, room_next _ a.key.now (address_octets a.nlri.originator) _ (room-rest a.nlri.route_type a.size [] (a.key.now ++ address_octets a.nlri.originator) a.output.now c.requires.1 _ _ c.put_header-at.ensures) _ _ c.place_any-next.ensures)

pub returns : goal.returns
unfolding leaf_body
returns c =
    let a = c.args in
    put-framed a.nlri.route_type a.size [] (a.key.now ++ address_octets a.nlri.originator) a.output.now c.requires.1 _ _ c.put_header-at.ensures _ _ (put_then _ a.key.now (address_octets a.nlri.originator) _ (room-rest a.nlri.route_type a.size [] (a.key.now ++ address_octets a.nlri.originator) a.output.now c.requires.1 _ _ c.put_header-at.ensures) _ _ c.place_any-next.ensures _ _ c.put_octets.ensures)
