-- `nlri_writing::write::put_between` meets its contract.
use mathlib.Core.List.{◌++◌}
use native.Mathlib.Omega.{arith}
use lib.ListN.{length-append}
use Rattle.octets.proofs.Outputs.{put_then, room_next}
use Rattle.nlri_writing.specs.Inner.{front_octets, end_octets, body_with}
use Rattle.nlri_writing.proofs.Puts.{room-front, room-rest, put-framed}
use Rattle.nlri_writing.proofs.write.put_between.Goals as goal

pub put_front-at-requires : goal.put_front-at-requires
unfolding body_with
put_front-at-requires c =
    let a = c.args in
    room-front a.nlri.route_type a.size (front_octets a.numbered a.nlri) (a.between.now ++ end_octets a.originated a.nlri) a.output.now c.requires.1

pub place_any-next-requires : goal.place_any-next-requires
unfolding body_with
place_any-next-requires c =
    let a = c.args in
    let room = room-rest a.nlri.route_type a.size (front_octets a.numbered a.nlri) (a.between.now ++ end_octets a.originated a.nlri) a.output.now c.requires.1 _ _ c.put_front-at.ensures in
    omega (arith, length-append a.between.now (end_octets a.originated a.nlri))

pub put_originator-requires : goal.put_originator-requires
unfolding body_with
put_originator-requires c =
    let a = c.args in
    (c.requires.0, room_next _ a.between.now (end_octets a.originated a.nlri) _ (room-rest a.nlri.route_type a.size (front_octets a.numbered a.nlri) (a.between.now ++ end_octets a.originated a.nlri) a.output.now c.requires.1 _ _ c.put_front-at.ensures) _ _ c.place_any-next.ensures)

pub returns : goal.returns
unfolding body_with
returns c =
    let a = c.args in
    put-framed a.nlri.route_type a.size (front_octets a.numbered a.nlri) (a.between.now ++ end_octets a.originated a.nlri) a.output.now c.requires.1 _ _ c.put_front-at.ensures _ _ (put_then _ a.between.now (end_octets a.originated a.nlri) _ (room-rest a.nlri.route_type a.size (front_octets a.numbered a.nlri) (a.between.now ++ end_octets a.originated a.nlri) a.output.now c.requires.1 _ _ c.put_front-at.ensures) _ _ c.place_any-next.ensures _ _ c.put_originator.ensures)
