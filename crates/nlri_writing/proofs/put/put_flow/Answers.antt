-- `nlri_writing::put::put_flow` meets its contract.
use Rattle.octets.proofs.Outputs.{put_then, room-first, room_next}
use Rattle.nlri.specs.Fields.{encode_address}
use Rattle.nlri.specs.Answers.{address_octets}
use Rattle.nlri_writing.specs.Inner.{flow_octets}
use Rattle.nlri_writing.proofs.put.put_flow.Goals as goal

pub put_address-next-requires : goal.put_address-next-requires
unfolding flow_octets
put_address-next-requires c =
    let a = c.args in
    (c.requires.0, room-first a.at (encode_address (address_octets a.nlri.source)) (encode_address (address_octets a.nlri.group)) a.output.now c.requires.1.1)

pub put_address-requires : goal.put_address-requires
unfolding flow_octets
put_address-requires c =
    let a = c.args in
    (c.requires.1.0, room_next a.at (encode_address (address_octets a.nlri.source)) (encode_address (address_octets a.nlri.group)) a.output.now c.requires.1.1 _ _ c.put_address-next.ensures)

pub returns : goal.returns
unfolding flow_octets
returns c =
    let a = c.args in
    put_then a.at (encode_address (address_octets a.nlri.source)) (encode_address (address_octets a.nlri.group)) a.output.now c.requires.1.1 _ _ c.put_address-next.ensures _ _ c.put_address.ensures
