-- `nlri_writing::put::put_address` meets its contract.
use Prim.Native.Nat.{◌*◌}
use mathlib.Core.List.{[], ◌∷◌}
use lib.ListN.{length}
use Rattle.nlri.specs.Answers.{address_octets}
use Rattle.octets.proofs.Outputs.{put_as, put_then, room-first, room_next}
use Rattle.nlri_writing.proofs.Puts.{address-split, room-address}
use Rattle.nlri_writing.proofs.put.put_address.Goals as goal

pub place-next-requires : goal.place-next-requires
place-next-requires c =
    let a = c.args in
    room-first a.at (8 * a.address.size ∷ []) (address_octets a.address) a.output.now (room-address a.address a.at (length a.output.now) c.requires.1)

pub put_octets-requires : goal.put_octets-requires
put_octets-requires c =
    let a = c.args in
    (c.requires.0, room_next a.at (8 * a.address.size ∷ []) (address_octets a.address) a.output.now (room-address a.address a.at (length a.output.now) c.requires.1) _ _ c.place-next.ensures)

pub returns : goal.returns
returns c =
    let a = c.args in
    put_as _ _ _ _ _ _ (address-split a.address) (put_then a.at (8 * a.address.size ∷ []) (address_octets a.address) a.output.now (room-address a.address a.at (length a.output.now) c.requires.1) _ _ c.place-next.ensures _ _ c.put_octets.ensures)
