-- `nlri_writing::put::put_front` meets its contract.
use mathlib.Core.List.{[], ◌∷◌}
use native.Mathlib.Omega.{arith}
use Rattle.octets.specs.Choice.{pick}
use Rattle.octets.specs.Octets.{big_endian}
use Rattle.octets.proofs.Outputs.{room-second, room-third, put_three}
use Rattle.nlri_writing.specs.Inner.{front_octets}
use Rattle.nlri_writing.proofs.put.put_front.Goals as goal

pub place-next-requires : goal.place-next-requires
unfolding front_octets
place-next-requires c =
    let a = c.args in
    room-second 0 (a.nlri.route_type ∷ a.size ∷ []) a.nlri.distinguisher.octets (pick a.numbered (big_endian 4 a.nlri.source_as) []) a.output.now (omega (arith, c.requires)) _ _ c.put_header-at.ensures

pub put_source_as-requires : goal.put_source_as-requires
unfolding front_octets
put_source_as-requires c =
    let a = c.args in
    room-third 0 (a.nlri.route_type ∷ a.size ∷ []) a.nlri.distinguisher.octets (pick a.numbered (big_endian 4 a.nlri.source_as) []) a.output.now (omega (arith, c.requires)) _ _ c.put_header-at.ensures _ _ c.place-next.ensures

pub returns : goal.returns
unfolding front_octets
returns c =
    let a = c.args in
    put_three 0 (a.nlri.route_type ∷ a.size ∷ []) a.nlri.distinguisher.octets (pick a.numbered (big_endian 4 a.nlri.source_as) []) a.output.now (omega (arith, c.requires)) _ _ c.put_header-at.ensures _ _ c.place-next.ensures _ _ c.put_source_as.ensures
