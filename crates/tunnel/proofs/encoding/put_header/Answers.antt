-- `tunnel::encoding::put_header` meets its contract: the label field stands straight after flags and tunnel type.
use mathlib.Core.List.{[], ◌∷◌}
use Rattle.octets.specs.Octets.{big_endian}
use Rattle.octets.proofs.Outputs.{put_then}
use Rattle.octets.proofs.NetworkOrder.{length-big_endian}
use native.Mathlib.Omega.{arith}
use Rattle.tunnel.proofs.encoding.put_header.Goals as goal

pub returns : goal.returns
returns c =
    let a = c.args in
    let p = c.place-next in
    put_then 0 (a.flags ∷ (a.tunnel_type ∷ [])) (big_endian 3 a.label_field) a.output.now (omega (arith, length-big_endian 3 a.label_field, c.requires)) p.result p.new.output p.ensures _ _ c.place_three.ensures
