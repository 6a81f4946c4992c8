-- `tunnel::encoding::put` meets its contract: the identifier stands straight after the header.
use mathlib.Core.Path.{◌≡◌, refl}
use mathlib.Core.List.{◌∷◌}
use lib.ListN.{length, length-append}
use Rattle.octets.specs.Octets.{big_endian}
use Rattle.octets.proofs.Outputs.{put_then}
use Rattle.octets.proofs.NetworkOrder.{length-big_endian}
use native.Mathlib.Omega.{arith}
use Rattle.tunnel.specs.Attribute.{encode_attribute}
use Rattle.tunnel.proofs.encoding.put.Goals as goal

pub place-requires : goal.place-requires
place-requires c =
    omega (arith, c.requires, length-big_endian 3 c.args.label_field, c.put_header-next.ensures.0)

pub overflow_add-result : goal.overflow_add-result
overflow_add-result c =
    omega (arith, c.requires, length-big_endian 3 c.args.label_field, c.put_header-next.ensures.0)

pub returns : goal.returns
unfolding encode_attribute
returns c =
    let a = c.args in
    let h = c.put_header-next in
    let e = a.flags ∷ (a.tunnel_type ∷ big_endian 3 a.label_field) in
    let l : length e ≡ 5 = omega (arith, length-big_endian 3 a.label_field) in
    put_then 0 e a.identifier.now a.output.now (omega (arith, c.requires, length-append (big_endian 3 a.label_field) a.identifier.now)) h.result h.new.output h.ensures _ _ (refl, c.place.ensures)
