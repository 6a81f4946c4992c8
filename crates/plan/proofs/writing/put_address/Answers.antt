-- `plan::writing::put_address` meets its contract.
use Prim.Native.Nat.{◌*◌}
use mathlib.Core.List.{[], ◌∷◌}
use native.Mathlib.Omega.{arith}
use lib.ListN.{length}
use Rattle.octets.proofs.Outputs.{put_then}
use Rattle.nlri.specs.Fields.{encode_address}
use Rattle.plan.proofs.writing.put_address.Goals as goal

pub returns : goal.returns
unfolding encode_address
returns c =
    let a = c.args in
    let pre = c.requires in
    put_then a.at (8 * length a.address.now ∷ []) a.address.now a.output.now (omega (arith, pre.1)) _ _ c.place-next.ensures _ _ c.place.ensures
