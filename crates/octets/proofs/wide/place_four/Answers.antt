-- `octets::wide::place_four` meets its contract: the first three octets, and the last straight after them.
use Prim.Native.Nat.{◌/◌, ◌%◌}
use mathlib.Core.List.{[], ◌∷◌}
use native.Mathlib.Omega.{arith}
use Rattle.octets.specs.Octets.{big_endian}
use Rattle.octets.proofs.NetworkOrder.{length-big_endian}
use Rattle.octets.proofs.Outputs.{put_then}
use borrow.Author.Rules.{rules}
use Rattle.octets.proofs.wide.place_four.Goals as goal

pub place-requires : goal.place-requires
place-requires c = let x = c.args.x in omega (arith, c.place_three-next.ensures.0, length-big_endian 3 (x / 256))

pub returns : goal.returns
unfolding big_endian
returns c =
    let a = c.args in
    let t = c.place_three-next in
    put_then a.at (big_endian 3 (a.x / 256)) (a.x % 256 ∷ []) a.output.now (search rules) t.result t.new.output t.ensures _ _ c.place.ensures
