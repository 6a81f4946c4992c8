-- `nlri_writing::put::put_octets` meets its contract.
use Rattle.octets.proofs.Outputs.{put_as, put-none}
use Rattle.nlri_writing.proofs.Puts.{length-octets, octets-taken, octets-all, octets-none}
use lib.Seq.{length-take-le}
use lib.ListN.{length}
use native.Mathlib.Omega.{arith}
use mathlib.Core.Path.{◌≡◌, sym}
use borrow.Author.Rules.{rules}
use Rattle.nlri_writing.proofs.put.put_octets.Goals as goal

pub slice_bounds-octets-end : goal.slice_bounds-octets-end
slice_bounds-octets-end c =
    let h : length c.args.address.octets ≡ 16 = search rules in
    omega arith

pub slice_bounds-place-end : goal.slice_bounds-place-end
slice_bounds-place-end c =
    let h : length c.args.address.octets ≡ 16 = search rules in
    sym (length-take-le 4 c.args.address.octets (omega arith))

pub place-requires : goal.place-requires
place-requires c =
    let h : length c.args.address.octets ≡ 16 = search rules in
    let t = length-take-le 4 c.args.address.octets (omega arith) in
    let l = length-octets c.args.address in
    omega (arith, c.requires.1)

pub returns-then-size-eq-IPV4_OCTETS : goal.returns-then-size-eq-IPV4_OCTETS
returns-then-size-eq-IPV4_OCTETS c =
    let h : length c.args.address.octets ≡ 16 = search rules in
    put_as _ _ _ _ _ _ (octets-taken c.args.address 4 (search rules) (omega arith)) c.place.ensures

pub place-requires-then-size-eq-IPV6_OCTETS : goal.place-requires-then-size-eq-IPV6_OCTETS
place-requires-then-size-eq-IPV6_OCTETS c =
    let h : length c.args.address.octets ≡ 16 = search rules in
    let l = length-octets c.args.address in
    omega (arith, c.requires.1)

pub returns-then-size-eq-IPV6_OCTETS : goal.returns-then-size-eq-IPV6_OCTETS
returns-then-size-eq-IPV6_OCTETS c =
    let h : length c.args.address.octets ≡ 16 = search rules in
    put_as _ _ _ _ _ _ (octets-all c.args.address (omega arith)) c.place-then-size-eq-IPV6_OCTETS.ensures

pub returns : goal.returns
returns c = put_as _ _ _ _ _ _ (octets-none c.args.address (c.requires.0.1 (search rules) (search rules))) (put-none _ _)
