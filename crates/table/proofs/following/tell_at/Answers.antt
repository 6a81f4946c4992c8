-- `table::following::tell_at` meets its contract.
use mathlib.Core.Path.{ap, ◌∙◌}
use native.Mathlib.Omega.{arith}
use lib.ListN.{length}
use Rattle.octets.proofs.Lists.{length_part}
use Rattle.places.proofs.Indexes.{header-within, place-within}
use Rattle.table.proofs.Followings.{first-none, first_fits, first-told}
use Rattle.table.proofs.following.tell_at.Goals as goal

pub count_of-requires : goal.count_of-requires
count_of-requires c = header-within _ c.requires.0

pub returns-then-count_of-index : goal.returns-then-count_of-index
returns-then-count_of-index c = first-none _ _ _ c.count_of.ensures.0 c.if-count_of-index.true _

pub place_at-place-requires : goal.place_at-place-requires
place_at-place-requires c = place-within _ _ c.requires.0 (omega (arith, c.count_of.ensures.0))

pub bounds-place-127 : goal.bounds-place-127
bounds-place-127 c =
    omega (arith, ap length c.place_at-place.ensures ∙ length_part _ _ 128 (place-within _ _ c.requires.0 (omega (arith, c.count_of.ensures.0))))

pub write_route-sizes-requires : goal.write_route-sizes-requires
write_route-sizes-requires c =
    let p = c.requires in
    first_fits _ _ _ c.count_of.ensures.0 c.if-count_of-index.false _ c.place_at-place.ensures p.0 _ p.1

pub returns : goal.returns
returns c =
    let p = c.requires in
    first-told _ _ _ c.count_of.ensures.0 c.if-count_of-index.false _ c.place_at-place.ensures p.0 _ _ _
    c.write_route-sizes.ensures
