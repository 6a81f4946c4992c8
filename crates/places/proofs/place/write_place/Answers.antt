-- `places::place::write_place` meets its contract.
use mathlib.Core.Path.{ap, ◌∙◌}
use Rattle.octets.specs.Order.{zeros}
use Rattle.places.proofs.Places.{place-written}
use Rattle.places.proofs.place.write_place.Goals as goal

pub returns : goal.returns
returns c =
    let a = c.args in
    let z = c.clear in
    let x = c.place-start in
    let y = c.place-end in
    let w = c.place in
    place-written a.nlri.now a.attribute.now z.new.octets x.new.output y.new.output w.new.output x.result y.result w.result c.requires.attribute_len_bound
    (z.ensures ∙ ap zeros c.requires.place_len) x.ensures y.ensures w.ensures
