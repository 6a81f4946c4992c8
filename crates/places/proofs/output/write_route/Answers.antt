-- `places::output::write_route` meets its contract.
use native.Mathlib.Omega.{arith}
use Rattle.places.proofs.RouteWrites.{route-written, nlri-room, attribute-room, nlri-small, attribute-small, route-sizes}
use Rattle.routes.specs.Place.{route_in}
use Rattle.places.specs.Writing.{written_route}
use Rattle.places.proofs.output.write_route.Goals as goal

pub place-nlri-requires : goal.place-nlri-requires
place-nlri-requires c = nlri-room _ _ _ c.requires c.nlri_in.ensures

pub write_attribute-attribute-requires : goal.write_attribute-attribute-requires
write_attribute-attribute-requires c = attribute-room _ _ _ c.requires c.nlri_in.ensures _ c.attribute_in.ensures _ _ c.place-nlri.ensures

pub overflow_cast-result : goal.overflow_cast-result
overflow_cast-result c = omega (arith, nlri-small _ _ _ c.requires c.nlri_in.ensures _ c.place-nlri.ensures.0)

pub overflow_cast-result-2 : goal.overflow_cast-result-2
overflow_cast-result-2 c = omega (arith, attribute-small _ _ _ c.requires c.nlri_in.ensures _ c.attribute_in.ensures _ c.write_attribute-attribute.ensures.value)

pub returns : goal.returns
unfolding written_route
returns c =
    let a = c.args in
    let nlri = c.nlri_in in
    let attribute = c.attribute_in in
    let first = c.place-nlri in
    let second = c.write_attribute-attribute in (
      route-sizes _ _ _ c.requires nlri.ensures _ attribute.ensures first.result second.result first.ensures.0 second.ensures.value,
      route-written (route_in a.place.now) a.output.now _ _ _ _ first.result (let h = c.requires.most in let k = c.requires.room in omega arith) nlri.ensures attribute.ensures
          first.ensures.0 first.ensures.1 second.ensures.output_after,
    )
