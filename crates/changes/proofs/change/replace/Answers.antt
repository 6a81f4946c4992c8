-- `changes::change::replace` meets its contract.
use Prim.Native.Nat.{◌+◌, ◌*◌}
use Rattle.routes.specs.Route.{route, nlri_of, attribute_of}
use Rattle.routes.proofs.Definitions.Places.{length-place}
use Rattle.changes.specs.Changing.{replaced_at}
use Rattle.places.proofs.Places.{lent-over}
use Rattle.changes.proofs.change.replace.Goals as goal

pub returns : goal.returns
unfolding replaced_at nlri_of attribute_of
returns c =
    let a = c.args in
    rw c.write_place.ensures (lent-over 128 (8 + 128 * a.index) a.table.now _ (length-place (route a.nlri.now a.attribute.now) c.requires.attribute_len_bound))
