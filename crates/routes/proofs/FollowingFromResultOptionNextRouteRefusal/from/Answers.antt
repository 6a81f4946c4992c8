-- `routes::FollowingFromResultOptionNextRouteRefusal::from` meets its contract.
use Rattle.std.proofs.Common.{◌≡◌, refl, Bool, true, false}
use Rattle.octets.specs.Choice.{pick}
use Rattle.routes.specs.Place.{mark_octet}
use Rattle.routes.proofs.FollowingFromResultOptionNextRouteRefusal.from.Goals as goal

marked : (stale : Bool) → mir.Val.bool_byte stale ≡ mark_octet stale
unfolding mark_octet pick
marked true = refl
marked false = refl

pub returns-in-Ok-Some : goal.returns-in-Ok-Some
returns-in-Ok-Some c =
    let arm = c.in-Ok-Some in
    let some = rw arm.is at arm.field-0-is in
    rw (arm.is, some, marked arm.route.is_stale)
