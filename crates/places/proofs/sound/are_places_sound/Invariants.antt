-- `places::sound::are_places_sound` meets its contract.
use Prim.Native.Nat.{◌-◌}
use Rattle.places.proofs.Sounds.{Passing}
use Rattle.places.proofs.sound.are_places_sound.Given as goal

abbrev pub invariant-loop-at : goal.invariant-loop-at
invariant-loop-at l = Passing l.afi l.count l.table l.at

abbrev pub decreases-loop-at : goal.decreases-loop-at
decreases-loop-at l = l.end - l.at
