-- `places::place::nlri_from` meets its contract.
use mathlib.Core.Path.{◌∙◌, ap}
use mathlib.Core.List.{List}
use Prim.Native.Nat.{ℕ}
use Rattle.routes.specs.Route.{nlri_of}
use Rattle.routes.specs.Place.{route_in}
use Rattle.places.specs.Readable.{nlri_at}
use Rattle.places.proofs.Taken.{place-ends}
use Rattle.places.proofs.place.nlri_from.Goals as goal

pub nlri_in-requires : goal.nlri_in-requires
nlri_in-requires c = place-ends _ _ _ c.requires c.between.ensures

pub returns : goal.returns
unfolding nlri_at
returns c = c.nlri_in.ensures ∙ ap (λ (x : List ℕ). nlri_of (route_in x)) c.between.ensures
