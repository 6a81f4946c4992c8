-- `changes::find::nlri_at` meets its contract.
use mathlib.Core.Path.{ap, ◌∙◌}
use mathlib.Core.List.{List}
use Prim.Native.Nat.{ℕ}
use Rattle.routes.specs.Route.{nlri_of}
use Rattle.routes.specs.Place.{route_in}
use Rattle.places.specs.Readable.{route_at}
use Rattle.places.proofs.Indexes.{place-within, end-within}
use Rattle.changes.proofs.find.nlri_at.Goals as goal

pub place_at-requires : goal.place_at-requires
place_at-requires c = place-within c.args.table.now c.args.index c.requires.0 c.requires.1

pub nlri_in-requires : goal.nlri_in-requires
nlri_in-requires c =
    rw c.place_at.ensures (end-within c.args.table.now c.args.index c.requires.0 c.requires.1)

pub returns : goal.returns
unfolding route_at
returns c = c.nlri_in.ensures ∙ ap (λ (x : List ℕ). nlri_of (route_in x)) c.place_at.ensures
