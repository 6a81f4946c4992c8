-- `places::place::is_of` meets its contract.
use Prim.Native.Nat.{ℕ}
use mathlib.Core.Path.{ap, ◌∙◌}
use mathlib.Core.List.{List}
use Rattle.octets.specs.Order.{same}
use Rattle.places.proofs.place.is_of.Goals as goal

pub returns : goal.returns
returns c = c.is_same.ensures ∙ ap (λ (x : List ℕ). same x c.args.router.now) c.originator_in.ensures
