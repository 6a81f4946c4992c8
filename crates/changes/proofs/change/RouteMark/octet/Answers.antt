-- `changes::change::RouteMark::octet` meets its contract.
use mathlib.Core.Path.{◌≡◌, refl}
use Rattle.changes.specs.declared.change.RouteMark.{RouteMark}
use Rattle.changes.specs.declared.change.RouteMark.TheVariants.{Fresh, Stale}
use Rattle.changes.specs.Changing.{mark_number}
use Rattle.changes.proofs.change.RouteMark.octet.Goals as goal

numbered : (mark : RouteMark) → denote.Enum.Declared.tag_of Rattle.changes.specs.contracts.change.RouteMark.the_type mark ≡ mark_number mark
numbered Fresh = refl
numbered Stale = refl

pub returns : goal.returns
returns c = numbered c.args.self
