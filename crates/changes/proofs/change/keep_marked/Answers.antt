-- `changes::change::keep_marked` meets its contract.
use Prim.Native.Nat.{ℕ, ◌+◌}
use mathlib.Core.Path.{ap, ◌∙◌}
use mathlib.Core.List.{List}
use lib.ListN.{set}
use Rattle.octets.specs.Octets.{part}
use Rattle.octets.proofs.Lists.{length_part}
use Rattle.changes.proofs.Keeps.{mark_set}
use borrow.Author.Rules.{rules}
use Rattle.changes.proofs.change.keep_marked.Goals as goal

pub returns : goal.returns
returns c =
    let a = c.args in
    ap (λ (x : List ℕ). set x (a.to + 127) a.mark) c.keep.ensures
    ∙ mark_set a.to a.mark (part a.table.now a.at 128) a.table.now
    (length_part a.table.now a.at 128 c.requires.1) (search rules)
