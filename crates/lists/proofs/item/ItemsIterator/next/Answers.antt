-- The next of the items that are left, and those behind it.
use mathlib.Core.Path.{sym, ◌∙◌}
use native.Mathlib.Omega.{arith}
use Rattle.std.proofs.lemmas.Grind.{common_steps}
use Rattle.lists.proofs.Walks.{items-some, items-none, whole-item-first, whole-items-rest}
use Rattle.lists.proofs.item.ItemsIterator.next.Goals as goal

pub returns-then-self-eq0-clause-steps : goal.returns-then-self-eq0-clause-steps
returns-then-self-eq0-clause-steps g c = let e = sym c.self.view_is ∙ items-none _ _ _ (omega arith) in (e, e)

pub skip-self-inside-requires : goal.skip-self-inside-requires
skip-self-inside-requires g c = whole-item-first _ c.self.inside.left _ (omega arith) c.self.invariant

pub invariant_of-item : goal.invariant_of-item
invariant_of-item g c = whole-item-first _ c.self.inside.left _ (omega arith) c.self.invariant

pub invariant_of-self : goal.invariant_of-self
invariant_of-self g c = rw c.skip-self-inside.ensures (whole-items-rest _ c.self.inside.left _ (omega arith) c.self.invariant)

pub returns-clause-steps : goal.returns-clause-steps
returns-clause-steps g c = rw c.skip-self-inside.ensures (sym c.self.view_is ∙ items-some _ c.self.inside.left _ (omega arith))

pub returns-clause-goes : goal.returns-clause-goes
returns-clause-goes g c = let e = returns-clause-steps g c in grind (arith, common_steps, e)
