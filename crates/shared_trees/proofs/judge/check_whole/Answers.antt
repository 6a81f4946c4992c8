-- `shared_trees::judge::check_whole` meets its contract.
use mathlib.Core.Path.{refl, sym, ◌∙◌}
use Rattle.octets.proofs.Choice.{picks, skips}
use Rattle.shared_trees.specs.Told.{whole_fault}
use Rattle.shared_trees.proofs.judge.check_whole.Goals as goal

pub returns-then-not-are_addresses_sized : goal.returns-then-not-are_addresses_sized
unfolding whole_fault
returns-then-not-are_addresses_sized c = skips _ _ _ _ (sym c.are_addresses_sized.ensures ∙ c.if-not-are_addresses_sized.true) refl

pub returns : goal.returns
unfolding whole_fault
returns c = picks _ _ _ _ (sym c.are_addresses_sized.ensures ∙ c.if-not-are_addresses_sized.false) c.check_source_actives.ensures
