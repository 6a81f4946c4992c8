-- `shared_trees::eligible::ending_in` meets its contract.
use native.Mathlib.Omega.{arith}
use Rattle.nlri.specs.Standing.{group_end}
use Rattle.shared_trees.proofs.States.{ending-stands}
use Rattle.shared_trees.proofs.eligible.ending_in.Goals as goal

pub four_low_first-requires : goal.four_low_first-requires
unfolding group_end
four_low_first-requires c = let within = c.requires.within in omega (arith, c.group_length_at.ensures)

pub returns : goal.returns
returns c = ending-stands _ _ _ c.requires c.group_length_at.ensures c.four_low_first.ensures
