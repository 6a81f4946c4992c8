-- `plan::proposal::is_good` meets its contract.
use mathlib.Core.Bool.{not}
use mathlib.Core.Path.{ap}
use Rattle.plan.proofs.Compared.{compared}
use Rattle.plan.proofs.JudgedPlaces.{good-not, good-is, good-readable}
use Rattle.plan.proofs.proposal.is_good.Goals as goal

pub returns-then-not-is_good : goal.returns-then-not-is_good
returns-then-not-is_good c = search (compared, good-not)

pub is_own-requires : goal.is_own-requires
is_own-requires c = good-readable _ _ _ c.is_good.ensures (ap not c.if-not-is_good.false) c.requires

pub returns : goal.returns
returns c = search (compared, good-is)
