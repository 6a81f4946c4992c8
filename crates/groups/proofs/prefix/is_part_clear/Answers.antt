-- `groups::prefix::is_part_clear` meets its contract.
use Rattle.groups.proofs.Functions.{past-some, left-alike}
use Rattle.groups.proofs.prefix.is_part_clear.Goals as goal

pub nonzero_rem-result : goal.nonzero_rem-result
nonzero_rem-result c = past-some _ _ c.past.ensures

pub returns : goal.returns
returns c = left-alike _ _ _ c.past.ensures
