-- `groups::prefix::is_part_same` meets its contract.
use Rattle.groups.proofs.Functions.{past-some, divided-alike}
use Rattle.groups.proofs.prefix.is_part_same.Goals as goal

pub nonzero_div-result : goal.nonzero_div-result
nonzero_div-result c = past-some _ _ c.past-d.ensures

pub nonzero_div-result-2 : goal.nonzero_div-result-2
nonzero_div-result-2 c = past-some _ _ c.past-d.ensures

pub returns : goal.returns
returns c = divided-alike _ _ _ _ c.past-d.ensures
