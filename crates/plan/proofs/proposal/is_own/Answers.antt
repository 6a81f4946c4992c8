-- `plan::proposal::is_own` meets its contract.
use Rattle.plan.proofs.Compared.{compared}
use Rattle.plan.proofs.JudgedPlaces.{own-not, own_is, bounded-nlri, nlri-within}
use Rattle.plan.proofs.proposal.is_own.Goals as goal

pub is_of-requires : goal.is_of-requires
is_of-requires c = search (compared, bounded-nlri)

pub returns-then-not-is_of : goal.returns-then-not-is_of
returns-then-not-is_of c = search (compared, own-not)

pub distinguisher_in-requires : goal.distinguisher_in-requires
distinguisher_in-requires c = search (compared, nlri-within)

pub returns : goal.returns
returns c = search (compared, own_is)
