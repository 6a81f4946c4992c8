-- `nlri::read::is_s_pmsi` meets its contract.
use Rattle.nlri.proofs.Functions.Via.{known-given, unknown-given}
use Rattle.nlri.proofs.Functions.SPmsis.{s-pmsi-none, s-pmsi-under}
use Rattle.nlri.proofs.read.is_s_pmsi.Goals as goal

pub returns-in-Err : goal.returns-in-Err
returns-in-Err c = s-pmsi-none _ _ _ (unknown-given _ _ _ c.family_of.ensures c.in-Err.is)

pub returns-in-Ok : goal.returns-in-Ok
returns-in-Ok c = s-pmsi-under _ _ _ _ (known-given _ _ _ c.family_of.ensures c.in-Ok.is) c.is_s_pmsi_under.ensures
