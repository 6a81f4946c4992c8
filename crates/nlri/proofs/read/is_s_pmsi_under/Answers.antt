-- `nlri::read::is_s_pmsi_under` meets its contract.
use Rattle.std.proofs.Common.{ℕ, eqb, ap}
use Rattle.octets.specs.Numbers.{DONE}
use Rattle.octets.proofs.Tests.{flags}
use Rattle.nlri.specs.Inner.{s_pmsi_under}
use Rattle.nlri.proofs.read.is_s_pmsi_under.Goals as goal

pub returns-then-s-ne-S_PMSI : goal.returns-then-s-ne-S_PMSI
unfolding s_pmsi_under
returns-then-s-ne-S_PMSI c = search flags

pub returns-then-s : goal.returns-then-s
unfolding s_pmsi_under
returns-then-s c = search flags

pub returns-then-s-2 : goal.returns-then-s-2
unfolding s_pmsi_under
returns-then-s-2 c = search flags

pub returns : goal.returns
unfolding s_pmsi_under
returns c =
    let last = ap (λ (n : ℕ). eqb n DONE) c.check_flow.ensures in
    search flags
