-- `bier::write_string` meets its contract.
use Rattle.bier.proofs.Calls.{egress-passed, call-unrouted, call-unlisted, call-ungathered, call-written}
use Rattle.bier.proofs.write_string.Goals as goal

pub returns-in_err-sub_domain : goal.returns-in_err-sub_domain
returns-in_err-sub_domain c = rw (egress-passed _ _ c.from_residual.ensures.1) (call-unrouted _ _ _ _ _ _ _ c.in_err-sub_domain.ensures)

pub returns-in_err-leaves : goal.returns-in_err-leaves
returns-in_err-leaves c = rw (egress-passed _ _ c.from_residual-in_err-leaves.ensures.1) (call-unlisted _ _ _ _ _ _ _ c.in_ok-sub_domain.ensures _ c.in_err-leaves.ensures)

pub returns-in_err-string : goal.returns-in_err-string
returns-in_err-string c = rw (egress-passed _ _ c.from_residual-in_err-string.ensures.1) (call-ungathered _ _ _ _ _ _ _ c.in_ok-sub_domain.ensures _ c.in_ok-leaves.ensures _ c.in_err-string.ensures)

pub returns : goal.returns
returns c = call-written _ _ _ _ _ _ _ c.in_ok-sub_domain.ensures _ c.in_ok-leaves.ensures _ c.in_ok-string.ensures _ _ c.write.ensures
