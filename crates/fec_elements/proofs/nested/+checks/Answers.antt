-- `fec_elements::nested::check_fec` and `check_opaque`, which call each other, meet their contracts: the depth that is left falls.
use Rattle.std.proofs.Common.{rules, refl, ◌∙◌, arith}
use Rattle.octets.proofs.Refusals.{refusal_number-not_done, passed_on}
use Rattle.fec_elements.proofs.Nesting.{header-whole, fec-stops, fec-goes, opaque-kept, opaque-deep, opaque-bad, opaque-holds}
use Rattle.fec_elements.proofs.nested.+checks.Goals as goal

pub check_fec-returns-in_err-check : goal.check_fec-returns-in_err-check
check_fec-returns-in_err-check t c = passed_on _ _ c.from_residual.ensures.1 ∙ fec-stops _ _ _ _ c.in_err-check.ensures (refusal_number-not_done _)

pub check_fec-opaque_of-requires : goal.check_fec-opaque_of-requires
check_fec-opaque_of-requires t c = header-whole _ _ _ c.in_ok-check.ensures refl

pub check_fec-check_opaque-requires : goal.check_fec-check_opaque-requires
check_fec-check_opaque-requires t c = (omega arith, tt)

pub check_fec-returns : goal.check_fec-returns
check_fec-returns t c = fec-goes _ _ _ _ _ _ c.in_ok-check.ensures refl c.opaque_of.ensures c.check_opaque.ensures

pub check_opaque-returns-in_default : goal.check_opaque-returns-in_default
check_opaque-returns-in_default t c = opaque-kept _ _ c.in_default.ensures

pub check_opaque-returns-then-depth-eq0 : goal.check_opaque-returns-then-depth-eq0
check_opaque-returns-then-depth-eq0 t c = opaque-deep _ _ c.in-Some.ensures.0 c.if-depth-eq0.true

pub check_opaque-held-requires : goal.check_opaque-held-requires
check_opaque-held-requires t c = c.in-Some.ensures.1

pub check_opaque-check_fec-requires : goal.check_opaque-check_fec-requires
check_opaque-check_fec-requires t c = (omega arith, search rules)

pub check_opaque-returns-in-Some-held : goal.check_opaque-returns-in-Some-held
check_opaque-returns-in-Some-held t c =
    let held = c.in-Some-held.ensures in
    opaque-holds _ _ _ _ c.in-Some.ensures.0 c.if-depth-eq0.false held.0 held.1 c.check_fec.ensures

pub check_opaque-returns-in-None : goal.check_opaque-returns-in-None
check_opaque-returns-in-None t c = opaque-bad _ _ c.in-Some.ensures.0 c.if-depth-eq0.false c.in-None.ensures
