-- `tunnel::fields::fec_of` meets its contract: an mLDP tunnel type's identifier without a fault is a FEC.
use mathlib.Core.Path.{sym, ◌∙◌}
use Rattle.tunnel.proofs.Functions.Answers.{mldp-whole, mldp-fec, no-mldp, no-row-fec}
use Rattle.tunnel.proofs.fields.fec_of.Goals as goal
use Rattle.tunnel.proofs.fields.fec_of.Goals.{in_default-via-in-Ok+else-is_mldp, in_default-via-in_default}

pub spans-requires : goal.spans-requires
spans-requires c = mldp-whole c.args.s.now _ c.in-Ok.ensures (sym c.is_mldp.ensures ∙ c.if-is_mldp.true) c.requires.s_value _ c.after.ensures

pub returns-in-Ok : goal.returns-in-Ok
returns-in-Ok c = mldp-fec c.args.s.now _ c.in-Ok.ensures (sym c.is_mldp.ensures ∙ c.if-is_mldp.true) _ _ c.after.ensures c.spans.ensures

pub returns-in_default : goal.returns-in_default
returns-in_default c =
    c.none.ensures
    ∙ elim c.in_default.branch [
      | in_default-via-in-Ok+else-is_mldp w ↦ no-mldp c.args.s.now _ w.in-Ok.ensures (sym w.is_mldp.ensures ∙ w.if-is_mldp.false)
      | in_default-via-in_default w ↦ no-row-fec c.args.s.now _ w.in_default.ensures.1
    ]
