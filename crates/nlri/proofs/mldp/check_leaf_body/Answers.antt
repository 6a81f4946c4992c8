-- `nlri::mldp::check_leaf_body` meets its contract.
use Rattle.std.proofs.Common.{refl, ◌∙◌, arith}
use Rattle.octets.specs.Choice.{either}
use Rattle.nlri.specs.Inner.{with_key}
use Rattle.nlri.proofs.Functions.Leaves.{leaf-within, leaf-keyed, leaf-unkeyed}
use Rattle.nlri.proofs.mldp.check_leaf_body.Goals as goal

pub returns-in_default : goal.returns-in_default
unfolding with_key either
returns-in_default c = leaf-unkeyed _ _ _ _ c.read_key.ensures refl _ c.in_default.is

pub overflow_add-key : goal.overflow_add-key
unfolding with_key either
overflow_add-key c = let h = leaf-within _ _ c.args.s.now _ c.read_key.ensures _ c.in-Ok.is in omega arith

pub check_originator-requires : goal.check_originator-requires
check_originator-requires c =
    let h = leaf-within _ _ c.args.s.now _ c.read_key.ensures _ c.in-Ok.is in
    omega (arith, c.type_inv.s 1)

pub returns : goal.returns
unfolding with_key either
returns c = c.check_originator.ensures _ _ _ refl ∙ leaf-keyed _ _ _ _ c.read_key.ensures _ c.in-Ok.is refl
