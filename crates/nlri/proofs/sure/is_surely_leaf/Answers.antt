-- `nlri::sure::is_surely_leaf` meets its contract.
use Rattle.std.proofs.Common.{length, refl, ap, ◌∙◌, arith, length-drop}
use Rattle.octets.proofs.Choice.{opposite}
use Rattle.nlri.proofs.Functions.Sure.{leaf-sure}
use Rattle.std.proofs.Common.{sym}
use Rattle.nlri.proofs.sure.is_surely_leaf.Goals as goal

pub overflow_add-s : goal.overflow_add-s
overflow_add-s c = omega (arith, c.type_inv.s 3)

pub is_originator_from-requires : goal.is_originator_from-requires
is_originator_from-requires c = omega (arith, c.type_inv.s 3)

pub returns-then-not-is_originator_from : goal.returns-then-not-is_originator_from
returns-then-not-is_originator_from c t = absurd (opposite t refl)

pub is_surely_keyable-requires : goal.is_surely_keyable-requires
is_surely_keyable-requires c = omega (arith, ap length c.after.ensures ∙ length-drop 2 c.args.s.now, c.requires)

pub returns : goal.returns
returns c t = leaf-sure _ _ c.requires _ c.after.ensures (c.is_originator_from.ensures (sym refl ∙ c.if-not-is_originator_from.false)) (c.is_surely_keyable.ensures t)
