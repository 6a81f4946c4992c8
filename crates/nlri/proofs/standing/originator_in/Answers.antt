-- `nlri::standing::originator_in` meets its contract.
use Rattle.std.proofs.Common.{◌∙◌, arith}
use Rattle.nlri.proofs.Functions.FieldStarts.{group-within, originator-stands}
use Rattle.nlri.proofs.standing.originator_in.Goals as goal

pub overflow_add-length_at : goal.overflow_add-length_at
overflow_add-length_at c = omega (arith, group-within _ _ c.group_length_at-length_at.ensures c.requires)

pub bounds-nlri-length_at : goal.bounds-nlri-length_at
bounds-nlri-length_at c = omega (arith, group-within _ _ c.group_length_at-length_at.ensures c.requires)

pub overflow_add-length_at-2 : goal.overflow_add-length_at-2
overflow_add-length_at-2 c = omega (arith, group-within _ _ c.group_length_at-length_at.ensures c.requires)

pub after-requires : goal.after-requires
after-requires c = group-within _ _ c.group_length_at-length_at.ensures c.requires

pub returns : goal.returns
returns c = c.after.ensures ∙ originator-stands _ _ c.group_length_at-length_at.ensures
