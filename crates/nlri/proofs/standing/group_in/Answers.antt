-- `nlri::standing::group_in` meets its contract.
use Rattle.std.proofs.Common.{◌∙◌, arith}
use Rattle.nlri.proofs.Functions.FieldStarts.{group-within, group-stands}
use Rattle.nlri.proofs.standing.group_in.Goals as goal

pub overflow_add-length_at : goal.overflow_add-length_at
overflow_add-length_at c = omega (arith, group-within _ _ c.group_length_at-length_at.ensures c.requires)

pub bounds-nlri-length_at : goal.bounds-nlri-length_at
bounds-nlri-length_at c = omega (arith, group-within _ _ c.group_length_at-length_at.ensures c.requires)

pub between-requires : goal.between-requires
between-requires c = group-within _ _ c.group_length_at-length_at.ensures c.requires

pub returns : goal.returns
returns c = c.between.ensures ∙ group-stands _ _ c.group_length_at-length_at.ensures
