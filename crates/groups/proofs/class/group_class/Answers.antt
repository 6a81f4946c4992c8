-- `groups::class::group_class` meets its contract.
use Rattle.std.proofs.Common.{◌∙◌}
use Rattle.groups.proofs.Classes.{none-by, whole_by}
use Rattle.groups.proofs.class.group_class.Goals as goal

pub returns-then-are_none : goal.returns-then-are_none
returns-then-are_none c = c.group_class.ensures ∙ none-by _ _ _ _ c.are_none.ensures c.if-are_none.true

pub returns : goal.returns
returns c = c.class_by_prefixes.ensures ∙ whole_by _ _ _ _ _ c.after.ensures c.after-2.ensures
