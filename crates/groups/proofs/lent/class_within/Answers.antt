-- `groups::lent::class_within` meets its contract.
use Rattle.std.proofs.Common.{arith, ap, sym, ◌∙◌}
use Rattle.groups.proofs.Classes.{within-many, within-short, within-along}
use Rattle.groups.specs.Inner.{class_along}
use Rattle.groups.proofs.lent.class_within.Goals as goal

pub returns-then-count_of-gt-MOST_PREFIXES : goal.returns-then-count_of-gt-MOST_PREFIXES
returns-then-count_of-gt-MOST_PREFIXES c = within-many _ _ _ _ c.count_of.ensures.value c.if-count_of-gt-MOST_PREFIXES.true

pub returns-then-not-is_whole : goal.returns-then-not-is_whole
returns-then-not-is_whole c = within-short _ _ _ _ c.count_of.ensures.value c.if-count_of-gt-MOST_PREFIXES.false (sym c.is_whole.ensures ∙ c.if-not-is_whole.true)

pub items_of-requires : goal.items_of-requires
items_of-requires c = (omega arith, sym c.is_whole.ensures ∙ c.if-not-is_whole.false)

pub returns : goal.returns
returns c =
    c.class_along.ensures
    ∙ ap (class_along _ _ _) c.items_of.ensures.value
    ∙ within-along _ _ _ _ c.count_of.ensures.value c.if-count_of-gt-MOST_PREFIXES.false (sym c.is_whole.ensures ∙ c.if-not-is_whole.false)
