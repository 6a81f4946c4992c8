-- `groups::lent::are_none` meets its contract.
use Rattle.std.proofs.Common.{◌∙◌}
use borrow.Author.Tests.{lt-leb}
use Rattle.groups.proofs.Classes.{none-short, none-counted}
use Rattle.groups.proofs.lent.are_none.Goals as goal

pub returns-then-prefixes-ge2 : goal.returns-then-prefixes-ge2
returns-then-prefixes-ge2 c = none-counted _ c.if-prefixes-ge2.true _ c.count_of.ensures.value

pub returns-else-prefixes-ge2 : goal.returns-else-prefixes-ge2
returns-else-prefixes-ge2 c = lt-leb _ _ c.if-prefixes-ge2.false ∙ none-short _ c.if-prefixes-ge2.false
