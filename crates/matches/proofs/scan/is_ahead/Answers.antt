-- `matches::scan::is_ahead` meets its contract.
use Rattle.std.proofs.Common.{sym, ◌∙◌}
use Rattle.matches.specs.Scanning.{ahead_at}
use Rattle.matches.proofs.TierOrders.{lower-ahead, same-ahead}
use Rattle.matches.proofs.scan.is_ahead.Goals as goal

pub returns-then-ne : goal.returns-then-ne
unfolding ahead_at
returns-then-ne c = c.lt.ensures ∙ lower-ahead _ _ _ (sym c.ne.ensures ∙ c.if-ne.true)

pub returns : goal.returns
unfolding ahead_at
returns c = c.is_lower.ensures ∙ same-ahead _ _ _ (sym c.ne.ensures ∙ c.if-ne.false)
