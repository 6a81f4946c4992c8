-- `nlri::body::check_end` meets its contract.
use Rattle.std.proofs.Common.{sym, ◌∙◌}
use Rattle.nlri.proofs.Functions.Ends.{left-none, left-some}
use Rattle.nlri.proofs.body.check_end.Goals as goal

pub returns-then-size-at : goal.returns-then-size-at
returns-then-size-at c = λ bits type s l. left-none bits type _ s (l ∙ c.if-size-at.true)

pub returns : goal.returns
returns c = λ bits type s l. left-some bits type _ s (λ e. c.if-size-at.false (sym l ∙ e))
