-- `nlri::body::check_originator` meets its contract.
use Rattle.std.proofs.Common.{sym, refl, ◌∙◌}
use Rattle.octets.specs.Choice.{either}
use Rattle.nlri.specs.Family.{is_originator_size}
use Rattle.nlri.proofs.Functions.Ends.{left-originator, left-no-originator}
use Rattle.nlri.proofs.body.check_originator.Goals as goal

pub returns-then-size-at : goal.returns-then-size-at
unfolding is_originator_size either
returns-then-size-at c = λ bits type s l. left-originator bits type _ s 4 (l ∙ c.if-size-at.true) refl

pub returns-then-size-at-2 : goal.returns-then-size-at-2
unfolding is_originator_size either
returns-then-size-at-2 c = λ bits type s l. left-originator bits type _ s 16 (l ∙ c.if-size-at-2.true) refl

pub returns : goal.returns
unfolding is_originator_size either
returns c = λ bits type s l. left-no-originator bits type _ s (λ e. c.if-size-at.false (sym l ∙ e)) (λ e. c.if-size-at-2.false (sym l ∙ e))
