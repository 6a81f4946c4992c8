-- `nlri::read::check_single` meets its contract.
use Rattle.std.proofs.Common.{sym, ap, ◌∙◌}
use Rattle.octets.specs.Choice.{pick}
use Rattle.nlri.specs.Inner.{followed_fault}
use Rattle.nlri.proofs.Functions.Discards.{is-followed, not-followed}
use Rattle.nlri.proofs.read.check_single.Goals as goal

pub returns-then-not-is_followed : goal.returns-then-not-is_followed
returns-then-not-is_followed c = c.check_front-front.ensures ∙ not-followed _ _ (sym c.is_followed.ensures ∙ c.if-not-is_followed.true)

pub returns-in-Ok : goal.returns-in-Ok
unfolding followed_fault pick
returns-in-Ok c = ap followed_fault c.in-Ok.ensures ∙ is-followed _ _ (sym c.is_followed.ensures ∙ c.if-not-is_followed.false)

pub returns-in-Err : goal.returns-in-Err
returns-in-Err c = c.before_group.ensures ∙ ap followed_fault c.in-Err.ensures ∙ is-followed _ _ (sym c.is_followed.ensures ∙ c.if-not-is_followed.false)
