-- `plan::judging::judge` meets its contract.
use mathlib.Core.Path.{◌∙◌, ap}
use Rattle.plan.specs.Calls.{judged_by, judge_of}
use Rattle.plan.proofs.judging.judge.Goals as goal

pub returns : goal.returns
unfolding judge_of
returns c = c.from.ensures ∙ ap judged_by c.is_accepted.ensures
