-- `mvpn::mvpn_attribute_read` meets its contract.
use Rattle.mvpn.specs.Answers.{attribute_answer}
use Rattle.tunnel.specs.Answers.{outcome_of}
use Rattle.octets.proofs.Outcome.{on-given, on-refused}
use mathlib.Core.Path.{refl, ◌∙◌, sym, ap}
use Rattle.mvpn.proofs.mvpn_attribute_read.Goals as goal

pub returns-in-Ok : goal.returns-in-Ok
unfolding attribute_answer
returns-in-Ok c =
    c.read-in-Ok.ensures ∙ on-given _ _ _ _ _ (sym c.read.ensures ∙ ap outcome_of c.in-Ok.is) refl

pub returns-in-Err : goal.returns-in-Err
unfolding attribute_answer
returns-in-Err c =
    (rw c.number.ensures at c.refused.ensures) ∙ on-refused _ _ _ _ _ (sym c.read.ensures ∙ ap outcome_of c.in-Err.is) refl
