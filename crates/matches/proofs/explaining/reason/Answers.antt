-- `matches::explaining::reason` meets its contract.
use Rattle.std.proofs.Common.{◌≡◌, sym, ◌∙◌}
use Rattle.octets.specs.Choice.{pick}
use Rattle.octets.proofs.Choice.{pick_true, pick-false}
use Rattle.routes.specs.Answers.{tier_number, matched_told}
use Rattle.routes.specs.Reasons.{NO_SUCH_ROUTE, WRONG_GROUP_CLASS, reason_of}
use Rattle.std.proofs.Common.{Ok}
use Rattle.matches.proofs.TierOrders.{reason-none, reason-taken, reason-earlier, reason-later}
use Rattle.matches.proofs.explaining.reason.Goals.{in_default-via-in-Some-2+else-lt, in_default-via-in_default}
use Rattle.matches.proofs.explaining.reason.Goals as goal

pub returns-in-Some : goal.returns-in-Some
returns-in-Some c = reason-taken c.args.route c.args.tier c.args.is_open _ c.in-Some.is (rw (← c.in-Some.taken-is) (sym c.eq.ensures ∙ c.if-eq.true))

pub returns-in-Some-2 : goal.returns-in-Some-2
returns-in-Some-2 c = reason-earlier c.args.route c.args.tier c.args.is_open _ c.in-Some-2.is (rw (← c.in-Some-2.taken-is) (sym c.eq.ensures ∙ c.if-eq.false)) (rw (← c.in-Some-2.taken-is) (sym c.lt.ensures ∙ c.if-lt.true))

pub returns-in_default : goal.returns-in_default
returns-in_default c =
    let later : pick c.args.is_open NO_SUCH_ROUTE WRONG_GROUP_CLASS ≡ reason_of (matched_told (Ok c.args.route)).tier (tier_number c.args.tier) c.args.is_open =
    elim c.in_default.branch [
      | in_default-via-in-Some-2+else-lt w ↦ reason-later c.args.route c.args.tier c.args.is_open _ w.in-Some-2.is (rw (← w.in-Some-2.taken-is) (sym w.eq.ensures ∙ w.if-eq.false)) (rw (← w.in-Some-2.taken-is) (sym w.lt.ensures ∙ w.if-lt.false))
      | in_default-via-in_default w ↦ reason-none c.args.route c.args.tier c.args.is_open w.in_default.is
    ] in
    sym (pick_true _ _ _ c.if-is_open.true) ∙ later

pub returns-in_default-2 : goal.returns-in_default-2
returns-in_default-2 c =
    let later : pick c.args.is_open NO_SUCH_ROUTE WRONG_GROUP_CLASS ≡ reason_of (matched_told (Ok c.args.route)).tier (tier_number c.args.tier) c.args.is_open =
    elim c.in_default.branch [
      | in_default-via-in-Some-2+else-lt w ↦ reason-later c.args.route c.args.tier c.args.is_open _ w.in-Some-2.is (rw (← w.in-Some-2.taken-is) (sym w.eq.ensures ∙ w.if-eq.false)) (rw (← w.in-Some-2.taken-is) (sym w.lt.ensures ∙ w.if-lt.false))
      | in_default-via-in_default w ↦ reason-none c.args.route c.args.tier c.args.is_open w.in_default.is
    ] in
    sym (pick-false _ _ _ c.if-is_open.false) ∙ later
