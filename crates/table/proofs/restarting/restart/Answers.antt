-- `table::restarting::restart` meets its contract.
use Rattle.std.proofs.Common.{◌≡◌, true}
use mathlib.Core.Path.{sym, ◌∙◌}
use native.Mathlib.Omega.{arith}
use Rattle.routes.specs.Table.{sound_of}
use Rattle.table.specs.Renewing.{restart_by}
use Rattle.table.proofs.RenewCalls.{gone-most, restart-unsound, restart-missized, restart-does}
use Rattle.table.proofs.restarting.restart.Goals as goal

pub returns-then-not-is_sound : goal.returns-then-not-is_sound
returns-then-not-is_sound c = restart-unsound (restart_by c.args.mark) _ _ (sym c.is_sound.ensures ∙ c.if-not-is_sound.true)

pub returns-then-not-is_originator_size : goal.returns-then-not-is_originator_size
returns-then-not-is_originator_size c =
    restart-missized (restart_by c.args.mark) _ _ _ (sym c.is_sound.ensures ∙ c.if-not-is_sound.false) c.is_originator_size.ensures
    c.if-not-is_originator_size.true

pub overflow_cast-result : goal.overflow_cast-result
overflow_cast-result c =
    let a = c.args in
    let sound : sound_of a.table.now ≡ true = sym c.is_sound.ensures ∙ c.if-not-is_sound.false in
    omega (arith, gone-most a.table.now a.router.now _ sound c.renew.ensures.value)

pub returns : goal.returns
returns c =
    let a = c.args in
    restart-does (restart_by a.mark) a.table.now a.router.now _ _ _ (sym c.is_sound.ensures ∙ c.if-not-is_sound.false) c.is_originator_size.ensures
    c.if-not-is_originator_size.false c.renew.ensures.value c.renew.ensures.table_after
