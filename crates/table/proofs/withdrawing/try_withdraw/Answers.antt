-- `table::withdrawing::try_withdraw` meets its contract.
use Prim.Native.Nat.{ℕ}
use mathlib.Core.Path.{sym, ap, ◌∙◌}
use Rattle.octets.specs.Outcome.{number_of}
use Rattle.octets.proofs.Refusals.{refusal_number-not_done, passed_on}
use Rattle.routes.specs.Arguments.{read_s_pmsi}
use Rattle.places.proofs.Indexes.{header-within}
use Rattle.table.proofs.Installs.{leaves-as}
use Rattle.table.proofs.Withdraws.{withdraw-unsound, withdraw-faulty}
use Rattle.table.proofs.withdrawing.try_withdraw.Goals as goal

pub returns-then-not-is_sound : goal.returns-then-not-is_sound
returns-then-not-is_sound c = withdraw-unsound _ _ (sym c.is_sound.ensures ∙ c.if-not-is_sound.true)

pub afi_of-requires : goal.afi_of-requires
afi_of-requires c = header-within _ (sym c.is_sound.ensures ∙ c.if-not-is_sound.false)

pub returns-in_err-check_s_pmsi : goal.returns-in_err-check_s_pmsi
returns-in_err-check_s_pmsi c =
    let fault = c.in_err-check_s_pmsi.ensures ∙ ap (λ (afi : ℕ). number_of (read_s_pmsi afi c.args.nlri.now)) c.afi_of.ensures.0 in
    leaves-as (passed_on _ _ c.from_residual.ensures.1)
    (withdraw-faulty _ _ _ (sym c.is_sound.ensures ∙ c.if-not-is_sound.false) fault (refusal_number-not_done _))
