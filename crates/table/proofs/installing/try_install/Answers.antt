-- `table::installing::try_install` meets its contract.
use Prim.Native.Nat.{ℕ}
use mathlib.Core.Path.{sym, ap, ◌∙◌}
use Rattle.octets.specs.Outcome.{number_of}
use Rattle.octets.proofs.Refusals.{refusal_number-not_done}
use Rattle.routes.specs.Arguments.{read_route}
use Rattle.places.proofs.Indexes.{header-within}
use Rattle.table.proofs.Installs.{leaves-as, passed_on-install, install-unsound, install-faulty}
use Rattle.table.proofs.installing.try_install.Goals as goal

pub returns-then-not-is_sound : goal.returns-then-not-is_sound
returns-then-not-is_sound c = install-unsound _ _ _ (sym c.is_sound.ensures ∙ c.if-not-is_sound.true)

pub afi_of-requires : goal.afi_of-requires
afi_of-requires c = header-within _ (sym c.is_sound.ensures ∙ c.if-not-is_sound.false)

pub returns-in_err-check_route : goal.returns-in_err-check_route
returns-in_err-check_route c =
    let fault = c.in_err-check_route.ensures ∙ ap (λ (afi : ℕ). number_of (read_route afi c.args.nlri.now c.args.attribute.now)) c.afi_of.ensures.0 in
    leaves-as (passed_on-install _ _ c.from_residual.ensures.1)
    (install-faulty _ _ _ _ (sym c.is_sound.ensures ∙ c.if-not-is_sound.false) fault (refusal_number-not_done _))
