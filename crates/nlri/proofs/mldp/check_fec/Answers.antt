-- `nlri::mldp::check_fec` meets its contract.
use Rattle.octets.proofs.Refusals.{refusal_number-not_done}
use Rattle.std.proofs.Common.{refl, List, ◌≡◌, ℕ, ◌-◌, [], length, ap, ◌∙◌, arith}
use Rattle.octets.specs.Outcome.{number_of}
use Rattle.fec_elements.specs.declared.Standing.TheVariants.{InBody}
use Rattle.fec_elements.specs.Reading.{read_fec}
use Rattle.nlri.specs.Family.{root_family}
use Rattle.nlri.proofs.Functions.Ends.{left-fec-past, left-fec-bad, left-fec-good, fec-left}
use Rattle.nlri.proofs.mldp.check_fec.Goals as goal

-- the number of a FEC, by the family of the kind
of-root-family : (bits family n : ℕ) (s : List ℕ) → n ≡ number_of (read_fec (InBody family) s) → family ≡ root_family bits → n ≡ number_of (read_fec (InBody (root_family bits)) s)
of-root-family bits family n s e is = e ∙ ap (λ (f : ℕ). number_of (read_fec (InBody f) s)) is

pub returns-then-s-at : goal.returns-then-s-at
returns-then-s-at c = left-fec-past _ _ _ _ _ c.if-s-at.true

pub returns-in-Err : goal.returns-in-Err
returns-in-Err c = left-fec-bad _ _ _ _ _ c.if-s-at.false _ c.after-rest.ensures _ (of-root-family _ _ _ _ c.in-Err.ensures c.root_family.ensures) (refusal_number-not_done _)

pub fec_size-requires : goal.fec_size-requires
fec_size-requires c = (fec-left _ c.args.route_type [] _ _ c.if-s-at.false _ c.after-rest.ensures _ (of-root-family _ _ _ _ c.in-Ok.ensures c.root_family.ensures) refl).1

pub overflow_sub-rest : goal.overflow_sub-rest
overflow_sub-rest c = omega (arith, (fec-left _ c.args.route_type [] _ _ c.if-s-at.false _ c.after-rest.ensures _ (of-root-family _ _ _ _ c.in-Ok.ensures c.root_family.ensures) refl).0, c.fec_size.ensures)

pub returns-in-Ok : goal.returns-in-Ok
returns-in-Ok c =
    let rest = c.after-rest.result.now in
    left-fec-good _ _ _ _ _ c.if-s-at.false _ c.after-rest.ensures _ (of-root-family _ _ _ _ c.in-Ok.ensures c.root_family.ensures) refl _ _
    (ap (λ (n : ℕ). length rest - n) c.fec_size.ensures) (λ at e. c.check_fec_end.ensures _ at _ e)
