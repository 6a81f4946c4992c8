-- `nlri::family::family_of` meets its contract.
use Rattle.std.proofs.Common.{ap, sym, ◌∙◌, ne_eqb}
use Rattle.octets.specs.Choice.{pick}
use Rattle.octets.specs.Outcome.{given, refused}
use Rattle.octets.specs.Refusals.{refusal_number}
use Rattle.octets.specs.declared.refusal.Refusal.{Refusal}
use Rattle.octets.proofs.Choice.{pick-false}
use Rattle.nlri.specs.Family.{afi_of, family_bits}
use Rattle.nlri.proofs.Functions.Via.{family_passed_on}
use Rattle.nlri.proofs.family.family_of.Goals as goal

pub returns-in_err-try_from : goal.returns-in_err-try_from
unfolding family_bits
returns-in_err-try_from c =
    let why = c.in_err-try_from.ensures in
    family_passed_on _ _ c.from_residual.ensures.1 ∙ ap (λ (x : Refusal). refused (refusal_number x)) why.0 ∙ sym (pick-false _ _ _ (ne_eqb _ 1 why.1.0) ∙ pick-false _ _ _ (ne_eqb _ 2 why.1.1))

pub returns-in-Ipv4 : goal.returns-in-Ipv4
unfolding family_bits pick
returns-in-Ipv4 c = ap given c.ipv4.ensures ∙ ap family_bits (sym (ap afi_of c.in-Ipv4.is) ∙ c.in_ok-try_from.ensures)

pub returns-in-Ipv6 : goal.returns-in-Ipv6
unfolding family_bits pick
returns-in-Ipv6 c = ap given c.ipv6.ensures ∙ ap family_bits (sym (ap afi_of c.in-Ipv6.is) ∙ c.in_ok-try_from.ensures)
