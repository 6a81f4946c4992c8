-- `nlri::read::check_front` meets its contract.
use Rattle.octets.proofs.Refusals.{passed_on}
use Rattle.std.proofs.Common.{sym, ◌≡◌, ℕ, ◌-◌, List, length, take, drop, ap, ◌∙◌, arith}
use Rattle.octets.specs.Outcome.{Outcome}
use Rattle.nlri.specs.Inner.{header_at, accepted_fault}
use Rattle.nlri.proofs.Definitions.Sizes.{header-within}
use Rattle.nlri.proofs.Functions.Discards.{accepted-typed, step-unread}
use Rattle.octets.proofs.Lists.{lent-part, lent-whole}
use Rattle.nlri.proofs.read.check_front.Goals as goal

-- what is told of the header, of the octets lent whole
headed : (s : List ℕ) (told : Outcome (ℕ × ℕ)) → told ≡ header_at (take (length s - 0) (drop 0 s)) → told ≡ header_at s
headed s told e = e ∙ ap header_at (lent-whole s)

pub returns-in_err-header : goal.returns-in_err-header
returns-in_err-header c = passed_on _ _ c.from_residual.ensures.1 ∙ step-unread _ _ _ (sym (headed _ _ c.in_err-header.ensures))

pub overflow_add-header : goal.overflow_add-header
overflow_add-header c = omega (arith, header-within _ _ _ (sym (headed _ _ c.in_ok-header.ensures)))

pub slice_bounds-check_body-end : goal.slice_bounds-check_body-end
slice_bounds-check_body-end c = header-within _ _ _ (sym (headed _ _ c.in_ok-header.ensures))

pub returns : goal.returns
returns c =
    let a = c.args in
    let header = c.in_ok-header.header in
    c.check_body.ensures ∙ ap (λ (x : List ℕ). accepted_fault a.kind.bits header.route_type x) (lent-part 2 header.length a.s.now)
    ∙ accepted-typed _ _ _ _ (sym (headed _ _ c.in_ok-header.ensures))
