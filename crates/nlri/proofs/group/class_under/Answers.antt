-- `nlri::group::class_under` meets its contract.
use Rattle.std.proofs.Common.{◌≡◌, ℕ, length, ◌∙◌, subst}
use Rattle.octets.proofs.Tests.{refusals}
use Rattle.nlri.specs.Groups.{class_under}
use Rattle.nlri.proofs.group.class_under.Goals as goal

pub returns-then-group-octets : goal.returns-then-group-octets
unfolding class_under
returns-then-group-octets c =
    let other = subst (λ (n : ℕ). length c.args.group.now ≡ n → ⊥) c.octets.ensures c.if-group-octets.true in
    search refusals

pub returns-then-not-is_multicast : goal.returns-then-not-is_multicast
unfolding class_under
returns-then-not-is_multicast c =
    let sized = c.if-group-octets.false ∙ c.octets.ensures in
    search refusals

pub returns-then-is_source_specific : goal.returns-then-is_source_specific
unfolding class_under
returns-then-is_source_specific c =
    let sized = c.if-group-octets.false ∙ c.octets.ensures in
    search refusals

pub returns : goal.returns
unfolding class_under
returns c =
    let sized = c.if-group-octets.false ∙ c.octets.ensures in
    search refusals
