-- `matches::shared::open_tiers` meets its contract.
use Rattle.std.proofs.Common.{sym, ap, ◌∙◌}
use Rattle.matches.specs.Scanning.{tree_tiers}
use Rattle.matches.proofs.SharedMatches.{tiers-closed, tiers-open}
use Rattle.matches.proofs.shared.open_tiers.Goals.{then-eq, else-eq}
use Rattle.matches.proofs.shared.open_tiers.Goals as goal

pub returns : goal.returns
returns c afi prefixes none =
    elim c.if-eq.branch [
      | then-eq w ↦ tiers-open afi _ _ _ (sym c.eq.ensures ∙ w.if-eq.true) _ (w.is_open-is ∙ w.is_eligible-is_open.ensures afi prefixes none) c.of_tree.ensures
      | else-eq w ↦ tiers-closed afi _ _ _ (sym c.eq.ensures ∙ w.if-eq.false) (c.of_tree.ensures ∙ ap tree_tiers (w.is_open-is ∙ w.if-eq.false))
    ]
