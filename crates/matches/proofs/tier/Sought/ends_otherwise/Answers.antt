-- `matches::tier::Sought::ends_otherwise` meets its contract.
use mathlib.Core.Path.{ap}
use borrow.Author.Tests.{eq-eqb}
use Rattle.octets.proofs.Choice.{opposite}
use Rattle.matches.proofs.Tiers.{other-end}
use Rattle.std.proofs.Common.{not}
use Rattle.matches.proofs.tier.Sought.ends_otherwise.Goals as goal

pub returns : goal.returns
returns c h = other-end _ _ _ _ c.requires.0 c.four_low_first.ensures c.four_low_first-2.ensures (λ e. opposite h (ap not (eq-eqb _ _ e)))
