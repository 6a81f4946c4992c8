-- `places::header::is_family` meets its contract.
use Rattle.std.proofs.Common.{◌∙◌}
use Rattle.places.proofs.Judgements.{family-told}
use Rattle.places.proofs.header.is_family.Goals as goal

pub returns : goal.returns
returns c = c.is_ok.ensures.value ∙ family-told _ _ c.try_from.ensures
