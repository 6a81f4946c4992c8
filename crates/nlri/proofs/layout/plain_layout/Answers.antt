-- `nlri::layout::plain_layout` meets its contract.
use Rattle.std.proofs.Common.{refl}
use Rattle.nlri.specs.Inner.{layout_with}
use Rattle.nlri.proofs.layout.plain_layout.Goals as goal

pub returns : goal.returns
unfolding layout_with
returns c = refl
