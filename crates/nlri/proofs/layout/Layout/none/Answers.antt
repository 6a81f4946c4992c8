-- `nlri::layout::Layout::none` meets its contract.
use Rattle.std.proofs.Common.{refl}
use Rattle.nlri.specs.Layouts.{no_layout}
use Rattle.nlri.proofs.layout.Layout.none.Goals as goal

pub returns : goal.returns
unfolding no_layout
returns c = refl
