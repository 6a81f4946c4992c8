-- `pieces::reading::share` meets its contract.
use mathlib.Core.Path.{◌∙◌, ap}
use Prim.Native.Nat.{min}
use native.Mathlib.Omega.{arith}
use Rattle.pieces.proofs.Functions.{share-least}
use Rattle.pieces.proofs.reading.share.Goals as goal

pub returns : goal.returns
returns c =
    let a = c.args in
    (c.min.ensures ∙ ap (λ n. min n a.size) c.saturating_sub.ensures ∙ share-least a.wanted a.kept a.size, omega arith, omega arith)
