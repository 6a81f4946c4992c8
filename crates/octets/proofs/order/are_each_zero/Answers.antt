-- `octets::order::are_each_zero` meets its contract.
use mathlib.Core.Path.{◌≡◌}
use borrow.Author.Rules.{rules}
use Rattle.std.specs.List.{fold, zip}
use Rattle.std.proofs.lemmas.Iterator.{YieldsList-from_slice, YieldsList-from_zip}
use Rattle.std.proofs.lemmas.Iterator.Consumers.{fold_from_yields_List}
use Rattle.octets.proofs.Zeros.{or_pair, zeros-fold}
use Rattle.octets.proofs.order.are_each_zero.Goals as goal

pub returns : goal.returns
returns c =
    let s = c.args in
    let all : c.fold.result ≡ fold or_pair 0 (zip s.a.now s.b.now) =
    fold_from_yields_List _ or_pair 0 _ c.fold.ensures.ran (YieldsList-from_zip (YieldsList-from_slice s.a.now (cc)) (YieldsList-from_slice s.b.now (cc))) (λ a x b q k. search rules) in
    rw all (zeros-fold s.a.now s.b.now c.requires)
