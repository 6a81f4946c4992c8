-- `matches::matching::find` meets its contract.
use Rattle.std.proofs.Common.{refl, ◌∙◌}
use Rattle.matches.proofs.Matches.{told-refused, taken-some, taken-search}
use Rattle.matches.proofs.matching.find.Goals as goal

pub returns-in_err-sought : goal.returns-in_err-sought
returns-in_err-sought c = let m = c.in_err-sought.ensures _ refl in (told-refused _ _ c.from_residual.ensures.1 ∙ m.0, m.1)

pub search-requires : goal.search-requires
search-requires c = let t = c.in_ok-sought.ensures in let some = taken-some _ _ _ _ t in (t.sound, t.roomy, some.0, some.1, some.2)

pub returns : goal.returns
returns c = taken-search _ _ _ _ c.in_ok-sought.ensures _ refl _ _ c.search.ensures
