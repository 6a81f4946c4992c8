-- `groups::class::class_of_family` meets its contract.
use Rattle.std.proofs.Common.{◌∙◌}
use Rattle.nlri.proofs.Functions.Via.{class_passed_on}
use Rattle.groups.proofs.Classes.{class-prefixes, class-flow, class-standard, class-told}
use Rattle.groups.proofs.class.class_of_family.Goals as goal

pub returns-in_err-by_prefixes : goal.returns-in_err-by_prefixes
returns-in_err-by_prefixes c = class_passed_on _ _ c.from_residual.ensures.1 ∙ class-prefixes _ _ c.requires _ _ _ c.in_err-by_prefixes.ensures

pub returns-in_err-standard : goal.returns-in_err-standard
returns-in_err-standard c = class_passed_on _ _ c.from_residual-in_err-standard.ensures.1 ∙ class-flow _ _ c.requires _ _ _ c.in_ok-by_prefixes.ensures _ c.in_err-standard.ensures

pub returns-then-count_of-eq0 : goal.returns-then-count_of-eq0
returns-then-count_of-eq0 c =
    class-standard _ _ c.requires _ _ _ c.in_ok-by_prefixes.ensures _ c.in_ok-standard.ensures _ c.count_of.ensures.value c.if-count_of-eq0.true

pub returns : goal.returns
returns c =
    class-told _ _ c.requires _ _ _ c.in_ok-by_prefixes.ensures _ c.in_ok-standard.ensures _ c.count_of.ensures.value c.if-count_of-eq0.false
