-- `matches::answer::answer` meets its contract.
use Rattle.std.proofs.Common.{subst, sym, List, ℕ}
use Rattle.places.specs.Writing.{RouteFits}
use Rattle.matches.proofs.Scans.{best-none-left, best-answerable, best-left}
use Rattle.matches.proofs.answer.answer.Goals as goal

pub returns-in_err-best : goal.returns-in_err-best
returns-in_err-best c = best-none-left _ _ _ _ c.in_err-best.was c.from_residual.ensures

pub between-requires : goal.between-requires
between-requires c = (best-answerable _ _ _ _ c.in_ok-best.was c.requires).0

pub write_route-sizes-requires : goal.write_route-sizes-requires
write_route-sizes-requires c = subst (λ (s : List ℕ). RouteFits s c.args.output.now) (sym c.between.ensures) (best-answerable _ _ _ _ c.in_ok-best.was c.requires).1

pub returns : goal.returns
returns c = best-left _ _ _ _ c.in_ok-best.was _ _ _ c.between.ensures c.write_route-sizes.ensures
