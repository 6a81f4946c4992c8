-- `matches::tier::Sought::best` meets its contract.
use Rattle.matches.specs.Scanning.{sought_in}
use Rattle.matches.proofs.Scans.{Going}
use Rattle.matches.proofs.tier.Sought.best.Given as goal

abbrev pub invariant-loop-index : goal.invariant-loop-index
invariant-loop-index l = Going (sought_in l.self) l.self.tiers l.places l.count l.best l.index
