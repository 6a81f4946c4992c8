-- `matches::tier::Sought::best` meets its contract.
use Rattle.matches.proofs.Scans.{going-first, going_next, going-last}
use Rattle.matches.proofs.tier.Sought.best.Goals as goal

pub loop-index-init : goal.loop-index-init
loop-index-init c = going-first _ _ _ _

pub better-best-requires : goal.better-best-requires
better-best-requires c = record { readable = (c.requires.by_index _ c.loop-index-test.true, c.loop-index.invariant.kept); in_bounds = c.requires.in_bounds }

pub loop-index-preserved : goal.loop-index-preserved
loop-index-preserved c = going_next _ _ _ _ _ _ c.loop-index.invariant c.loop-index-test.true (c.requires.by_index _ c.loop-index-test.true) _ c.better-best.ensures

pub returns : goal.returns
returns c = going-last _ _ _ _ _ _ c.loop-index.invariant c.loop-index-test.false
