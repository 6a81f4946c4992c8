-- `octets::blocks::place_blocks` meets its contract.
use borrow.Author.Rules.{rules}
use Rattle.octets.proofs.Copies.{placed-more, placed-none}
use Rattle.octets.proofs.blocks.place_blocks.Goals as goal

pub loop-i-init : goal.loop-i-init
loop-i-init c = (search rules, search rules, placed-none _ _ _)

pub loop-i-preserved : goal.loop-i-preserved
loop-i-preserved c =
    let l = c.loop-i in
    let a = c.args in
    (search rules, search rules, placed-more a.s.now a.output.now l.output _ a.at l.i 8 (search rules) (search rules) l.invariant.2 c.place_8.ensures)

pub returns : goal.returns
returns c = let l = c.loop-i in (search rules, (l.invariant.0, l.invariant.2))
