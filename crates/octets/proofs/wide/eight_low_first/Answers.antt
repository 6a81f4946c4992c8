-- `octets::wide::eight_low_first` meets its contract: the number in four octets, and in the four after them.
use Rattle.octets.proofs.LowFirst.{low-then}
use borrow.Author.Rules.{rules}
use Rattle.octets.proofs.wide.eight_low_first.Goals as goal

pub returns : goal.returns
returns c =
    let a = c.args in
    rw (c.four_low_first.ensures, c.four_low_first-2.ensures) (low-then a.s.now a.at 4 4 (search rules))
