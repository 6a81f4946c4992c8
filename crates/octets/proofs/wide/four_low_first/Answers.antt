-- `octets::wide::four_low_first` meets its contract: the number in two octets, and in the two after them.
use Rattle.octets.proofs.LowFirst.{low-then}
use borrow.Author.Rules.{rules}
use Rattle.octets.proofs.wide.four_low_first.Goals as goal

pub returns : goal.returns
returns c =
    let a = c.args in
    rw (c.two_low_first.ensures.0, c.two_low_first-2.ensures.0) (low-then a.s.now a.at 2 2 (search rules))
