-- `octets::wide::eight` meets its contract: the number in four octets, and in the four after them.
use Rattle.octets.proofs.NetworkOrder.{number-then}
use borrow.Author.Rules.{rules}
use Rattle.octets.proofs.wide.eight.Goals as goal

pub returns : goal.returns
returns c =
    let a = c.args in
    rw (c.four.ensures, c.four-2.ensures) (number-then a.s.now a.at 4 4 (search rules))
