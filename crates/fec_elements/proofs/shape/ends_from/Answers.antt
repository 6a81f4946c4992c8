-- `fec_elements::shape::ends_from` meets its contract.
use borrow.Author.Rules.{rules}
use Rattle.octets.proofs.Tests.{flags}
use Rattle.octets.proofs.AllOctets.{octets-of}
use Rattle.fec_elements.specs.Inner.{ends_from}
use Rattle.fec_elements.proofs.Shorts.{ends_low}
use Rattle.fec_elements.proofs.shape.ends_from.Goals as goal

pub returns-then-s-start : goal.returns-then-s-start
unfolding ends_from
returns-then-s-start c = search flags

pub returns : goal.returns
returns c =
    let a = c.args in
    ends_low (octets-of a.s.now (λ k. (c.type_inv.s k).fits)) a.start _ (search rules) (search rules) (search rules) c.two_low_first.ensures.0
