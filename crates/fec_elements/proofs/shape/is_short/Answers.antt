-- `fec_elements::shape::is_short` meets its contract.
use Rattle.std.proofs.Common.{arith}
use Rattle.octets.proofs.Tests.{flags}
use Rattle.fec_elements.specs.Reading.{short_fec}
use Rattle.fec_elements.proofs.Shorts.{short-least, short-rooted, short-unrooted}
use Rattle.fec_elements.proofs.shape.is_short.Goals as goal
use Rattle.fec_elements.proofs.shape.is_short.Goals.{then-s-lt-LEAST-via-then-s-lt-LEAST, then-s-lt-LEAST-via-else-s-lt-LEAST+then-s-gt-MOST_SHORT}

pub returns-then-s-lt-LEAST : goal.returns-then-s-lt-LEAST
unfolding short_fec
returns-then-s-lt-LEAST c =
    elim c.then-s-lt-LEAST.branch [
      | then-s-lt-LEAST-via-then-s-lt-LEAST w ↦ short-least c.args.s.now w.if-s-lt-LEAST.true
      | then-s-lt-LEAST-via-else-s-lt-LEAST+then-s-gt-MOST_SHORT w ↦ let h = w.if-s-gt-MOST_SHORT.true in search flags
    ]

pub returns-in-Some : goal.returns-in-Some
returns-in-Some c = short-rooted c.args.s.now _ c.in-Some.ensures (omega arith) (omega arith) _ (rw c.opaque_start.ensures at c.ends_from.ensures)

pub returns-in-None : goal.returns-in-None
returns-in-None c = short-unrooted c.args.s.now c.in-None.ensures
