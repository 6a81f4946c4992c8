-- `tunnel::identifier::is_fec` meets its contract.
use Rattle.std.proofs.Common.{arith}
use Rattle.octets.proofs.Tests.{flags}
use Rattle.fec_elements.proofs.FecTypes.{octet-cast}
use Rattle.fec_elements.proofs.Wholes.{length-fec, short-whole}
use Rattle.tunnel.specs.Identifier.{is_identifier, one_of}
use Rattle.tunnel.proofs.identifier.is_fec.Goals as goal

pub bounds-identifier-0 : goal.bounds-identifier-0
bounds-identifier-0 c = omega (arith, length-fec c.args.identifier.now (search (flags, short-whole)))

pub returns-then-not-is_short : goal.returns-then-not-is_short
unfolding is_identifier one_of
returns-then-not-is_short c = search (flags, short-whole) depth 10

pub returns-then-fec_type-first : goal.returns-then-fec_type-first
unfolding is_identifier one_of
returns-then-fec_type-first c = rw (← octet-cast c.args.first) (search (flags, short-whole) depth 10)

pub returns-else-fec_type-first : goal.returns-else-fec_type-first
unfolding is_identifier one_of
returns-else-fec_type-first c = rw (← octet-cast c.args.first, ← octet-cast c.args.second) (search (flags, short-whole) depth 10)
