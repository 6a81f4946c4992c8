-- `octets::wide::two_low_first` meets its contract: each octet is below 256, so that the number fits.
use Prim.Native.Nat.{◌+◌}
use native.Mathlib.Omega.{arith}
use Rattle.octets.proofs.LowFirst.{low-two}
use borrow.Author.Rules.{rules}
use Rattle.octets.proofs.wide.two_low_first.Goals as goal

pub overflow_cast-result : goal.overflow_cast-result
overflow_cast-result c = omega (arith, c.shared_slice_known-1.given c.args.at)

pub overflow_cast-result-2 : goal.overflow_cast-result-2
overflow_cast-result-2 c = omega (arith, c.shared_slice_known-2-1.given (c.args.at + 1))

pub overflow_mul-result : goal.overflow_mul-result
overflow_mul-result c = omega (arith, c.shared_slice_known-2-1.given (c.args.at + 1))

pub overflow_add-result-2 : goal.overflow_add-result-2
overflow_add-result-2 c = omega (arith, c.shared_slice_known-1.given c.args.at, c.shared_slice_known-2-1.given (c.args.at + 1))

pub returns : goal.returns
returns c =
    let a = c.args in
    (low-two a.s.now a.at (search rules), omega (arith, c.shared_slice_known-1.given a.at, c.shared_slice_known-2-1.given (a.at + 1)))
