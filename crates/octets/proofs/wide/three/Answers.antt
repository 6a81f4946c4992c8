-- `octets::wide::three` meets its contract: the number in two octets, and one octet more.
use Prim.Native.Nat.{◌+◌}
use mathlib.Core.Path.{sym}
use native.Mathlib.Omega.{arith}
use Rattle.octets.proofs.NetworkOrder.{number-part}
use borrow.Author.Rules.{rules}
use Rattle.octets.proofs.wide.three.Goals as goal

pub overflow_cast-result : goal.overflow_cast-result
overflow_cast-result c = omega (arith, c.shared_slice_known-2-1.given (c.args.at + 2))

pub overflow_add-result-2 : goal.overflow_add-result-2
overflow_add-result-2 c = omega (arith, c.shared_slice_known-2-1.given (c.args.at + 2))

pub returns : goal.returns
returns c =
    let a = c.args in
    record { value = rw c.two.ensures.value (sym (number-part a.s.now a.at 2 (search rules))); upper_bound = omega (arith, c.shared_slice_known-2-1.given (a.at + 2)) }
