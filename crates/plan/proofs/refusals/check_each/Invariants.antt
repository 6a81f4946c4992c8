-- `plan::refusals::check_each` meets its contract.
use Prim.Native.Nat.{ℕ}
use mathlib.Core.Path.{◌≡◌}
use Rattle.std.specs.Fn.{FnReturnsAt}
use Rattle.plan.specs.Flows.{ListedFlow}
use Rattle.plan.specs.Refusing.{first_flow_fault}
use Rattle.plan.specs.Inner.{Judges}
use Rattle.plan.proofs.refusals.check_each.Given as goal

abbrev pub invariant-loop-flow : goal.invariant-loop-flow
invariant-loop-flow g l = (fault : ListedFlow → ℕ) → Judges (FnReturnsAt g.T.Fn l.test) fault → first_flow_fault fault l.flows ≡ first_flow_fault fault l.flow-iterator
