-- `lists::count_of` meets its contract.
use native.Mathlib.Omega.{arith}
use Rattle.octets.specs.Octets.{part}
use Rattle.octets.proofs.Tests.{tests}
use Rattle.lists.specs.LentLists.{front_number, list_count}
use Rattle.lists.proofs.count_of.Goals as goal

pub returns-then-list-lt-FIRST : goal.returns-then-list-lt-FIRST
unfolding list_count
returns-then-list-lt-FIRST c = record { value = search tests; upper_bound = omega arith }

pub returns : goal.returns
unfolding list_count front_number part
returns c = record { value = search tests; upper_bound = omega arith }
