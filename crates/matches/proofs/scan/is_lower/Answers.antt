-- `matches::scan::is_lower` meets its contract.
use borrow.Author.Rules.{rules}
use mathlib.Core.Path.{◌≡◌}
use mathlib.Core.List.{List}
use Prim.Native.Nat.{ℕ, ◌≤◌}
use native.Mathlib.Omega.{arith}
use lib.ListN.{length}
use Rattle.nlri.specs.Standing.{group_end}
use Rattle.places.specs.Readable.{nlri_at, Readable}
use Rattle.matches.proofs.Scans.{lower-is}
use Rattle.matches.proofs.scan.is_lower.Goals as goal

within-from : (s t : List ℕ) (at : ℕ) → s ≡ nlri_at t at → Readable t at → group_end s ≤ length s
within-from s t at same readable = rw same (omega (arith, readable.bounded.within))

pub distinguisher_in-requires : goal.distinguisher_in-requires
distinguisher_in-requires c = search (rules, within-from)

pub distinguisher_in-requires-2 : goal.distinguisher_in-requires-2
distinguisher_in-requires-2 c = search (rules, within-from)

pub returns : goal.returns
returns c = lower-is _ _ _ _ _ _ _ _ c.nlri_from.ensures c.nlri_from-2.ensures c.distinguisher_in.ensures c.distinguisher_in-2.ensures c.comes_before.ensures
