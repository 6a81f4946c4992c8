-- `table::withdrawing::leave` meets its contract.
use borrow.Author.Rules.{rules}
use Prim.Native.Nat.{ℕ}
use mathlib.Core.Path.{◌≡◌, subst}
use native.Mathlib.Omega.{arith}
use Rattle.octets.proofs.AllOctets.{octets-of}
use Rattle.routes.proofs.Statements.Images.{sound}
use Rattle.changes.specs.Changing.{taken_at}
use Rattle.places.proofs.Indexes.{header-within, places-within}
use Rattle.changes.proofs.Finds.{held-within}
use Rattle.table.proofs.Withdraws.{withdraw-absent, withdraw-takes}
use Rattle.table.proofs.withdrawing.leave.Goals as goal

pub count_of-count-requires : goal.count_of-count-requires
count_of-count-requires c = header-within c.args.table.now c.requires.table_value

pub returns-in-Err : goal.returns-in-Err
returns-in-Err c =
    let p = c.requires in
    let belongs = c.in-Err.ensures in
    withdraw-absent _ _ _ p.table_value p.nlri_value belongs.0 belongs.1

pub remove-requires : goal.remove-requires
remove-requires c =
    let p = c.requires in
    let t = c.args.table.now in
    let n = c.count_of-count.ensures.0 in
    let stands = c.in-Ok.ensures in
    (omega (arith, n, held-within t _ _ p.table_value stands.1), places-within t _ p.table_value (omega (arith, n, (sound t p.table_value).within)))

pub returns-in-Ok : goal.returns-in-Ok
returns-in-Ok c =
    let p = c.requires in
    let t = c.args.table.now in
    let n = c.count_of-count in
    let octets = octets-of t (λ i. search rules) in
    let stands = c.in-Ok.ensures in
    let taken = subst (λ (count : ℕ). c.remove.new.table ≡ taken_at c.in-Ok.index count t) n.ensures.0 c.remove.ensures in
    withdraw-takes t _ _ _ octets p.table_value p.nlri_value stands.0 stands.1 taken
