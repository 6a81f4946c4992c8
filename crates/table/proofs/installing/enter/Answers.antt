-- `table::installing::enter` meets its contract.
use borrow.Author.Rules.{rules}
use native.Mathlib.Omega.{arith}
use Rattle.octets.proofs.AllOctets.{octets-of}
use Rattle.routes.specs.Table.{afi_in}
use Rattle.places.proofs.Indexes.{place-within}
use Rattle.changes.proofs.Finds.{held-within}
use Rattle.table.proofs.Installs.{route-fits, install-replaces}
use Rattle.table.proofs.installing.enter.Goals as goal

pub replace-requires : goal.replace-requires
replace-requires c =
    let a = c.args in
    let p = c.requires in
    let t = a.table.now in
    let stands = c.in-Ok.ensures in
    record { index_in_bounds = omega (arith, place-within t _ p.table_value (held-within t _ _ p.table_value stands.1)); attribute_len_bound = route-fits (afi_in t) a.nlri.now a.attribute.now p.attribute_value }

pub returns-in-Ok : goal.returns-in-Ok
returns-in-Ok c =
    let p = c.requires in
    let t = c.args.table.now in
    let octets = octets-of t (λ i. search rules) in
    let stands = c.in-Ok.ensures in
    install-replaces t _ _ _ _ octets p.table_value p.attribute_value stands.0 stands.1 c.replace.ensures
