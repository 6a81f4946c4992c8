-- `table::restarting::renew` meets its contract.
use borrow.Author.Rules.{rules}
use Rattle.octets.proofs.AllOctets.{octets-of}
use Rattle.places.proofs.Indexes.{header-within}
use Rattle.table.proofs.RenewCalls.{turn-close, turned}
use Rattle.table.proofs.restarting.renew.Goals as goal

pub afi_of-afi-requires : goal.afi_of-afi-requires
afi_of-afi-requires c = header-within _ c.requires

pub count_of-count-requires : goal.count_of-count-requires
count_of-count-requires c = header-within _ c.requires

pub close_from-requires : goal.close_from-requires
close_from-requires c =
    let a = c.args in
    let p = c.requires in
    let n = c.count_of-count in
    let r = turn-close a.mark a.router.now a.table.now p n.result n.ensures.0 _ _ c.pass-to.ensures in
    (c.afi_of-afi.ensures.1, r.0, r.1, r.2, r.3)

pub returns : goal.returns
returns c =
    let a = c.args in
    let p = c.requires in
    let n = c.count_of-count in
    let octets = octets-of a.table.now
    (λ i. search rules) in
    let both = turned a.mark a.router.now a.table.now p n.result n.ensures.0 octets _ _ _ _ _
    c.afi_of-afi.ensures.0
    c.pass-to.ensures c.close_from.ensures.value c.close_from.ensures.table_after in
    record { value = both.0; table_after = both.1 }
