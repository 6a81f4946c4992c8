-- `salvage::salvaging::enter_place` meets its contract.
use native.Mathlib.Omega.{arith}
use borrow.Author.Rules.{rules}
use Rattle.octets.proofs.AllOctets.{octets-of}
use Rattle.routes.specs.Table.{afi_in, routes_of}
use Rattle.routes.proofs.Statements.Images.{length-routes}
use Rattle.changes.proofs.Ranks.{rank_most}
use Rattle.places.proofs.Indexes.{header-within, places-within}
use Rattle.salvage.proofs.Salvages.{good-end, place-repeats, place-enters}
use Rattle.salvage.proofs.salvaging.enter_place.Goals as goal

pub nlri_in-requires : goal.nlri_in-requires
nlri_in-requires c = good-end (afi_in c.args.table.now) c.args.place.now c.requires.place_len.0 c.requires.place_len.1

pub returns-in-Ok : goal.returns-in-Ok
returns-in-Ok c =
    let a = c.args in
    let stands = c.in-Ok.ensures in
    let both = place-repeats a.table.now a.place.now _ _ c.requires.table_value.0 c.nlri_in.ensures stands.0 stands.1 in
    record { value = both.0; table_after = both.1 }

pub count_of-count-requires : goal.count_of-count-requires
count_of-count-requires c = header-within c.args.table.now c.requires.table_value.0

pub add_place-requires : goal.add_place-requires
add_place-requires c =
    let p = c.requires in
    let t = c.args.table.now in
    let k = c.count_of-count.ensures.0 in
    let belongs = c.in-Err.ensures in
    record { index_le_count = (omega (arith, k, belongs.0, rank_most c.nlri_in.result.now (routes_of t), length-routes t), places-within t _ p.table_value.0 (omega (arith, k, p.table_value.1))); place_len = p.place_len.0 }

pub returns-in-Err : goal.returns-in-Err
returns-in-Err c =
    let a = c.args in
    let p = c.requires in
    let t = a.table.now in
    let octets = octets-of t (λ i. search rules) in
    let belongs = c.in-Err.ensures in
    let both = place-enters t a.place.now _ _ p.table_value.0 c.nlri_in.ensures belongs.0
    _ _ octets p.place_len.0 p.place_len.1 c.count_of-count.ensures.0 p.table_value.1 belongs.1 c.add_place.ensures in
    record { value = both.0; table_after = both.1 }
