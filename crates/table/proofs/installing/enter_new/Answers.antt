-- `table::installing::enter_new` meets its contract.
use borrow.Author.Rules.{rules}
use mathlib.Core.Path.{◌≡◌, subst}
use Prim.Native.Nat.{ℕ}
use native.Mathlib.Omega.{arith}
use Rattle.octets.proofs.AllOctets.{octets-of}
use Rattle.routes.specs.Route.{route}
use Rattle.routes.specs.Place.{place_of}
use Rattle.routes.specs.Table.{afi_in, routes_of}
use Rattle.routes.proofs.Statements.Images.{length-routes}
use Rattle.changes.specs.Changing.{added_at}
use Rattle.changes.proofs.Ranks.{rank_most}
use Rattle.places.proofs.Indexes.{header-within, places-within}
use Rattle.table.proofs.Installs.{route-fits, install-full, install-adds}
use Rattle.table.proofs.installing.enter_new.Goals as goal

pub count_of-count-requires : goal.count_of-count-requires
count_of-count-requires c = header-within c.args.table.now c.requires.table_value

pub places_of-requires : goal.places_of-requires
places_of-requires c = header-within c.args.table.now c.requires.table_value

pub returns-then-places_of-count : goal.returns-then-places_of-count
returns-then-places_of-count c =
    let a = c.args in
    let p = c.requires in
    install-full a.table.now a.nlri.now a.attribute.now a.index p.table_value p.attribute_value p.index_value p.table_value_2 (omega (arith, c.count_of-count.ensures.0, c.places_of.ensures))

pub add-requires : goal.add-requires
add-requires c =
    let a = c.args in
    let p = c.requires in
    let t = a.table.now in
    let k = c.count_of-count.ensures.0 in
    record { index_le_count = (omega (arith, p.index_value, rank_most a.nlri.now (routes_of t), length-routes t), places-within t _ p.table_value (omega (arith, c.places_of.ensures))); attribute_len_bound = route-fits (afi_in t) a.nlri.now a.attribute.now p.attribute_value }

pub returns : goal.returns
returns c =
    let a = c.args in
    let p = c.requires in
    let t = a.table.now in
    let n = c.count_of-count in
    let octets = octets-of t (λ i. search rules) in
    let added = subst (λ (count : ℕ). c.add.new.table ≡ added_at a.index count (place_of (route a.nlri.now a.attribute.now)) t) n.ensures.0 c.add.ensures in
    install-adds t a.nlri.now a.attribute.now c.add.new.table a.index octets p.table_value p.attribute_value p.index_value p.table_value_2 (omega (arith, n.ensures.0, c.places_of.ensures)) added
