-- `salvage::salvaging::look_at_all` meets its contract: place by place, table and list are those of the places looked at.
use Prim.Native.Nat.{ℕ, ◌<◌}
use mathlib.Core.Path.{◌≡◌, refl, sym, ap, subst, ◌∙◌}
use native.Mathlib.Omega.{arith}
use lib.ListN.{length}
use Rattle.octets.proofs.Lists.{length_part}
use Rattle.routes.specs.Table.{places_in}
use Rattle.routes.proofs.Definitions.Headers.{sound-size}
use Rattle.salvage.specs.Salvaging.{Upto}
use Rattle.salvage.proofs.Salvages.{table-size, list-size, upto-first, upto-table, upto-within, upto-enlists, upto-keeps, upto-drops, drop_octet-not_0}
use Rattle.salvage.proofs.salvaging.look_at_all.Goals as goal
use Rattle.salvage.proofs.salvaging.look_at_all.Goals.{in-Some, in_default}

pub places_of-places-requires : goal.places_of-places-requires
places_of-places-requires c = let z = (sound-size c.args.damaged.now c.requires.ready.size).is in omega arith

pub loop-number-init : goal.loop-number-init
loop-number-init c = upto-first _ _ _ _ c.requires.table_value

pub place_at-requires : goal.place_at-requires
place_at-requires c =
    let l = c.loop-number in
    upto-within _ _ _ _ _ _ _ c.requires.ready l.invariant (omega (arith, c.loop-number-test.true, c.places_of-places.ensures))

pub look_at-requires : goal.look_at-requires
look_at-requires c =
    let l = c.loop-number in
    let h : l.number < places_in c.args.damaged.now = omega (arith, c.loop-number-test.true, c.places_of-places.ensures) in
    record { table_value = upto-table _ _ _ _ _ _ _ c.requires.ready l.invariant h; place_len = ap length c.place_at.ensures ∙ length_part _ _ 128 (upto-within _ _ _ _ _ _ _ c.requires.ready l.invariant h) }

pub enlist-requires : goal.enlist-requires
enlist-requires c =
    let l = c.loop-number in
    upto-enlists _ _ _ _ _ _ _ c.requires.ready l.invariant (omega (arith, c.loop-number-test.true, c.places_of-places.ensures))

pub overflow_add-count : goal.overflow_add-count
overflow_add-count c =
    let l = c.loop-number in
    let room = upto-enlists _ _ _ _ _ _ _ c.requires.ready l.invariant (omega (arith, c.loop-number-test.true, c.places_of-places.ensures)) in
    omega arith

pub loop-number-preserved : goal.loop-number-preserved
loop-number-preserved c =
    let l = c.loop-number in
    let h : l.number < places_in c.args.damaged.now = omega (arith, c.loop-number-test.true, c.places_of-places.ensures) in
    elim c.match-look_at.branch [
      | in-Some w ↦
          let told = w.in-Some.ensures in
          rw (w.count-is, w.list-is) (upto-drops _ _ _ _ _ _ _ c.requires.ready l.invariant h _ _ _ c.place_at.ensures told.value told.table_after (drop_octet-not_0 _) _ w.enlist.ensures)
      | in_default w ↦
          let told = w.in_default.ensures in
          rw (w.count-is, w.list-is) (upto-keeps _ _ _ _ _ _ _ c.requires.ready l.invariant h _ _ _ c.place_at.ensures told.value told.table_after refl)
    ]

pub shape_of-table : goal.shape_of-table
shape_of-table c =
    let l = c.loop-number in
    let a = c.args in
    let p = c.requires in
    table-size _ _ _ _ _ _ _ p.ready l.invariant (omega (arith, c.places_of-places.ensures))
    ∙ sym (table-size a.afi a.damaged.now a.list.now 0 a.table.now a.list.now 0 p.ready (upto-first _ _ _ _ p.table_value) (omega arith))

pub shape_of-list : goal.shape_of-list
shape_of-list c =
    let l = c.loop-number in
    list-size _ _ _ _ _ _ _ c.requires.ready l.invariant (omega (arith, c.places_of-places.ensures))

pub returns : goal.returns
returns c =
    let l = c.loop-number in
    let a = c.args in
    let e : l.number ≡ places_in a.damaged.now = omega (arith, c.loop-number-test.false, c.places_of-places.ensures) in
    subst (λ (n : ℕ). Upto a.afi a.damaged.now a.list.now n l.table l.list l.count) e l.invariant
