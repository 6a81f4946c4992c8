-- `nlri::sure::is_surely_s_pmsi` meets its contract.
use Rattle.std.proofs.Common.{◌+◌, ◌/◌, get_or, refl, arith}
use Rattle.octets.proofs.Choice.{opposite}
use Rattle.nlri.proofs.Functions.Sure.{s-pmsi-sure}
use Rattle.std.proofs.Common.{sym, ◌∙◌}
use Rattle.nlri.proofs.sure.is_surely_s_pmsi.Goals as goal

pub returns-then-not-is_allowed : goal.returns-then-not-is_allowed
returns-then-not-is_allowed c t = absurd (opposite t refl)

pub overflow_add-at : goal.overflow_add-at
overflow_add-at c = omega (arith, c.type_inv.s 10)

pub bounds-s-at : goal.bounds-s-at
bounds-s-at c = omega (arith, c.type_inv.s 10, c.requires)

pub returns-then-not-is_allowed-2 : goal.returns-then-not-is_allowed-2
returns-then-not-is_allowed-2 c t = absurd (opposite t refl)

pub overflow_add-at-2 : goal.overflow_add-at-2
overflow_add-at-2 c = omega (arith, c.type_inv.s 10, c.type_inv.s (11 + get_or c.args.s.now 10 0 / 8))

pub is_originator_from-requires : goal.is_originator_from-requires
is_originator_from-requires c = omega (arith, c.type_inv.s 10, c.type_inv.s (11 + get_or c.args.s.now 10 0 / 8))

pub returns : goal.returns
returns c t =
    let s = c.args.s.now in
    s-pmsi-sure _ _ c.requires _ _ refl refl (omega (arith, c.type_inv.s 10)) (omega (arith, c.type_inv.s (11 + get_or s 10 0 / 8)))
    (sym c.is_allowed.ensures ∙ c.if-not-is_allowed.false) (sym c.is_allowed-2.ensures ∙ c.if-not-is_allowed-2.false) (c.is_originator_from.ensures t)
