-- `nlri::read::group_in` meets its contract.
use Rattle.std.proofs.Common.{◌≡◌, ℕ, ◌+◌, ◌/◌, List, get_or, ap, ◌∙◌, arith}
use Rattle.nlri.specs.Inner.{size_at, body_group}
use Rattle.octets.specs.Octets.{part}
use Rattle.nlri.proofs.read.group_in.Goals as goal

pub bounds-s-8 : goal.bounds-s-8
bounds-s-8 c = omega (arith, c.requires.group)

pub overflow_add-at : goal.overflow_add-at
overflow_add-at c = omega (arith, c.type_inv.s 8)

pub overflow_add-at-2 : goal.overflow_add-at-2
overflow_add-at-2 c = omega (arith, c.type_inv.s 8)

pub bounds-s-at : goal.bounds-s-at
unfolding size_at
bounds-s-at c = omega (arith, c.requires.group)

pub between-requires : goal.between-requires
unfolding size_at
between-requires c = omega (arith, c.requires.sizes)

pub returns : goal.returns
unfolding body_group size_at
returns c =
    let s : List ℕ = c.args.s.now in
    let at : 9 + get_or s 8 0 / 8 + 1 ≡ 10 + get_or s 8 0 / 8 = omega arith in
    c.between.ensures ∙ ap (λ (k : ℕ). part s k (get_or s (9 + get_or s 8 0 / 8) 0 / 8)) at
