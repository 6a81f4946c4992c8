-- `groups::prefix::is_good` meets its contract.
use native.Mathlib.Omega.{arith}
use mathlib.Core.Path.{refl}
use Rattle.groups.proofs.Functions.{prefix-none, prefix-other, prefix-over, prefix-last}
use Rattle.groups.proofs.prefix.is_good.Goals as goal

pub returns-then-prefix-eq0 : goal.returns-then-prefix-eq0
returns-then-prefix-eq0 c = prefix-none _ _ c.if-prefix-eq0.true

pub returns-then-address-size : goal.returns-then-address-size
returns-then-address-size c = prefix-other _ _ _ c.after-address.ensures c.if-prefix-eq0.false c.if-address-size.true

pub overflow_cast-bits : goal.overflow_cast-bits
overflow_cast-bits c = omega (arith, c.type_inv.prefix 0)

pub overflow_add-bits : goal.overflow_add-bits
overflow_add-bits c = omega (arith, c.type_inv.prefix 0)

pub returns-then-size-bits : goal.returns-then-size-bits
returns-then-size-bits c = prefix-over _ _ _ c.after-address.ensures c.if-prefix-eq0.false c.if-address-size.false _ refl c.if-size-bits.true

pub returns : goal.returns
returns c = prefix-last _ _ _ c.after-address.ensures c.if-prefix-eq0.false c.if-address-size.false _ refl c.if-size-bits.false _ c.is_clear_past.ensures
