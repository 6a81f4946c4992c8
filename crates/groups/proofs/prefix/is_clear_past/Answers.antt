-- `groups::prefix::is_clear_past` meets its contract.
use Rattle.octets.proofs.AllOctets.{octets-of}
use Rattle.groups.proofs.Bits.{bits_none}
use Rattle.groups.proofs.Functions.{clear-off, clear-last}
use Rattle.std.proofs.Common.{not}
use Rattle.std.proofs.Common.{ap}
use Rattle.groups.proofs.prefix.is_clear_past.Goals as goal

pub returns-then-whole-address : goal.returns-then-whole-address
returns-then-whole-address c = bits_none _ c.args.address.now c.if-whole-address.true

pub returns-then-not-is_part_clear : goal.returns-then-not-is_part_clear
returns-then-not-is_part_clear c =
    let a = c.args in
    clear-off _ a.address.now (octets-of a.address.now (λ k. (c.type_inv.address k).fits)) c.requires c.if-whole-address.false _ c.is_part_clear.ensures (ap not c.if-not-is_part_clear.true)

pub returns : goal.returns
returns c =
    let a = c.args in
    clear-last _ a.address.now (octets-of a.address.now (λ k. (c.type_inv.address k).fits)) c.requires c.if-whole-address.false _ c.is_part_clear.ensures (ap not c.if-not-is_part_clear.false) _ c.after.ensures _ c.is_zero.ensures
