-- `groups::prefix::is_begun_alike` meets its contract.
use Rattle.octets.proofs.AllOctets.{octets-of}
use Rattle.groups.proofs.Functions.{alike-off, alike_all, alike-last}
use Rattle.std.proofs.Common.{not}
use Rattle.std.proofs.Common.{ap}
use Rattle.groups.proofs.prefix.is_begun_alike.Goals as goal

pub returns-then-not-is_same : goal.returns-then-not-is_same
returns-then-not-is_same c =
    let a = c.args in
    alike-off _ a.a.now a.b.now (octets-of a.a.now (λ k. (c.type_inv.a k).fits)) (octets-of a.b.now (λ k. (c.type_inv.b k).fits)) c.requires.0 c.requires.1 _ _ c.between.ensures c.between-2.ensures _ c.is_same.ensures (ap not c.if-not-is_same.true)

pub returns-then-whole-a : goal.returns-then-whole-a
returns-then-whole-a c =
    let a = c.args in
    alike_all _ a.a.now a.b.now (octets-of a.a.now (λ k. (c.type_inv.a k).fits)) (octets-of a.b.now (λ k. (c.type_inv.b k).fits)) c.requires.0 c.requires.1 _ _ c.between.ensures c.between-2.ensures _ c.is_same.ensures (ap not c.if-not-is_same.false) c.if-whole-a.true

pub returns : goal.returns
returns c =
    let a = c.args in
    alike-last _ a.a.now a.b.now (octets-of a.a.now (λ k. (c.type_inv.a k).fits)) (octets-of a.b.now (λ k. (c.type_inv.b k).fits)) c.requires.0 c.requires.1 _ _ c.between.ensures c.between-2.ensures _ c.is_same.ensures (ap not c.if-not-is_same.false) _ c.is_part_same.ensures
