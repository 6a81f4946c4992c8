-- `nlri::sure::is_surely_join` meets its contract.
use Rattle.std.proofs.Common.{refl, arith, eqb-true}
use Rattle.octets.proofs.Choice.{opposite}
use Rattle.nlri.proofs.Functions.Sure.{join-sure}
use Rattle.nlri.proofs.sure.is_surely_join.Goals as goal

pub returns-then-s-kind : goal.returns-then-s-kind
returns-then-s-kind c t = absurd (opposite t refl)

pub bounds-s-octets : goal.bounds-s-octets
bounds-s-octets c = omega (arith, c.type_inv.s 14, c.if-s-kind.false, c.requires)

pub returns-then-s-octets : goal.returns-then-s-octets
returns-then-s-octets c t = absurd (opposite t refl)

pub returns : goal.returns
returns c t = join-sure _ _ c.requires (omega (arith, c.type_inv.s 14, c.if-s-kind.false)) c.if-s-kind.false c.if-s-octets.false (eqb-true _ _ t)
