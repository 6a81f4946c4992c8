-- `fec_elements::shape::root_family` meets its contract.
use Rattle.std.proofs.Common.{arith}
use Rattle.octets.proofs.AllOctets.{octets-of}
use Rattle.fec_elements.proofs.Shorts.{root_is, no-root}
use Rattle.fec_elements.proofs.shape.root_family.Goals as goal

pub returns-in-262400 : goal.returns-in-262400
returns-in-262400 c =
    (root_is (octets-of c.args.s.now (λ k. (c.type_inv.s k).fits)) c.requires _ c.four_low_first.ensures 1 4 (omega arith) (omega arith)).0 c.in-262400.is

pub returns-in-1049088 : goal.returns-in-1049088
returns-in-1049088 c =
    (root_is (octets-of c.args.s.now (λ k. (c.type_inv.s k).fits)) c.requires _ c.four_low_first.ensures 2 16 (omega arith) (omega arith)).0 c.in-1049088.is

pub returns-in_default : goal.returns-in_default
returns-in_default c = no-root (octets-of c.args.s.now (λ k. (c.type_inv.s k).fits)) c.requires _ c.four_low_first.ensures (omega arith) (omega arith)
