-- `octets::parts::clear` meets its contract: as far as the loop has come, the octets are zeros.
use native.Mathlib.Omega.{arith}
use Rattle.octets.proofs.Lists.{filled}
use Rattle.octets.proofs.parts.clear.Goals as goal

pub returns : goal.returns
returns c =
    let l = c.loop-octet in
    filled l.octet-index c.args.octets.now l.octet-items (omega arith) (omega arith) l.invariant.2
