-- `octets::parts::after` meets its contract.
use Rattle.octets.proofs.Lists.{lent-rest}
use Rattle.octets.proofs.parts.after.Goals as goal

pub returns : goal.returns
returns c =
    let a = c.args in
    lent-rest a.at a.s.now
