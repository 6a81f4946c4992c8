-- `octets::parts::between` meets its contract.
use Rattle.octets.proofs.Lists.{lent-part}
use Rattle.octets.proofs.parts.between.Goals as goal

pub returns : goal.returns
returns c = let a = c.args in lent-part a.start a.size a.s.now
