-- `fec_elements::nested::opens_as` meets its contract.
use Rattle.std.proofs.Common.{rules}
use Rattle.fec_elements.proofs.Holders.{opens-none}
use Rattle.fec_elements.proofs.nested.opens_as.Goals as goal

pub returns-then-is_empty : goal.returns-then-is_empty
returns-then-is_empty c = opens-none _ (search rules)
