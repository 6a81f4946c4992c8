-- `nlri::read::check_front_fast` meets its contract.
use Rattle.std.proofs.Common.{sym}
use Rattle.nlri.proofs.read.check_front_fast.Goals as goal

pub returns-then-is_surely_read : goal.returns-then-is_surely_read
returns-then-is_surely_read c = sym (c.is_surely_read.ensures c.if-is_surely_read.true)
