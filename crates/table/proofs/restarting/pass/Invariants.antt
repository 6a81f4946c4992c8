-- `table::restarting::pass` meets its contract.
use Rattle.table.specs.Renewing.{Renewing, restart_by}
use Rattle.table.proofs.restarting.pass.Given as goal

abbrev pub invariant-loop-index : goal.invariant-loop-index
invariant-loop-index l = Renewing (restart_by l.mark) l.router l.initial.table l.index l.to l.table
