-- `salvage::salvaging::look_at_all` meets its contract: place by place, table and list are those of the places looked at.
use Rattle.salvage.specs.Salvaging.{Upto}
use Rattle.salvage.proofs.salvaging.look_at_all.Given as goal

abbrev pub invariant-loop-number : goal.invariant-loop-number
invariant-loop-number l = Upto l.afi l.damaged l.initial.list l.number l.table l.list l.count
