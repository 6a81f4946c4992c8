-- Each line ends after its start, so that the lines come to an end.
use Rattle.std.proofs.Common.{length}
use Rattle.mvpn_session.proofs.line.run_all.Given as goal

abbrev pub decreases-loop-rest : goal.decreases-loop-rest
decreases-loop-rest g l = length l.rest
