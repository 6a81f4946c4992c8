-- `mvpn_list::arguments::mode_of` meets its contract.
use Rattle.octets.proofs.Tests.{flags}
use Rattle.mvpn_list.specs.Listing.{mode_of}
use Rattle.mvpn_list.proofs.arguments.mode_of.Goals as goal
use Rattle.mvpn_list.proofs.arguments.mode_of.Goals.{else-count-eq2-via-then-count-eq2+else-is_same, else-count-eq2-via-else-count-eq2}

pub returns-then-is_same : goal.returns-then-is_same
unfolding mode_of
returns-then-is_same c = search flags

pub returns : goal.returns
unfolding mode_of
returns c = elim c.else-count-eq2.branch [ else-count-eq2-via-then-count-eq2+else-is_same w ↦ search flags | else-count-eq2-via-else-count-eq2 w ↦ search flags ]
