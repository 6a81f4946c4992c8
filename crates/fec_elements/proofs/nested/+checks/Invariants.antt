-- The depth that is left falls.
use Rattle.std.proofs.Common.{◌+◌}
use Rattle.fec_elements.proofs.nested.+checks.Given as goal

abbrev pub decreases-check_fec : goal.decreases-check_fec
decreases-check_fec l = l.depth + l.depth

abbrev pub decreases-check_opaque : goal.decreases-check_opaque
decreases-check_opaque l = l.depth + l.depth + 1
