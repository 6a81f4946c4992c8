-- The sets of laws by which a `return` is shown to be what a definition picks: each law concludes in the goal's direction, so that
-- `search tests` walks the definition backwards along the tests that the code has made.
use borrow.Author.Rules.{rules}
use borrow.Author.Tests.{lt-ltb, le-ltb, le-leb, lt-leb, eq-eqb, ne_eqb}
use Rattle.octets.proofs.Choice.{picks, skips, both_true, both_left, both_right, either_left, either_second, either-false, flag_true, flag-false, flag_off, flag-on, true-is, false-is, both-last, either-last}

pub ruleset tests = (rules, picks, skips, both_true, both_left, both_right, either_left, either_second, either-false, lt-ltb, le-ltb, le-leb, lt-leb, eq-eqb, ne_eqb)

-- the same where the code's tests are flags
pub ruleset flags = (tests, flag_true, flag-false, true-is, false-is, both-last, either-last)

-- and where it refuses by their negations
pub ruleset refusals = (flags, flag_off, flag-on)
