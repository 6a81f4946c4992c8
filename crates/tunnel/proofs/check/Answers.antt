-- `tunnel::check` meets its contract: its tests are document 01's, in the same order.
use mathlib.Core.Path.{◌∙◌}
use Rattle.octets.specs.Outcome.{number_of}
use Rattle.octets.proofs.Lists.{lent-rest}
use Rattle.octets.proofs.Outcome.{number-picks, number-skips, number-kept}
use Rattle.octets.proofs.Tests.{tests}
use Rattle.tunnel.specs.Attribute.{read_attribute}
use Rattle.tunnel.proofs.check.Goals as goal

pub returns-then-s-gt-MOST : goal.returns-then-s-gt-MOST
unfolding read_attribute number_of
returns-then-s-gt-MOST c = search (tests, number-picks, number-skips)

pub returns-then-s-lt-HEADER : goal.returns-then-s-lt-HEADER
unfolding read_attribute number_of
returns-then-s-lt-HEADER c = search (tests, number-picks, number-skips)

pub returns : goal.returns
unfolding read_attribute
returns c =
    let s = c.args.s.now in
    number-skips _ _ _ _ (search tests) (number-skips _ _ _ _ (search tests) (rw (lent-rest 5 s) at c.check.ensures ∙ number-kept _ _))
