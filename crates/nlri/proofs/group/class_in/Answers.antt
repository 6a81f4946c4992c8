-- `nlri::group::class_in` meets its contract.
use Rattle.nlri.proofs.group.class_in.Goals as goal

pub returns-then-kind-eq-IPV4 : goal.returns-then-kind-eq-IPV4
returns-then-kind-eq-IPV4 c = cc (c.class_under.ensures, c.ipv4.ensures, c.if-kind-eq-IPV4.true)
