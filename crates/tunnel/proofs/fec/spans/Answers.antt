-- `tunnel::fec::spans` meets its contract: a FEC has the octets that are read of it.
use Rattle.fec_elements.specs.Reading.{fec_in}
use Rattle.fec_elements.proofs.Fecs.{length-root, length-opaque}
use Rattle.fec_elements.proofs.Wholes.{whole-within, opaque-size}
use Rattle.tunnel.specs.Answers.{fec_spans}
use Rattle.tunnel.proofs.fec.spans.Goals as goal

pub returns : goal.returns
unfolding fec_spans fec_in
returns c =
    let i = c.args.identifier.now in
    let w = c.requires.0 in
    rw (length-root i (whole-within i w), length-opaque i (whole-within i w), opaque-size i w, c.two.ensures.value)
